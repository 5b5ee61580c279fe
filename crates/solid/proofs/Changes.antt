-- A loop that changes each used row of a table.
use Rattle.std.proofs.Common.{◌≡◌, ℕ, ◌+◌, ◌<◌, List, ◌++◌, map, take, drop, length, set, get_or, Option, ap, ◌∙◌}
use Rattle.std.specs.Option.{option_map}
use Rattle.std.proofs.lemmas.List.Edits.{map_over_more}

-- where P says what a function f gives, f has changed the first i rows, and the others are as they were
abbrev pub Changed : {X : Type 0} → (X → X → Type 0) → ℕ → List (Option X) → List (Option X) → Type 0
Changed {X} P i old new = (f : X → X) → ((x y : X) → P x y → y ≡ f x) → new ≡ map (option_map f) (take i old) ++ drop i old

module _ {X : Type 0} (f : X → X) (old now new : List (Option X)) (i : ℕ) (item : Option X) where
  pub change_more : i < length old → now ≡ map (option_map f) (take i old) ++ drop i old → item ≡ get_or now i item → (out : Option X) → out ≡ option_map f item → new ≡ set now i out → new ≡ map (option_map f) (take (i + 1) old) ++ drop (i + 1) old
  change_more lt inv at out gives is = is ∙ ap (set now i) gives ∙ map_over_more (option_map f) old now i item lt inv at
