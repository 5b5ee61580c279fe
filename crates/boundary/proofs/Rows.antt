-- What a change of one row leaves of the half-edges, and how a run goes on.
use Rattle.std.proofs.Common.{◌≡◌, ℕ, zero, suc, ◌/◌, Bool, true, false, cond, ◌≢◌, ◌⊎◌, List, [], ◌∷◌, length, set, Some, None, Option, sym, refl, ap, ◌∙◌, inl, inr, arith, get_or-set_other, get_or-set_same, eq-eqb, ne_eqb}
use native.Mathlib.Decide.{ℕ_discrete, dec_lt}
use Rattle.std.specs.Option.{option_map}
use Rattle.std.proofs.lemmas.List.{set_past}
use Rattle.boundary.specs.declared.Edge.{Edge}
use Rattle.boundary.specs.Tables.{row, side, even, next_in, run}
use Rattle.boundary.specs.Changes.{owned_side, owned_one}

-- the row m after a change of the row k: changed, or as it was
pub row_set : {X : Type 0} (f : Option X → Option X) (t : List (Option X)) (k m : ℕ) → ((m ≡ k) × (row (set t k (f (row t k))) m ≡ f (row t m))) ⊎ (row (set t k (f (row t k))) m ≡ row t m)
row_set f t k m =
    elim (ℕ_discrete m k) [
      | no apart ↦ inr (get_or-set_other t k m (f (row t k)) None apart)
      | yes same ↦ elim (dec_lt k (length t)) [
        | yes lt ↦ inl (same, ap (row (set t k (f (row t k)))) same ∙ get_or-set_same t k (f (row t k)) None lt ∙ ap (λ i. f (row t i)) (sym same))
        | no past ↦ inr (ap (λ l. row l m) (set_past t k (f (row t k)) (omega arith)))
      ]
    ]

next_side : (r : Option Edge) (b c : Bool) (l : ℕ) → (side (option_map (owned_side b l) r) c).next ≡ (side r c).next
next_side None b c l = refl
next_side (Some e) true true l = refl
next_side (Some e) true false l = refl
next_side (Some e) false true l = refl
next_side (Some e) false false l = refl

-- another loop for one half-edge leaves where each half-edge leads
pub next_owned : (es : List (Option Edge)) (h l j : ℕ) → next_in (owned_one es h l) j ≡ next_in es j
next_owned es h l j =
    elim (row_set (option_map (owned_side (even h) l)) es (h / 2) (j / 2)) [
      | inl changed ↦ ap (λ r. (side r (even j)).next) changed.1 ∙ next_side (row es (j / 2)) (even h) (even j) l
      | inr same ↦ ap (λ r. (side r (even j)).next) same
    ]

pub run_on : (f : ℕ → ℕ) (n h k : ℕ) → h ≢ k → run f (suc n) h k ≡ h ∷ run f n (f h) k
unfolding run
run_on f n h k apart = ap (λ b. cond b [] (h ∷ run f n (f h) k)) (ne_eqb h k apart)

pub run_ends : (f : ℕ → ℕ) (n h k : ℕ) → h ≡ k → run f n h k ≡ []
unfolding run
run_ends f zero h k same = refl
run_ends f (suc n) h k same = ap (λ b. cond b [] (h ∷ run f n (f h) k)) (eq-eqb h k same)

pub run_none : (f : ℕ → ℕ) (h k : ℕ) → run f 0 h k ≡ []
unfolding run
run_none f h k = refl
