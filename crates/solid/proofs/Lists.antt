-- A loop that carries out the edits of a list, one after another.
use Rattle.std.proofs.Common.{◌≡◌, ℕ, ◌+◌, ◌<◌, ◌≤◌, List, length, get_or, drop, sym, ap, ◌∙◌, subst}
use Rattle.std.proofs.lemmas.List.{at_drop_more, at_drop_all}
use Rattle.boundary.specs.declared.Boundary.{Boundary}
use Rattle.boundary.specs.declared.Edit.{Edit}
use Rattle.boundary.specs.Operators.{empty}
use Rattle.boundary.specs.Refusals.{after}
use Rattle.rules.specs.Histories.{after_all, handles_made}
use Rattle.rules.specs.Rules.{Sound}
use Rattle.rules.proofs.Histories.{stays_sound}

module _ (es : List Edit) where
  pub edit_more : (b b' : Boundary) (i : ℕ) (d : Edit) → after_all b (drop i es) ≡ after_all empty es → i < length es → b' ≡ after b (get_or es i d) → after_all b' (drop (i + 1) es) ≡ after_all empty es
  edit_more b b' i d inv lt is = ap (λ x. after_all x (drop (i + 1) es)) is ∙ sym (at_drop_more (after_all b) es i d lt) ∙ inv

  -- the whole list is carried out
  pub record Built (b : Boundary) : Type 0 where
    pub is : b ≡ after_all empty es
    pub sound : Sound b
    pub handles : b.handles ≡ handles_made empty es

  pub edits_all : (b : Boundary) (i : ℕ) → after_all b (drop i es) ≡ after_all empty es → length es ≤ i → Built b
  edits_all b i inv past =
      let is = sym (at_drop_all (after_all b) es i past) ∙ inv in
      let kept = stays_sound es in
      record { is = is; sound = subst Sound (sym is) kept.sound; handles = ap (λ x. x.handles) is ∙ kept.handles }
