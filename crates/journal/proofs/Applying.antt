-- Applying the edits of a batch, one after the other.
use Rattle.std.proofs.Common.{◌≡◌, ℕ, ◌+◌, ◌<◌, List, length, get_or, drop, Some, None, Ok, Err, Option, Result, sym, refl, ap, ◌∙◌}
use Rattle.std.proofs.lemmas.List.{at_drop_more}
use Rattle.boundary.specs.declared.Boundary.{Boundary}
use Rattle.boundary.specs.declared.Edit.{Edit}
use Rattle.boundary.specs.declared.Refusal.{Refusal}
use Rattle.boundary.specs.Refusals.{refusal, after, answer}
use Rattle.faults.specs.declared.SolidFault.{SolidFault}
use Rattle.faults.specs.declared.SolidFault.TheVariants.{Refused}
use Rattle.standing.specs.Openings.{applied_all}

pub answered_none : {u : Unit {0}} (o : Option Refusal) → Ok u ≡ answer o → o ≡ None
answered_none None h = refl
answered_none (Some why) h = cc

pub answered_some : {w : Refusal} (o : Option Refusal) → Err w ≡ answer o → o ≡ Some w
answered_some None h = cc
answered_some (Some why) h = cc

abbrev apply_by : Boundary → ℕ → Edit → List Edit → Option Refusal → Result Boundary SolidFault
apply_by b i e es o = elim o [ None ↦ applied_all (after b e) (i + 1) es | Some why ↦ Err (Refused why i) ]

module _ (b : Boundary) (i : ℕ) (es : List Edit) (d : Edit) (lt : i < length es) where
  pub applied_more : {u : Unit {0}} (b' : Boundary) → Ok u ≡ answer (refusal b (get_or es i d)) → b' ≡ after b (get_or es i d) → applied_all b' (i + 1) (drop (i + 1) es) ≡ applied_all b i (drop i es)
  applied_more b' o q =
      ap (λ x. applied_all x (i + 1) (drop (i + 1) es)) q
      ∙ sym (ap (apply_by b i (get_or es i d) (drop (i + 1) es)) (answered_none (refusal b (get_or es i d)) o))
      ∙ sym (at_drop_more (applied_all b i) es i d lt)

  pub applied_refused : {w : Refusal} → Err w ≡ answer (refusal b (get_or es i d)) → applied_all b i (drop i es) ≡ Err (Refused w i)
  applied_refused o = at_drop_more (applied_all b i) es i d lt ∙ ap (apply_by b i (get_or es i d) (drop (i + 1) es)) (answered_some (refusal b (get_or es i d)) o)
