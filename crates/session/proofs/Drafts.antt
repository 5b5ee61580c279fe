-- What an edit of a batch learns of its draft.
use Rattle.std.proofs.Common.{◌≡◌, ℕ, ◌<◌, Bool, true, false, cond, ltb, List, length, Some, Ok, Err, Result, refl, ap, arith, ltb-true}
use Rattle.boundary.specs.declared.Boundary.{Boundary}
use Rattle.boundary.specs.declared.Edit.{Edit}
use Rattle.boundary.specs.declared.Refusal.{Refusal}
use Rattle.boundary.specs.Operators.{applied}
use Rattle.boundary.specs.Refusals.{refusal, after, unchanged}
use Rattle.faults.specs.declared.SolidFault.{SolidFault}
use Rattle.faults.specs.declared.SolidFault.TheVariants.{TooMany}
use Rattle.journal.specs.Drafts.{push_answer}

-- there is room for one edit more, at this position
pub has_room : (es : List Edit) (p : ℕ) → Ok p ≡ push_answer es → (length es < 16) × (p ≡ length es)
has_room es p h = go (ltb (length es) 16) refl h
  where
    go : (b : Bool) → ltb (length es) 16 ≡ b → ◌≡◌ {A = Result ℕ SolidFault} (Ok p) (cond b (Ok (length es)) (Err TooMany)) → (length es < 16) × (p ≡ length es)
    go true q h = (ltb-true (length es) 16 q, cc)
    go false q h = let z : ◌≡◌ {A = ℕ} 0 1 = cc in absurd (omega arith)

-- a refused edit leaves the boundary as it was
pub refused_same : (b : Boundary) (e : Edit) (why : Refusal) → refusal b e ≡ Some why → after b e ≡ b
unfolding after
refused_same b e why h = ap (λ o. unchanged o b (applied b e)) h
