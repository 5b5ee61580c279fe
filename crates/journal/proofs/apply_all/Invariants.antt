use Rattle.std.proofs.Common.{◌≡◌, drop}
use Rattle.standing.specs.Openings.{applied_all}
use Rattle.journal.proofs.apply_all.Given as goal

abbrev pub invariant-loop-i : goal.invariant-loop-i
invariant-loop-i l = applied_all l.solid.boundary l.i (drop l.i l.edit-items) ≡ applied_all l.initial.solid.boundary 0 l.edit-items
