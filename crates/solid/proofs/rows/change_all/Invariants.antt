use Rattle.solid.proofs.Changes.{Changed}
use Rattle.solid.proofs.rows.change_all.Given as goal

abbrev pub invariant-loop-row : goal.invariant-loop-row
invariant-loop-row g l = Changed (goal.F-post g l.change) l.row-index l.initial.rows l.rows
