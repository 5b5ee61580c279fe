-- The edits that are left give, from the solid so far, what all of them give.
use Rattle.std.proofs.Common.{◌≡◌, drop}
use Rattle.boundary.specs.Operators.{empty}
use Rattle.rules.specs.Histories.{after_all}
use Rattle.solid.proofs.Solid.build.Given as goal

abbrev pub invariant-loop-edit : goal.invariant-loop-edit
invariant-loop-edit l = after_all l.built.boundary (drop l.edit-index l.edits) ≡ after_all empty l.edits
