use Rattle.std.proofs.Common.{◌≡◌, ◌-◌, length, take}
use Rattle.words.specs.Left.{tokens_left}
use Rattle.drawing.specs.Commands.{numbers}
use Rattle.drawing.proofs.Arguments.{ahead}
use Rattle.drawing.proofs.numbers.Given as goal

abbrev pub invariant-loop-number : goal.invariant-loop-number
invariant-loop-number g l = (length l.number-items ≡ g.row.N) × (ahead (take l.number-index l.number-items) (numbers (g.row.N - l.number-index) (tokens_left l.rest)) ≡ numbers g.row.N (tokens_left l.initial.rest))
