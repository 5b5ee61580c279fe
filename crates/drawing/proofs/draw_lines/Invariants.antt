use Rattle.std.proofs.Common.{◌≡◌, ◌+◌, ◌++◌, string_bytes}
use Rattle.std.specs.Iterator.Adapters.{enumerate_source, enumerate_count}
use Rattle.boundary.specs.Operators.{empty}
use Rattle.words.specs.Words.{lines}
use Rattle.words.specs.Left.{lines_left}
use Rattle.drawing.specs.Drawing.{drawn_from}
use Rattle.drawing.proofs.draw_lines.Given as goal

abbrev pub invariant-loop-index : goal.invariant-loop-index
invariant-loop-index l = record {
  can : (goal.iterator-loop-index).can_next l.index-iterator;
  ends : (goal.iterator-loop-index).is_finite l.index-iterator;
  sofar : string_bytes l.out ++ drawn_from (enumerate_count l.index-iterator + 1) l.solid.boundary (lines_left (enumerate_source l.index-iterator)) ≡ drawn_from 1 empty (lines l.input);
}
