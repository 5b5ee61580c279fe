use Rattle.std.proofs.Common.{◌≡◌, ℕ, ◌++◌, length, take, drop}
use Rattle.disk.specs.declared.Cell.{Cell}
use Rattle.disk.specs.Settlings.{changed}
use Rattle.disk.proofs.Settling.change_all.Given as goal

abbrev pub invariant-loop-k : goal.invariant-loop-k
invariant-loop-k g l = ((f : ℕ → Cell → Cell) → ((k : ℕ) (a r : Cell) → g.F.Fn.post l.by (k, (a, tt)) r → r ≡ f k a) → g.C.Cells.held l.self.cells ≡ changed f 0 (take l.k (g.C.Cells.held l.initial.self.cells)) ++ drop l.k (g.C.Cells.held l.initial.self.cells)) × (length (g.C.Cells.held l.self.cells) ≡ length (g.C.Cells.held l.initial.self.cells))
