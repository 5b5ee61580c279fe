-- A settling disk over its own cells behind a stop, seen as its cells and the calls left.
use Rattle.std.proofs.Common.{ℕ, List}
use Rattle.disk.specs.declared.Cell.{Cell}
use Rattle.disk.specs.declared.Settling.{Settling}
use Rattle.disk.specs.declared.Stop.{Stop}
use Rattle.disk.specs.Calls.{Call}
use Rattle.disk.specs.Behind.{BehindStop}
use Rattle.disk.proofs.Behind as behind

abbrev own : List Cell → List Cell
own cs = cs

abbrev pub own_cells : Settling (List Cell) → List Cell
own_cells = behind.cells_of own

abbrev pub stopped_once : Stop (Settling (List Cell)) → List Cell × ℕ
stopped_once = behind.stopped_once own

abbrev pub DidPlain : Settling (List Cell) → Call → Settling (List Cell) → Type 0
DidPlain = behind.DidPlain own

abbrev pub DidOnce : Stop (Settling (List Cell)) → Call → Stop (Settling (List Cell)) → Type 0
DidOnce = behind.DidOnce own

pub once : (u : Stop (Settling (List Cell))) (c : Call) (v : Stop (Settling (List Cell))) → DidOnce u c v → BehindStop (stopped_once u) c (stopped_once v)
once = behind.once own
