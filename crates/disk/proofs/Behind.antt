-- A settling disk behind a stop, seen as its cells and the calls left. `held` gives the cells of what holds them.
use Rattle.std.proofs.Common.{ℕ, List}
use Rattle.disk.specs.declared.Cell.{Cell}
use Rattle.disk.specs.declared.Settling.{Settling}
use Rattle.disk.specs.declared.Stop.{Stop}
use Rattle.disk.specs.Calls.{Call}
use Rattle.disk.specs.Settlings.{Went, read_all}
use Rattle.disk.specs.Stops.{Stopped}
use Rattle.disk.specs.Behind.{BehindStop}
use Rattle.disk.proofs.Maps.{stopped_map}

module _ {C : Type 0} (held : C → List Cell) where
  abbrev pub cells_of : Settling C → List Cell
  cells_of w = held w.cells

  abbrev pub stopped_once : Stop (Settling C) → List Cell × ℕ
  stopped_once u = (cells_of u.disk, u.left)

  abbrev pub DidPlain : Settling C → Call → Settling C → Type 0
  DidPlain w c x = Went (cells_of w) c (cells_of x)

  abbrev pub DidOnce : Stop (Settling C) → Call → Stop (Settling C) → Type 0
  DidOnce u c v = Stopped (λ w. read_all (cells_of w)) DidPlain u.disk u.left c v.disk v.left

  pub once : (u : Stop (Settling C)) (c : Call) (v : Stop (Settling C)) → DidOnce u c v → BehindStop (stopped_once u) c (stopped_once v)
  once u c v w = stopped_map cells_of DidPlain Went (λ d c e x. x) read_all u.disk u.left c v.disk v.left w
