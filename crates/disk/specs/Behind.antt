-- A settling disk behind a stop, said of its cells and of the calls that are left.
use Rattle.std.specs.Prelude.{ℕ, List}
use Rattle.disk.specs.declared.Cell.{Cell}
use Rattle.disk.specs.Calls.{Call}
use Rattle.disk.specs.Settlings.{Went, read_all}
use Rattle.disk.specs.Stops.{Stopped}

-- one call took the cells and the calls left from s to t
abbrev pub BehindStop : List Cell × ℕ → Call → List Cell × ℕ → Type 0
BehindStop s c t = Stopped read_all Went s.0 s.1 c t.0 t.1
