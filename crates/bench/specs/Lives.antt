-- What a life of a settling disk answers, said of its cells alone.
use Rattle.std.specs.Prelude.{ℕ, List, Some, None, Option}
use Rattle.disk.specs.declared.Cell.{Cell}
use Rattle.disk.specs.Calls.{Call}
use Rattle.disk.specs.Chains.{Chain}
use Rattle.disk.specs.Settlings.{Went, read_all}
use Rattle.disk.specs.Stops.{Stopped}
use Rattle.disk.specs.Behind.{BehindStop}

-- a call of a settling disk behind a stop and one more stop
abbrev pub BehindTwo : (List Cell × ℕ) × ℕ → Call → (List Cell × ℕ) × ℕ → Type 0
BehindTwo s c t = Stopped (λ u. read_all u.0) BehindStop s.0 s.1 c t.0 t.1

-- the calls with their answers are those of a settling disk over the cells, behind two stops
abbrev pub Lived : List Cell → ℕ → ℕ → List Call → Type 0
Lived cs inner outer calls = (z : (List Cell × ℕ) × ℕ) × Chain BehindTwo ((cs, inner), outer) calls z

-- the same behind one stop, or plain
abbrev pub Relived : List Cell → Option ℕ → List Call → Type 0
Relived cs (Some k) calls = (z : List Cell × ℕ) × Chain BehindStop (cs, k) calls z
Relived cs None calls = (z : List Cell) × Chain Went cs calls z
