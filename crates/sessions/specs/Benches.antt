-- The law over lists of calls, said of a settling disk behind a stop.
use Rattle.std.specs.Prelude.{ℕ, List}
use Rattle.disk.specs.declared.Content.{Content}
use Rattle.disk.specs.declared.Settling.{Settling}
use Rattle.disk.specs.declared.Stop.{Stop}
use Rattle.disk.specs.Calls.{Call}
use Rattle.disk.specs.Settlings.{May, Went, blank_cells, read_all}
use Rattle.disk.specs.Stops.{Stopped}
use Rattle.runs.specs.declared.Step.{Step}
use Rattle.runs.specs.Laws.{KeptBy}
use Rattle.disk.specs.declared.Cell.{Cell}

-- a settling disk behind a stop
abbrev pub Make : Type 0
Make = Stop (Settling (List Cell))

abbrev pub reads_of : Make → List Content
reads_of s = read_all s.disk.cells

abbrev pub may_of : Make → ℕ → Content → Type 0
may_of s = May s.disk.cells

-- a call of the settling disk
abbrev pub below : Settling (List Cell) → Call → Settling (List Cell) → Type 0
below s c t = Went s.cells c t.cells

abbrev pub did_of : Make → Call → Make → Type 0
did_of s c t = Stopped (λ u. read_all u.cells) below s.disk s.left c t.disk t.left

-- sixteen blank cells behind a stop of 999
abbrev pub first_disk : Make
first_disk = record { disk = record { cells = blank_cells 16 }; left = 999 }

-- these steps are a run from the disk d, of which the law speaks
abbrev pub Law : Make → List Step → Type 0
Law d ss = (z : Make) × KeptBy reads_of may_of did_of d ss z
