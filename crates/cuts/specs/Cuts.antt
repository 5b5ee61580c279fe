-- A batch that is journaled behind a stop, and what is read after a loss of power, said of the cells alone.
use Rattle.std.specs.Prelude.{◌≡◌, ℕ, ◌<◌, Bool, false, List, [], ◌∷◌, ℤ, pos, is_some, Result, slice_index_or}
use Rattle.boundary.specs.declared.Boundary.{Boundary}
use Rattle.boundary.specs.declared.Edit.{Edit}
use Rattle.boundary.specs.declared.Edit.TheVariants.{Mvfs, Mev}
use Rattle.boundary.specs.declared.Point.{Point}
use Rattle.disk.specs.declared.Cell.{Cell}
use Rattle.disk.specs.Settlings.{Went, no_cell, read_all, lost, blank_cells}
use Rattle.faults.specs.declared.JournalFault.{JournalFault}
use Rattle.journal.specs.declared.Extent.{Extent}
use Rattle.journal.specs.Appends.{Appends}
use Rattle.journal.specs.Readings.{Looked}
use Rattle.disk.specs.Behind.{BehindStop}

-- a point of the plane z = 0
abbrev pub flat : ℤ → ℤ → Point
flat x y = record { x = x; y = y; z = pos 0 }

-- a vertex, and two edges one behind the other
abbrev pub the_batch : List Edit
the_batch =
    Mvfs (pos 0) (pos 0) (pos 0) (pos 0) (flat (pos 0) (pos 0))
    ∷ Mev (pos 512) (pos 0) (pos 1) (flat (pos 256) (pos 0))
    ∷ Mev (pos 1) (pos 1) (pos 2) (flat (pos 256) (pos 256))
    ∷ []

-- nothing is journaled yet, on eight blocks
abbrev pub nothing : Extent
nothing = record { count = 8; batches = 0; tail = 0 }

-- the batch was appended to a settling disk over the cells cs, behind a stop with the count k, which left the cells ds
pub record Appended (cs : List Cell) (k : ℕ) (ds : List Cell) : Type 0 where
  pub answer : Result Extent JournalFault
  pub left : ℕ
  pub calls : Appends BehindStop (cs, k) nothing the_batch answer (ds, left)

-- whether a cell waits
abbrev pub waits : Cell → Bool
waits a = is_some a.waiting

-- after the append to eight blank blocks these wait
pub record WaitsAfter (k : ℕ) (ws : List Bool) : Type 0 where
  pub cells : List Cell
  pub appended : Appended (blank_cells 8) k cells
  pub marks : (i : ℕ) → i < 8 → slice_index_or ws i false ≡ waits (slice_index_or cells i no_cell)

-- the power was lost after it with the letters ls, and of the cells that this left a reading gave the solid b and the answer r
pub record Survived (k : ℕ) (ls : List ℕ) (b : Boundary) (r : Result Extent JournalFault) : Type 0 where
  pub before : List Cell
  pub after : List Cell
  pub appended : Appended (blank_cells 8) k before
  pub looked : Looked read_all Went (lost ls before) b r after
