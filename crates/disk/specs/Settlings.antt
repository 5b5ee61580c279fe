-- The settling disk: cells, each with a settled content, and a newest one where that waits to be settled.
use Rattle.std.specs.Prelude.{◌≡◌, ℕ, ◌+◌, ◌<◌, cond, ◌⊎◌, List, [], ◌∷◌, map, length, replicate, Some, None, Ok, Err, Option, Result, ◌==◌, slice_index, slice_index_or, slice_set}
use Rattle.std.specs.List.{slice_get}
use Rattle.std.specs.Option.{unwrap_or}
use Rattle.disk.specs.declared.Content.{Content}
use Rattle.disk.specs.declared.Content.TheVariants.{Bytes, Unreadable}
use Rattle.disk.specs.declared.Cell.{Cell}
use Rattle.disk.specs.declared.DiskFault.{DiskFault}
use Rattle.disk.specs.declared.DiskFault.TheVariants.{NoSuchBlock}
use Rattle.disk.specs.Calls.{Call, reading, writing, flushing}
use Rattle.disk.specs.Contents.{zeros}

-- a cell that holds one content, and does not wait
abbrev pub still : Content → Cell
still x = record { settled = x; waiting = None }

-- what is said of a cell past the end
abbrev pub no_cell : Cell
no_cell = still Unreadable

-- what a block reads: the newest content where it waits, else the settled
abbrev pub read_cell : Cell → Content
read_cell c = unwrap_or c.waiting c.settled

-- what each block reads
abbrev pub read_all : List Cell → List Content
read_all cs = map read_cell cs

-- a newest content that waits may stand after a loss, and the mark unreadable
abbrev pub MayCome : Option Content → Content → Type 0
MayCome None c = ⊥
MayCome (Some newest) c = (c ≡ newest) ⊎ (c ≡ Unreadable)

-- what may stand in a block after a loss: the settled content, or what may come where a newest one waits
abbrev pub MayStand : Cell → Content → Type 0
MayStand a c = (c ≡ a.settled) ⊎ MayCome a.waiting c

-- the same of block k
abbrev pub May : List Cell → ℕ → Content → Type 0
May cs k c = (k < length cs) × MayStand (slice_index_or cs k no_cell) c

-- what a read of block k answers
abbrev pub read_answer : ℕ → Option Cell → Result Content DiskFault
read_answer k (Some a) = Ok (read_cell a)
read_answer k None = Err (NoSuchBlock k)

-- what a write to block k answers
abbrev pub write_answer : ℕ → Option Cell → Result (Unit {0}) DiskFault
write_answer k (Some a) = Ok tt
write_answer k None = Err (NoSuchBlock k)

-- a cell after a write: the newest content is stored, and waits
abbrev pub written : Cell → List ℕ → Cell
written a bs = record { settled = a.settled; waiting = Some (Bytes bs) }

-- the cells after a write to block k; past the end nothing changes
abbrev pub write_at : List Cell → ℕ → List ℕ → List Cell
write_at cs k bs = slice_set cs k (written (slice_index_or cs k no_cell) bs)

-- a cell after a flush: what it reads is settled
abbrev pub settle_cell : Cell → Cell
settle_cell a = still (read_cell a)

-- the call took the cells from cs to ds: its answer, and the cells afterwards
abbrev pub Went : List Cell → Call → List Cell → Type 0
Went cs (reading k r) ds = (r ≡ read_answer k (slice_get cs k)) × (ds ≡ cs)
Went cs (writing k bs r) ds = (r ≡ write_answer k (slice_get cs k)) × (ds ≡ write_at cs k bs)
Went cs (flushing r) ds = (r ≡ Ok tt) × (ds ≡ map settle_cell cs)

-- what a loss with a letter leaves of a settled content and one that waits: n keeps the newest, u makes it unreadable, any other keeps the settled
abbrev pub left_by : ℕ → Content → Option Content → Content
left_by l settled None = settled
left_by l settled (Some newest) = cond (l == 110) newest (cond (l == 117) Unreadable settled)

-- a cell after a loss with a letter
abbrev pub lost_cell : ℕ → Cell → Cell
lost_cell l a = still (left_by l a.settled a.waiting)

-- the cells from block i on, each changed by what f makes of its number and of it
abbrev pub changed : (ℕ → Cell → Cell) → ℕ → List Cell → List Cell
changed f i [] = []
changed f i (a ∷ cs) = f i a ∷ changed f (i + 1) cs

-- the cells after a loss, with a letter a block; where there is none, 0 stands for it
abbrev pub lost : List ℕ → List Cell → List Cell
lost ls cs = changed (λ i. lost_cell (slice_index ls i)) 0 cs

-- n cells that are still and hold 32 zero bytes
abbrev pub blank_cells : ℕ → List Cell
blank_cells n = replicate n (still zeros)
