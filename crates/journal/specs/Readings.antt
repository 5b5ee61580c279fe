-- Reading a journal: which blocks are read, and what is answered.
use Rattle.std.specs.Prelude.{◌≡◌, ℕ, ◌+◌, ◌<◌, ◌≤◌, true, ◌⊎◌, List, [], ◌∷◌, ◌++◌, length, take, is_ok, Some, None, Ok, Err, Option, Result}
use Rattle.boundary.specs.declared.Boundary.{Boundary}
use Rattle.boundary.specs.declared.Edit.{Edit}
use Rattle.boundary.specs.Operators.{empty}
use Rattle.disk.specs.declared.Content.{Content}
use Rattle.disk.specs.declared.DiskFault.TheVariants.{PowerGone}
use Rattle.disk.specs.Calls.{Call, reading}
use Rattle.disk.specs.Chains.{Chain}
use Rattle.faults.specs.declared.SolidFault.{SolidFault}
use Rattle.faults.specs.declared.JournalFault.{JournalFault}
use Rattle.faults.specs.declared.JournalFault.TheVariants.{Disk, NoEdits, Full, BadSize, Unfit}
use Rattle.records.specs.declared.Record.{Record}
use Rattle.standing.specs.Standing.{scan}
use Rattle.standing.specs.Openings.{Found, applied_all, position_of, outcome, opening}
use Rattle.standing.specs.Plans.{served_reads}
use Rattle.journal.specs.declared.Extent.{Extent}
use Rattle.journal.specs.declared.Reader.{Reader}
use Rattle.journal.specs.declared.draft.Draft.{Draft}
use Rattle.journal.specs.Drafts.{drafted}

-- the edits es were applied to b one after the other, which left b'; or one was refused, at a position of the list
abbrev pub Applied : Boundary → List Edit → Result (Unit {0}) SolidFault → Boundary → Type 0
Applied b es (Ok u) b' = applied_all b 0 es ≡ Ok b'
Applied b es (Err f) b' = (applied_all b 0 es ≡ Err f) × (position_of f < length es)

-- what a reader has found so far
abbrev pub found_so_far : Reader → Found
found_so_far r = record { boundary = r.solid.boundary; batches = r.extent.batches; tail = r.extent.tail }

-- what is found with the records rs still to come, where f is found so far and a batch is being read; where none is, the reading has ended
abbrev pub found_with : Found → Option Draft → List (Option Record) → Result Found JournalFault
found_with f None rs = Ok f
found_with f (Some d) rs = outcome f.tail f.batches f.boundary (scan (f.batches + 1) (drafted d) rs)

-- what a reader will find
abbrev pub to_find : Reader → List (Option Record) → Result Found JournalFault
to_find r rs = found_with (found_so_far r) r.draft rs

-- the edits of the batch that is being read
abbrev pub begun : Option Draft → List Edit
begun None = []
begun (Some d) = drafted d

-- a reader that has seen no block, of n
pub record Starts (n : ℕ) (r : Reader) : Type 0 where
  pub boundary : r.solid.boundary ≡ empty
  pub count : r.extent.count ≡ n
  pub batches : r.extent.batches ≡ 0
  pub tail : r.extent.tail ≡ 0
  pub draft : Draft
  pub reads : r.draft ≡ Some draft
  pub none : drafted draft ≡ []

-- the reader has seen at most k blocks
pub record Within (r : Reader) (k : ℕ) : Type 0 where
  pub batches : r.extent.batches ≤ k
  pub tail : r.extent.tail + length (begun r.draft) ≤ k

-- a reader r that is given the record x, if any, becomes s: with x read, as much is still to be found; or an edit of the batch that x closes is refused
abbrev pub Advanced : Reader → Option Record → Result (Unit {0}) JournalFault → Reader → Type 0
Advanced r x (Ok u) s = ((rs : List (Option Record)) → to_find r (x ∷ rs) ≡ to_find s rs) × ((k : ℕ) → Within r k → Within s (k + 1)) × (s.extent.count ≡ r.extent.count)
Advanced r x (Err (Disk f)) s = ⊥
Advanced r x (Err (NoEdits t)) s = ⊥
Advanced r x (Err (Full t)) s = ⊥
Advanced r x (Err (BadSize n)) s = ⊥
Advanced r x (Err (Unfit k f)) s = (rs : List (Option Record)) → to_find r (x ∷ rs) ≡ Err (Unfit k f)

-- a count of blocks that holds a journal
pub record HoldsJournal (n : ℕ) : Type 0 where
  pub low : 2 ≤ n
  pub high : n ≤ 1000

module _ {S : Type 0} (reads : S → List Content) (did : S → Call → S → Type 0) where
  -- Reading was refused. Where the count is bad no block was read. Else the blocks were read from 0 on: up to one whose read was answered 20, or up to one that closes a batch with a refused edit; nothing was refused before.
  abbrev pub Failed : S → JournalFault → S → Type 0
  Failed d (Disk f) e = HoldsJournal (length (reads d)) × (k : ℕ) × (k < length (reads d)) × (f ≡ PowerGone (Some k)) × (is_ok (opening (take k (reads d))) ≡ true) × Chain did d (served_reads 0 (take k (reads d)) ++ reading k (Err f) ∷ []) e
  Failed d (NoEdits t) e = ⊥
  Failed d (Full t) e = ⊥
  Failed d (BadSize n) e = (n ≡ length (reads d)) × ((n < 2) ⊎ (1000 < n)) × (e ≡ d)
  Failed d (Unfit b f) e = HoldsJournal (length (reads d)) × (k : ℕ) × (k < length (reads d)) × (is_ok (opening (take k (reads d))) ≡ true) × (opening (take (k + 1) (reads d)) ≡ Err (Unfit b f)) × Chain did d (served_reads 0 (take (k + 1) (reads d))) e

  -- every block was read once, rising, and f is what was found
  pub record ReadAll (d : S) (f : Found) (e : S) : Type 0 where
    pub size : HoldsJournal (length (reads d))
    pub calls : Chain did d (served_reads 0 (reads d)) e
    pub is : opening (reads d) ≡ Ok f

  -- the same of a reader that has come to the end, and may be refused
  abbrev pub Read : S → Result Reader JournalFault → S → Type 0
  Read d (Ok r) e = ReadAll d (found_so_far r) e × (r.extent.count ≡ length (reads d))
  Read d (Err f) e = Failed d f e

  -- the answer of a reading: the solid b, and the extent or a fault; after a fault the solid is empty
  abbrev pub Looked : S → Boundary → Result Extent JournalFault → S → Type 0
  Looked d b (Ok x) e = ReadAll d (record { boundary = b; batches = x.batches; tail = x.tail }) e × (x.count ≡ length (reads d))
  Looked d b (Err f) e = Failed d f e × (b ≡ empty)
