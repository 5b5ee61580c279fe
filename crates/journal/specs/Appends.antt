-- Appending a batch: which disk calls are made, and what is answered.
use Rattle.std.specs.Prelude.{◌≡◌, ℕ, ◌+◌, ◌<◌, ◌≤◌, min, List, length, Ok, Err, Result}
use Rattle.boundary.specs.declared.Edit.{Edit}
use Rattle.disk.specs.declared.DiskFault.{DiskFault}
use Rattle.disk.specs.Calls.{Call}
use Rattle.faults.specs.declared.JournalFault.{JournalFault}
use Rattle.faults.specs.declared.JournalFault.TheVariants.{Disk, NoEdits, Full}
use Rattle.standing.specs.Plans.{plan, Carried}
use Rattle.journal.specs.declared.Extent.{Extent}

-- the number of the next batch; no disk holds so many that the limit is met
abbrev pub next_number : Extent → ℕ
next_number x = min (x.batches + 1) 4294967295

-- the extent behind a batch of n edits that is appended
abbrev pub extended : Extent → ℕ → Extent
extended x n = record { count = x.count; batches = next_number x; tail = x.tail + n + 1 }

-- what is answered where the disk calls ended so
abbrev pub append_answer : Extent → ℕ → Result (Unit {0}) DiskFault → Result Extent JournalFault
append_answer x n (Ok u) = Ok (extended x n)
append_answer x n (Err f) = Err (Disk f)

-- The batch es was appended at the extent x: refused where it has no edits, then where it does not fit, with no disk call; else the calls of its plan were made, up to the first that was refused.
pub data Appends {S : Type 0} (did : S → Call → S → Type 0) (d : S) (x : Extent) (es : List Edit) (r : Result Extent JournalFault) (e : S) : Type 0 where
  no_edits : length es ≡ 0 → r ≡ Err (NoEdits x.tail) → e ≡ d → Appends did d x es r e
  no_room : 0 < length es → x.count < x.tail + length es + 1 → r ≡ Err (Full x.tail) → e ≡ d → Appends did d x es r e
  carried : 0 < length es → x.tail + length es + 1 ≤ x.count → (w : Result (Unit {0}) DiskFault) → Carried did d (plan (next_number x) x.tail es) w e → r ≡ append_answer x (length es) w → Appends did d x es r e
