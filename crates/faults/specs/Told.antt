-- What a fault tells: its number, the layer it comes from, and its place.
use Rattle.boundary.specs.Refusals.{code}
use Rattle.disk.specs.Faults.{disk_told}
use Rattle.disk.specs.declared.Told.{Told}
use Rattle.disk.specs.declared.Layer.TheVariants.{Journal, Solid}
use Rattle.faults.specs.declared.SolidFault.{SolidFault}
use Rattle.faults.specs.declared.SolidFault.TheVariants.{Refused, TooMany}
use Rattle.faults.specs.declared.JournalFault.{JournalFault}
use Rattle.faults.specs.declared.JournalFault.TheVariants.{Disk, NoEdits, Full, BadSize, Unfit}
use Rattle.faults.specs.declared.SessionFault.{SessionFault}
use Rattle.faults.specs.declared.SessionFault.TheVariants.{FromJournal, FromSolid}

-- 1 to 4 as the solid refuses, 5 a seventeenth edit; the place is the position in the batch, which counts from 0
abbrev pub solid_told : SolidFault → Told
solid_told (Refused why position) = record { number = code why; layer = Solid; place = position }
solid_told TooMany = record { number = 5; layer = Solid; place = 16 }

-- 6 no edits and 7 no room, at the tail; 10 a count of blocks that no journal has; 30 an edit of a whole batch is refused, at its block;
-- a fault of the disk tells what it tells there
abbrev pub journal_told : JournalFault → Told
journal_told (Disk fault) = disk_told fault
journal_told (NoEdits tail) = record { number = 6; layer = Journal; place = tail }
journal_told (Full tail) = record { number = 7; layer = Journal; place = tail }
journal_told (BadSize count) = record { number = 10; layer = Journal; place = count }
journal_told (Unfit block fault) = record { number = 30; layer = Journal; place = block }

-- what the fault that it carries tells
abbrev pub session_told : SessionFault → Told
session_told (FromJournal fault) = journal_told fault
session_told (FromSolid fault) = solid_told fault
