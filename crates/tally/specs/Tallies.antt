-- The ledger in counts, as it is kept from the replies of a run and from what each loss of power left.
use Rattle.std.specs.Prelude.{ℕ, ◌+◌, min, Bool, true, false, cond, length, is_some, Some, None, Option}
use Rattle.std.specs.Option.{option_map, unwrap_or}
use Rattle.disk.specs.declared.Content.{Content}
use Rattle.faults.specs.declared.JournalFault.TheVariants.{Disk, NoEdits, Full, BadSize, Unfit}
use Rattle.faults.specs.declared.SessionFault.{SessionFault}
use Rattle.faults.specs.declared.SessionFault.TheVariants.{FromJournal, FromSolid}
use Rattle.standing.specs.Batches.{blocks}
use Rattle.standing.specs.Standing.{record_in, closes}
use Rattle.runs.specs.declared.Call.{Call}
use Rattle.runs.specs.declared.Call.TheVariants.{Open, Begin, Apply, Commit, Abandon, Close, Lose}
use Rattle.runs.specs.declared.Reply.{Reply}
use Rattle.runs.specs.declared.Reply.TheVariants.{NotNow, Done, Shown, Placed, Kept, Refused}
use Rattle.runs.specs.Ledgers.{Ledger, Stage, idle, in_session, in_batch}
use Rattle.tally.specs.declared.Tally.{Tally}

-- the edits of the begun batch, and whether a 20 has met the session
abbrev pub begun_at : Stage → Option ℕ
begun_at idle = None
begun_at (in_session m) = None
begun_at (in_batch m es) = Some (length es)

abbrev pub faulted_at : Stage → Bool
faulted_at idle = false
faulted_at (in_session m) = is_some m
faulted_at (in_batch m es) = is_some m

-- the counts of a ledger
abbrev pub tally_of : Ledger → Tally
tally_of l = record { batches = length l.acknowledged; tail = blocks l.acknowledged; begun = begun_at l.stage; doubt = option_map length l.doubt; faulted = faulted_at l.stage }

-- a sum that stops at the largest number of 32 bits
abbrev pub sum : ℕ → ℕ → ℕ
sum a b = min (a + b) 4294967295

abbrev pub with_begun : Tally → Option ℕ → Tally
with_begun t o = record { batches = t.batches; tail = t.tail; begun = o; doubt = t.doubt; faulted = t.faulted }

abbrev pub with_fault : Tally → Bool → Tally
with_fault t b = record { batches = t.batches; tail = t.tail; begun = t.begun; doubt = t.doubt; faulted = b }

-- the begun batch is acknowledged, as batch k
abbrev pub acknowledged : Tally → ℕ → Tally
acknowledged t k = record { batches = k; tail = sum (sum t.tail (unwrap_or t.begun 0)) 1; begun = None; doubt = t.doubt; faulted = t.faulted }

-- its commit was refused: it is in doubt where a 20 within was the first of its session, and else dropped
abbrev pub dropped : Tally → SessionFault → Tally
dropped t (FromJournal (Disk f)) = record { batches = t.batches; tail = t.tail; begun = None; doubt = cond t.faulted t.doubt t.begun; faulted = true }
dropped t (FromJournal (NoEdits k)) = with_begun t None
dropped t (FromJournal (Full k)) = with_begun t None
dropped t (FromJournal (BadSize n)) = with_begun t None
dropped t (FromJournal (Unfit k f)) = with_begun t None
dropped t (FromSolid f) = with_begun t None

abbrev pub by_open : Tally → Reply → Tally
by_open t NotNow = t
by_open t Done = t
by_open t (Shown k s) = t
by_open t (Placed k) = t
by_open t (Kept k) = t
by_open t (Refused f) = with_fault t true

abbrev pub by_edit : Tally → Reply → Tally
by_edit t NotNow = t
by_edit t Done = t
by_edit t (Shown k s) = t
by_edit t (Placed k) = with_begun t (Some (sum k 1))
by_edit t (Kept k) = t
by_edit t (Refused f) = t

abbrev pub by_commit : Tally → Reply → Tally
by_commit t NotNow = t
by_commit t Done = t
by_commit t (Shown k s) = t
by_commit t (Placed k) = t
by_commit t (Kept k) = acknowledged t k
by_commit t (Refused f) = dropped t f

-- where the reply is done
abbrev pub if_done : Reply → Tally → Tally → Tally
if_done NotNow s t = t
if_done Done s t = s
if_done (Shown k x) s t = t
if_done (Placed k) s t = t
if_done (Kept k) s t = t
if_done (Refused f) s t = t

-- the counts after a call that was answered so
abbrev pub noted : Tally → Call → Reply → Tally
noted t Open r = by_open t r
noted t Begin r = if_done r (with_begun t (Some 0)) t
noted t (Apply e) r = by_edit t r
noted t Commit r = by_commit t r
noted t Abandon r = if_done r (with_begun t None) t
noted t Close r = if_done r (with_fault t false) t
noted t Lose r = t

-- the last block of the batch in doubt
abbrev pub doubtful : Tally → Option ℕ
doubtful t = option_map (sum t.tail) t.doubt

-- no session, and nothing begun or in doubt
abbrev pub at_rest : Tally → Tally
at_rest t = record { batches = t.batches; tail = t.tail; begun = None; doubt = None; faulted = false }

-- the counts after a loss that left this content in the last block of the batch in doubt
abbrev pub lost_by : Tally → Option ℕ → Content → Tally
lost_by t None c = at_rest t
lost_by t (Some k) c = cond (closes (record_in c) (sum t.batches 1) k) (at_rest (acknowledged (with_begun t (Some k)) (sum t.batches 1))) (at_rest t)

abbrev pub lost : Tally → Content → Tally
lost t c = lost_by t t.doubt c
