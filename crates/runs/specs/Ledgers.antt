-- The ledger: which batches are acknowledged, begun and in doubt. It is fed the calls with their arguments, the disk calls within each that were answered 20, and what each next disk reads.
use Rattle.std.specs.Prelude.{ℕ, ◌+◌, Bool, cond, not, ◌&&◌, ◌||◌, List, [], ◌∷◌, ◌++◌, length, is_some, Some, None, Ok, Err, Option, Result, nat_le, nat_lt}
use Rattle.boundary.specs.declared.Boundary.{Boundary}
use Rattle.boundary.specs.declared.Edit.{Edit}
use Rattle.boundary.specs.Operators.{empty}
use Rattle.boundary.specs.Refusals.{refusal}
use Rattle.disk.specs.declared.Content.{Content}
use Rattle.disk.specs.declared.DiskFault.{DiskFault}
use Rattle.disk.specs.declared.DiskFault.TheVariants.{PowerGone, NoSuchBlock}
use Rattle.disk.specs.Calls.{Call as DiskCall, reading, writing, flushing}
use Rattle.rules.specs.Histories.{after_all}
use Rattle.standing.specs.Batches.{blocks, all_edits}
use Rattle.standing.specs.Standing.{settled}
use Rattle.runs.specs.declared.Call.{Call}
use Rattle.runs.specs.declared.Call.TheVariants.{Open, Begin, Apply, Commit, Abandon, Close, Lose}

-- the fault of an answer, where it is 20
abbrev pub power_fault : {A : Type 0} → Result A DiskFault → Option DiskFault
power_fault (Ok x) = None
power_fault (Err (PowerGone p)) = Some (PowerGone p)
power_fault (Err (NoSuchBlock p)) = None

-- the fault of a disk call that was answered 20
abbrev pub cut_of : DiskCall → Option DiskFault
cut_of (reading k r) = power_fault r
cut_of (writing k bs r) = power_fault r
cut_of (flushing r) = power_fault r

abbrev pub or_else : Option DiskFault → Option DiskFault → Option DiskFault
or_else None o = o
or_else (Some f) o = Some f

-- the first fault of disk calls that were answered 20
abbrev pub first_cut : List DiskCall → Option DiskFault
first_cut [] = None
first_cut (c ∷ cs) = or_else (cut_of c) (first_cut cs)

-- No session; a session; a session with a begun batch and its edits. The mark is the first fault of the disk calls of that session, in its open or since, that were answered 20.
pub data Stage : Type 0 where
  idle : Stage
  in_session : Option DiskFault → Stage
  in_batch : Option DiskFault → List Edit → Stage

-- the acknowledged batches, the batch in doubt, if any, and the stage, which has the begun one
pub record Ledger : Type 0 where
  pub acknowledged : List (List Edit)
  pub doubt : Option (List Edit)
  pub stage : Stage

-- at first there is none of these
abbrev pub nothing : Ledger
nothing = record { acknowledged = []; doubt = None; stage = idle }

-- the solid that the batches build in order
abbrev pub built : List (List Edit) → Boundary
built bs = after_all empty (all_edits bs)

-- an edit joins the begun batch es: it is no seventeenth, and the solid of the acknowledged and begun edits does not refuse it
abbrev pub joins : List (List Edit) → List Edit → Edit → Bool
joins bs es e = nat_lt (length es) 16 && not (is_some (refusal (after_all (built bs) es) e))

-- the batch es has an edit, and a block for each edit and one more lie behind the acknowledged batches on a disk of n blocks
abbrev pub roomy : ℕ → List (List Edit) → List Edit → Bool
roomy n bs es = nat_lt 0 (length es) && nat_le (blocks bs + length es + 1) n

-- the ledger at another stage
abbrev pub staged : Ledger → Stage → Ledger
staged l s = record { acknowledged = l.acknowledged; doubt = l.doubt; stage = s }

-- a batch that is not dropped: a 20 within leaves it in doubt; else it is acknowledged
abbrev pub carried : Ledger → List Edit → Option DiskFault → Ledger
carried l es (Some f) = record { acknowledged = l.acknowledged; doubt = Some es; stage = in_session (Some f) }
carried l es None = record { acknowledged = l.acknowledged ++ es ∷ []; doubt = l.doubt; stage = in_session None }

-- a commit drops the batch if a 20 came before it in this session, if it is empty, or if it has no room
abbrev pub drops : ℕ → List (List Edit) → Option DiskFault → List Edit → Bool
drops n bs mark es = is_some mark || not (roomy n bs es)

abbrev pub committed : ℕ → Ledger → Option DiskFault → List Edit → Option DiskFault → Ledger
committed n l mark es cut = cond (drops n l.acknowledged mark es) (staged l (in_session mark)) (carried l es cut)

-- the begun batch after an edit, which joins it unless a number refuses it
abbrev pub with_edit : List (List Edit) → Option DiskFault → List Edit → Edit → List Edit
with_edit bs mark es e = cond (not (is_some mark) && joins bs es e) (es ++ e ∷ []) es

-- The ledger after a call on a disk of n blocks, by its stage; `cut` is the first fault of the disk calls within that were answered 20. A call that the stage does not allow changes nothing.
abbrev pub after_at : ℕ → Ledger → Stage → Call → Option DiskFault → Ledger
after_at n l idle Open cut = staged l (in_session cut)
after_at n l (in_session f) Open cut = l
after_at n l (in_batch f es) Open cut = l
after_at n l idle Begin cut = l
after_at n l (in_session f) Begin cut = staged l (in_batch f [])
after_at n l (in_batch f es) Begin cut = l
after_at n l idle (Apply e) cut = l
after_at n l (in_session f) (Apply e) cut = l
after_at n l (in_batch f es) (Apply e) cut = staged l (in_batch f (with_edit l.acknowledged f es e))
after_at n l idle Commit cut = l
after_at n l (in_session f) Commit cut = l
after_at n l (in_batch f es) Commit cut = committed n l f es cut
after_at n l idle Abandon cut = l
after_at n l (in_session f) Abandon cut = l
after_at n l (in_batch f es) Abandon cut = staged l (in_session f)
after_at n l idle Close cut = l
after_at n l (in_session f) Close cut = staged l idle
after_at n l (in_batch f es) Close cut = l
after_at n l s Lose cut = l

abbrev pub after_call : ℕ → Ledger → Call → Option DiskFault → Ledger
after_call n l c cut = after_at n l l.stage c cut

-- A loss ends any session and drops a begun batch. One in doubt is acknowledged exactly where its last block then reads as its closing record.
abbrev pub after_loss : Ledger → List Content → Ledger
after_loss l cs = record { acknowledged = settled l.acknowledged l.doubt cs; doubt = None; stage = idle }
