-- What opens is what was acknowledged: the law over every list of calls and every loss of power.
use Rattle.std.specs.Prelude.{◌≡◌, ℕ, ◌+◌, ◌<◌, ◌≤◌, true, false, cond, ◌↔◌, List, [], ◌∷◌, ◌++◌, length, take, Some, None, Err, Option, nat_le, nat_lt, slice_index_or}
use Rattle.boundary.specs.declared.Edit.{Edit}
use Rattle.boundary.specs.declared.Refusal.{Refusal}
use Rattle.boundary.specs.Operators.{empty}
use Rattle.boundary.specs.Refusals.{refusal}
use Rattle.disk.specs.declared.Content.{Content}
use Rattle.disk.specs.declared.DiskFault.{DiskFault}
use Rattle.disk.specs.declared.DiskFault.TheVariants.{PowerGone}
use Rattle.disk.specs.Calls.{Call as DiskCall, reading}
use Rattle.disk.specs.Chains.{Chain}
use Rattle.disk.specs.Losses.{AfterLoss}
use Rattle.faults.specs.declared.SolidFault.TheVariants.{Refused as Refuses, TooMany}
use Rattle.faults.specs.declared.JournalFault.TheVariants.{Disk, NoEdits, Full}
use Rattle.faults.specs.declared.SessionFault.TheVariants.{FromJournal, FromSolid}
use Rattle.rules.specs.Histories.{after_all, handles_made}
use Rattle.rules.specs.Rules.{Sound}
use Rattle.solid.specs.declared.Solid.{Solid}
use Rattle.standing.specs.Batches.{blocks, all_edits}
use Rattle.standing.specs.Plans.{served_reads, served, as_call, settle, plan}
use Rattle.runs.specs.declared.Call.{Call}
use Rattle.runs.specs.declared.Call.TheVariants.{Open, Begin, Apply, Commit, Abandon, Close, Lose}
use Rattle.runs.specs.declared.Reply.{Reply}
use Rattle.runs.specs.declared.Reply.TheVariants.{NotNow, Done, Shown, Placed, Kept, Refused}
use Rattle.runs.specs.declared.Step.{Step}
use Rattle.runs.specs.Ledgers.{Ledger, Stage, idle, in_session, in_batch, nothing, built, drops, after_call, after_loss, first_cut}

-- the disk calls of an open on a disk of n blocks: every block is read once, rising; or the reads up to some block are served and the next is answered 20
pub data OpenCalls (n : ℕ) (ds : List DiskCall) : Type 0 where
  all_read : (cs : List Content) → length cs ≡ n → ds ≡ served_reads 0 cs → OpenCalls n ds
  read_cut : (cs : List Content) → length cs < n → ds ≡ served_reads 0 cs ++ reading (length cs) (Err (PowerGone (Some (length cs)))) ∷ [] → OpenCalls n ds

-- the disk calls of a commit of the batch es behind bs: its edits, a flush, the closing record, a flush; or those before some call, and that one is answered 20
pub data CommitCalls (bs : List (List Edit)) (es : List Edit) (ds : List DiskCall) : Type 0 where
  all_served : ds ≡ served (plan (length bs + 1) (blocks bs) es) → CommitCalls bs es ds
  cut_at : (i : ℕ) (p : Option ℕ) → i < length (plan (length bs + 1) (blocks bs) es) → ds ≡ served (take i (plan (length bs + 1) (blocks bs) es)) ++ as_call (slice_index_or (plan (length bs + 1) (blocks bs) es) i settle) (Err (PowerGone p)) ∷ [] → CommitCalls bs es ds

-- the disk calls of a commit that is dropped: none; of any other those of its batch
pub data MadeByCommit (n : ℕ) (bs : List (List Edit)) (mark : Option DiskFault) (es : List Edit) (ds : List DiskCall) : Type 0 where
  dropped : drops n bs mark es ≡ true → ds ≡ [] → MadeByCommit n bs mark es ds
  not_dropped : drops n bs mark es ≡ false → CommitCalls bs es ds → MadeByCommit n bs mark es ds

-- the disk calls of a call on a disk of n blocks, by the ledger and its stage: only an open and a commit make any
abbrev pub Made : ℕ → List (List Edit) → Stage → Call → List DiskCall → Type 0
Made n bs idle Open ds = OpenCalls n ds
Made n bs (in_session m) Open ds = ds ≡ []
Made n bs (in_batch m es) Open ds = ds ≡ []
Made n bs s Begin ds = ds ≡ []
Made n bs s (Apply e) ds = ds ≡ []
Made n bs idle Commit ds = ds ≡ []
Made n bs (in_session m) Commit ds = ds ≡ []
Made n bs (in_batch m es) Commit ds = MadeByCommit n bs m es ds
Made n bs s Abandon ds = ds ≡ []
Made n bs s Close ds = ds ≡ []
Made n bs s Lose ds = ⊥

-- a 20, told by the session
abbrev pub told_20 : DiskFault → Reply
told_20 f = Refused (FromJournal (Disk f))

-- the reply to an open: the count of the acknowledged batches and the solid that they build, unless a read was answered 20
abbrev pub open_told : List (List Edit) → Option DiskFault → Reply
open_told bs None = Shown (length bs) (record { boundary = built bs })
open_told bs (Some f) = told_20 f

-- the reply to an edit that the draft refuses or takes
abbrev pub draft_told : ℕ → Option Refusal → Reply
draft_told position None = Placed position
draft_told position (Some why) = Refused (FromSolid (Refuses why position))

-- the reply to an edit: a 20 before it in this session comes first, then a seventeenth edit, then what the solid of the acknowledged and begun edits says
abbrev pub edit_told : List (List Edit) → Option DiskFault → List Edit → Edit → Reply
edit_told bs (Some f) es e = told_20 f
edit_told bs None es e = cond (nat_lt (length es) 16) (draft_told (length es) (refusal (after_all (built bs) es) e)) (Refused (FromSolid TooMany))

-- the reply to a commit whose disk calls are made
abbrev pub carried_told : List (List Edit) → Option DiskFault → Reply
carried_told bs None = Kept (length bs + 1)
carried_told bs (Some f) = told_20 f

-- the reply to a commit: a 20 before it in this session comes first, then no edits, then no room, then a 20 within
abbrev pub commit_told : ℕ → List (List Edit) → Option DiskFault → List Edit → Option DiskFault → Reply
commit_told n bs (Some f) es cut = told_20 f
commit_told n bs None es cut =
    cond (nat_lt 0 (length es)) (cond (nat_le (blocks bs + length es + 1) n) (carried_told bs cut) (Refused (FromJournal (Full (blocks bs))))) (Refused (FromJournal (NoEdits (blocks bs))))

-- the reply to a call, by the ledger and its stage; a call that the stage does not allow is told so
abbrev pub foretold : ℕ → List (List Edit) → Stage → Call → Option DiskFault → Reply
foretold n bs idle Open cut = open_told bs cut
foretold n bs (in_session m) Open cut = NotNow
foretold n bs (in_batch m es) Open cut = NotNow
foretold n bs idle Begin cut = NotNow
foretold n bs (in_session m) Begin cut = Done
foretold n bs (in_batch m es) Begin cut = NotNow
foretold n bs idle (Apply e) cut = NotNow
foretold n bs (in_session m) (Apply e) cut = NotNow
foretold n bs (in_batch m es) (Apply e) cut = edit_told bs m es e
foretold n bs idle Commit cut = NotNow
foretold n bs (in_session m) Commit cut = NotNow
foretold n bs (in_batch m es) Commit cut = commit_told n bs m es cut
foretold n bs idle Abandon cut = NotNow
foretold n bs (in_session m) Abandon cut = NotNow
foretold n bs (in_batch m es) Abandon cut = Done
foretold n bs idle Close cut = NotNow
foretold n bs (in_session m) Close cut = Done
foretold n bs (in_batch m es) Close cut = NotNow
foretold n bs s Lose cut = Done

-- What is promised of an open, beside its reply: it is accepted exactly where no disk call of it was answered 20; then it answers the count of the acknowledged batches and shows the solid that their edits build in order;
-- and that solid keeps the eight rules, its handles being the kfmrh of those edits that were accepted with both faces in one shell.
pub record OpenPromise (bs : List (List Edit)) (r : Reply) (cut : Option DiskFault) : Type 0 where
  pub accepted : cut ≡ None → (k : ℕ) × (s : Solid) × (r ≡ Shown k s)
  pub shows : (k : ℕ) (s : Solid) → r ≡ Shown k s → (cut ≡ None) × (k ≡ length bs) × (s.boundary ≡ built bs)
  pub sound : (k : ℕ) (s : Solid) → r ≡ Shown k s → Sound s.boundary × (s.boundary.handles ≡ handles_made empty (all_edits bs))

-- What is promised of a commit: it answers the new count exactly when the ledger acknowledges its batch at once; and where no disk call from the session's open on was answered 20, exactly when the batch has an edit and n + 1 blocks lie behind the acknowledged batches.
pub record CommitPromise (n : ℕ) (l : Ledger) (mark : Option DiskFault) (es : List Edit) (r : Reply) (cut : Option DiskFault) : Type 0 where
  pub at_once : (k : ℕ) → (r ≡ Kept k) ↔ (((after_call n l Commit cut).acknowledged ≡ l.acknowledged ++ es ∷ []) × (k ≡ length l.acknowledged + 1))
  pub accepted : mark ≡ None → cut ≡ None → (r ≡ Kept (length l.acknowledged + 1)) ↔ ((1 ≤ length es) × (blocks l.acknowledged + length es + 1 ≤ n))

abbrev pub Promised : ℕ → Ledger → Stage → Call → Reply → Option DiskFault → Type 0
Promised n l idle Open r cut = OpenPromise l.acknowledged r cut
Promised n l (in_session m) Open r cut = Unit {0}
Promised n l (in_batch m es) Open r cut = Unit {0}
Promised n l s Begin r cut = Unit {0}
Promised n l s (Apply e) r cut = Unit {0}
Promised n l idle Commit r cut = Unit {0}
Promised n l (in_session m) Commit r cut = Unit {0}
Promised n l (in_batch m es) Commit r cut = CommitPromise n l m es r cut
Promised n l s Abandon r cut = Unit {0}
Promised n l s Close r cut = Unit {0}
Promised n l s Lose r cut = Unit {0}

-- a call c with the disk calls ds and the reply r is right on a disk of n blocks, by the ledger before it
pub record Right (n : ℕ) (l : Ledger) (c : Call) (r : Reply) (ds : List DiskCall) : Type 0 where
  pub calls : Made n l.acknowledged l.stage c ds
  pub reply : r ≡ foretold n l.acknowledged l.stage c (first_cut ds)
  pub promised : Promised n l l.stage c r (first_cut ds)

module _ {S : Type 0} (reads : S → List Content) (may : S → ℕ → Content → Type 0) (did : S → DiskCall → S → Type 0) where
  -- Runs d steps e l: the calls of these steps, with their replies, took the disk from d to e and the ledger from nothing to l. The disk calls of each call are a chain of what the disk really did,
  -- each reply is right, and each loss leaves a disk that the power rule allows.
  pub data Runs (d : S) : List Step → S → Ledger → Type 0 where
    start : Runs d [] d nothing
    by_call : {e z : S} {l : Ledger} {ss : List Step} (c : Call) (r : Reply) (ds : List DiskCall) → Runs d ss e l → Chain did e ds z → Right (length (reads d)) l c r ds
        → Runs d (ss ++ record { call = c; reply = r } ∷ []) z (after_call (length (reads d)) l c (first_cut ds))
    by_loss : {e z : S} {l : Ledger} {ss : List Step} → Runs d ss e l → AfterLoss reads may e z → Runs d (ss ++ record { call = Lose; reply = Done } ∷ []) z (after_loss l (reads z))

  -- there is a ledger that such a run leads to
  pub record KeptBy (d : S) (ss : List Step) (e : S) : Type 0 where
    pub ledger : Ledger
    pub run : Runs d ss e ledger

abbrev pub call_of : Step → Call
call_of s = s.call
