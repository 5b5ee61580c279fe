-- One call of a list of calls: the phase that it finds and leaves, and its reply.
use Rattle.std.specs.Prelude.{◌≡◌, ℕ, List, Ok, Err, Result}
use Rattle.disk.specs.declared.Content.{Content}
use Rattle.disk.specs.Calls.{Call as DiskCall}
use Rattle.disk.specs.Losses.{AfterLoss}
use Rattle.faults.specs.declared.SessionFault.{SessionFault}
use Rattle.session.specs.declared.Session.{Session}
use Rattle.session.specs.declared.Batch.{Batch}
use Rattle.session.specs.Sessions.{Opens, Begins, Edits, Commits}
use Rattle.runs.specs.declared.Phase.{Phase}
use Rattle.runs.specs.declared.Phase.TheVariants.{Idle, Opened, Editing}
use Rattle.runs.specs.declared.Call.{Call}
use Rattle.runs.specs.declared.Call.TheVariants.{Open, Begin, Apply, Commit, Abandon, Close, Lose}
use Rattle.runs.specs.declared.Reply.{Reply}
use Rattle.runs.specs.declared.Reply.TheVariants.{NotNow, Done, Shown, Placed, Kept, Refused}

-- the disk under a phase
abbrev pub disk_of : {S : Type 0} → Phase S → S
disk_of (Idle d) = d
disk_of (Opened s) = s.disk
disk_of (Editing b) = b.session.disk

-- the reply to an open, which shows the solid where it is accepted
abbrev pub open_reply : {S : Type 0} → Session S → Result ℕ SessionFault → Reply
open_reply s (Ok n) = Shown n s.solid
open_reply s (Err f) = Refused f

abbrev pub commit_reply : Result ℕ SessionFault → Reply
commit_reply (Ok n) = Kept n
commit_reply (Err f) = Refused f

abbrev pub edit_reply : Result ℕ SessionFault → Reply
edit_reply (Ok n) = Placed n
edit_reply (Err f) = Refused f

-- a call that the phase does not allow: nothing is done
pub record Turned {S : Type 0} (p q : Phase S) (r : Reply) : Type 0 where
  pub same : q ≡ p
  pub reply : r ≡ NotNow

module _ {S : Type 0} (reads : S → List Content) (may : S → ℕ → Content → Type 0) (did : S → DiskCall → S → Type 0) where
  -- one call took the phase p to q, with the reply r
  abbrev pub Stepped : Phase S → Call → Phase S → Reply → Type 0
  Stepped (Idle d) Open q r = (s : Session S) × (x : Result ℕ SessionFault) × Opens reads did d s x × (q ≡ Opened s) × (r ≡ open_reply s x)
  Stepped (Opened s) Open q r = Turned (Opened s) q r
  Stepped (Editing b) Open q r = Turned (Editing b) q r
  Stepped (Idle d) Begin q r = Turned (Idle d) q r
  Stepped (Opened s) Begin q r = (b : Batch S) × Begins s b × (q ≡ Editing b) × (r ≡ Done)
  Stepped (Editing b) Begin q r = Turned (Editing b) q r
  Stepped (Idle d) (Apply e) q r = Turned (Idle d) q r
  Stepped (Opened s) (Apply e) q r = Turned (Opened s) q r
  Stepped (Editing b) (Apply e) q r = (c : Batch S) × (x : Result ℕ SessionFault) × Edits b e c x × (q ≡ Editing c) × (r ≡ edit_reply x)
  Stepped (Idle d) Commit q r = Turned (Idle d) q r
  Stepped (Opened s) Commit q r = Turned (Opened s) q r
  Stepped (Editing b) Commit q r = (s : Session S) × (x : Result ℕ SessionFault) × Commits did b s x × (q ≡ Opened s) × (r ≡ commit_reply x)
  Stepped (Idle d) Abandon q r = Turned (Idle d) q r
  Stepped (Opened s) Abandon q r = Turned (Opened s) q r
  Stepped (Editing b) Abandon q r = (q ≡ Opened b.session) × (r ≡ Done)
  Stepped (Idle d) Close q r = Turned (Idle d) q r
  Stepped (Opened s) Close q r = (q ≡ Idle s.disk) × (r ≡ Done)
  Stepped (Editing b) Close q r = Turned (Editing b) q r
  Stepped (Idle d) Lose q r = (e : S) × AfterLoss reads may d e × (q ≡ Idle e) × (r ≡ Done)
  Stepped (Opened s) Lose q r = (e : S) × AfterLoss reads may s.disk e × (q ≡ Idle e) × (r ≡ Done)
  Stepped (Editing b) Lose q r = (e : S) × AfterLoss reads may b.session.disk e × (q ≡ Idle e) × (r ≡ Done)
