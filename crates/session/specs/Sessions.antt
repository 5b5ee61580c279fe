-- What each of the six calls answers, what session or batch it leaves, and which disk calls it makes.
use Rattle.std.specs.Prelude.{◌≡◌, ℕ, ◌<◌, ◌≤◌, List, [], ◌∷◌, ◌++◌, length, Some, None, Ok, Err, Result}
use Rattle.std.specs.Result.{IsOk}
use Rattle.boundary.specs.declared.Boundary.{Boundary}
use Rattle.boundary.specs.declared.Edit.{Edit}
use Rattle.boundary.specs.declared.Refusal.{Refusal}
use Rattle.boundary.specs.Refusals.{refusal, after}
use Rattle.disk.specs.declared.Content.{Content}
use Rattle.disk.specs.Calls.{Call}
use Rattle.faults.specs.declared.SolidFault.TheVariants.{Refused, TooMany}
use Rattle.faults.specs.declared.JournalFault.{JournalFault}
use Rattle.faults.specs.declared.JournalFault.TheVariants.{Disk, NoEdits, Full, BadSize, Unfit}
use Rattle.faults.specs.declared.SessionFault.{SessionFault}
use Rattle.faults.specs.declared.SessionFault.TheVariants.{FromJournal, FromSolid}
use Rattle.journal.specs.declared.Extent.{Extent}
use Rattle.journal.specs.Drafts.{drafted}
use Rattle.journal.specs.Readings.{Looked}
use Rattle.journal.specs.Appends.{Appends}
use Rattle.session.specs.declared.Session.{Session}
use Rattle.session.specs.declared.Batch.{Batch}

-- the session that an open gives which left the disk as e, read the solid b and was answered x by the journal
abbrev pub opened : {S : Type 0} → S → Boundary → Result Extent JournalFault → Session S
opened e b x = record { disk = e; solid = record { boundary = b }; next = x }

-- the answer beside the session: the number of batches behind which its extent lies
abbrev pub answered : Result Extent JournalFault → Result ℕ SessionFault
answered (Ok x) = Ok x.batches
answered (Err f) = Err (FromJournal f)

-- an open reads the journal of the disk d
pub record Opens {S : Type 0} (reads : S → List Content) (did : S → Call → S → Type 0) (d : S) (s : Session S) (r : Result ℕ SessionFault) : Type 0 where
  pub disk : S
  pub boundary : Boundary
  pub journal : Result Extent JournalFault
  pub looked : Looked reads did d boundary journal disk
  pub session : s ≡ opened disk boundary journal
  pub reply : r ≡ answered journal

-- the batch of the session s with the draft b and the edits es
pub record BatchOf {S : Type 0} (s : Session S) (b : Boundary) (es : List Edit) (c : Batch S) : Type 0 where
  pub session : c.session ≡ s
  pub draft : c.draft.boundary ≡ b
  pub edits : drafted c.edits ≡ es

-- a batch that is begun: no edits, and the draft is the session's solid
abbrev pub Begins : {S : Type 0} → Session S → Batch S → Type 0
Begins s c = BatchOf s s.solid.boundary [] c

-- An edit of the batch c: the session's fault comes first, then a seventeenth edit, then what the draft says. A refused edit leaves the batch as it was.
pub data Edits {S : Type 0} (c : Batch S) (e : Edit) (z : Batch S) (r : Result ℕ SessionFault) : Type 0 where
  fault_first : (f : JournalFault) → c.session.next ≡ Err f → z ≡ c → r ≡ Err (FromJournal f) → Edits c e z r
  seventeenth : IsOk c.session.next → 16 ≤ length (drafted c.edits) → z ≡ c → r ≡ Err (FromSolid TooMany) → Edits c e z r
  refused : (why : Refusal) → IsOk c.session.next → length (drafted c.edits) < 16 → refusal c.draft.boundary e ≡ Some why → z ≡ c → r ≡ Err (FromSolid (Refused why (length (drafted c.edits)))) → Edits c e z r
  joined : IsOk c.session.next → length (drafted c.edits) < 16 → refusal c.draft.boundary e ≡ None → BatchOf c.session (after c.draft.boundary e) (drafted c.edits ++ e ∷ []) z → r ≡ Ok (length (drafted c.edits)) → Edits c e z r

-- where the next batch goes after a refused commit: a fault of the disk stays
abbrev pub after_refused : Extent → JournalFault → Result Extent JournalFault
after_refused x (Disk f) = Err (Disk f)
after_refused x (NoEdits t) = Ok x
after_refused x (Full t) = Ok x
after_refused x (BadSize n) = Ok x
after_refused x (Unfit k f) = Ok x

-- the session after the batch c was committed at the extent x, which left the disk as e and was answered y by the journal: the draft is its solid now; or it is as it was at begin, save for the disk and its fault
abbrev pub committed : {S : Type 0} → Batch S → Extent → S → Result Extent JournalFault → Session S
committed c x e (Ok y) = record { disk = e; solid = c.draft; next = Ok y }
committed c x e (Err f) = record { disk = e; solid = c.session.solid; next = after_refused x f }

-- A commit of the batch c: the session's fault comes first; else its edits are appended to the journal.
pub data Commits {S : Type 0} (did : S → Call → S → Type 0) (c : Batch S) (s : Session S) (r : Result ℕ SessionFault) : Type 0 where
  faulted : (f : JournalFault) → c.session.next ≡ Err f → s ≡ c.session → r ≡ Err (FromJournal f) → Commits did c s r
  appended : (x : Extent) → c.session.next ≡ Ok x → (y : Result Extent JournalFault) (e : S) → Appends did c.session.disk x (drafted c.edits) y e → s ≡ committed c x e y → r ≡ answered y → Commits did c s r
