-- From what the code did to the step that it is.
use Rattle.std.proofs.Common.{◌≡◌, ℕ, List, Result, sym, refl, subst}
use Rattle.boundary.specs.declared.Edit.{Edit}
use Rattle.disk.specs.declared.Content.{Content}
use Rattle.disk.specs.Calls.{Call as DiskCall}
use Rattle.faults.specs.declared.SessionFault.{SessionFault}
use Rattle.session.specs.declared.Session.{Session}
use Rattle.session.specs.declared.Batch.{Batch}
use Rattle.session.specs.Sessions.{Opens, Begins, Edits, Commits}
use Rattle.runs.specs.declared.Phase.{Phase}
use Rattle.runs.specs.declared.Phase.TheVariants.{Idle, Opened, Editing}
use Rattle.runs.specs.declared.Call.TheVariants.{Open, Begin, Apply, Commit}
use Rattle.runs.specs.declared.Reply.{Reply}
use Rattle.runs.specs.declared.Reply.TheVariants.{Done}
use Rattle.runs.specs.Steps.{Stepped, open_reply, edit_reply, commit_reply}

module _ {S : Type 0} (reads : S → List Content) (may : S → ℕ → Content → Type 0) (did : S → DiskCall → S → Type 0) where
  pub stepped_open : (p : Phase S) (d : S) (s : Session S) (x : Result ℕ SessionFault) (r : Reply) → p ≡ Idle d → Opens reads did d s x → r ≡ open_reply s x → Stepped reads may did p Open (Opened s) r
  stepped_open p d s x r is h q = subst (λ v. Stepped reads may did v Open (Opened s) r) (sym is) (s, x, h, refl, q)

  pub stepped_begin : (p : Phase S) (s : Session S) (b : Batch S) → p ≡ Opened s → Begins s b → Stepped reads may did p Begin (Editing b) Done
  stepped_begin p s b is h = subst (λ v. Stepped reads may did v Begin (Editing b) Done) (sym is) (b, h, refl, refl)

  pub stepped_edit : (p : Phase S) (b c : Batch S) (e : Edit) (x : Result ℕ SessionFault) (r : Reply) → p ≡ Editing b → Edits b e c x → r ≡ edit_reply x → Stepped reads may did p (Apply e) (Editing c) r
  stepped_edit p b c e x r is h q = subst (λ v. Stepped reads may did v (Apply e) (Editing c) r) (sym is) (c, x, h, refl, q)

  pub stepped_commit : (p : Phase S) (b : Batch S) (s : Session S) (x : Result ℕ SessionFault) (r : Reply) → p ≡ Editing b → Commits did b s x → r ≡ commit_reply x → Stepped reads may did p Commit (Opened s) r
  stepped_commit p b s x r is h q = subst (λ v. Stepped reads may did v Commit (Opened s) r) (sym is) (s, x, h, refl, q)
