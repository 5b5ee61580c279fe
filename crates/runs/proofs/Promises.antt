-- What is promised follows from the replies that the ledger foretells.
use Rattle.std.proofs.Common.{◌≡◌, ℕ, ◌+◌, ◌≤◌, Bool, true, false, ltb, leb, List, [], ◌∷◌, ◌++◌, length, Some, None, Option, sym, refl, ap, ◌∙◌, subst, arith, ltb-false, ltb-true, leb-false, leb-true}
use Rattle.std.proofs.lemmas.List.{length_push}
use Rattle.boundary.specs.declared.Edit.{Edit}
use Rattle.disk.specs.declared.DiskFault.{DiskFault}
use Rattle.faults.specs.declared.SessionFault.{SessionFault}
use Rattle.rules.specs.Rules.{Sound}
use Rattle.rules.proofs.Histories.{stays_sound}
use Rattle.solid.specs.declared.Solid.{Solid}
use Rattle.standing.specs.Batches.{blocks, all_edits}
use Rattle.runs.specs.declared.Reply.{Reply}
use Rattle.runs.specs.declared.Reply.TheVariants.{Shown, Kept, Refused}
use Rattle.runs.specs.Ledgers.{Ledger, Stage, in_batch, built}
use Rattle.runs.specs.Laws.{open_told, commit_told, OpenPromise, CommitPromise}

pub not_some : {A : Type 0} {x : A} {o : Option A} → o ≡ None → o ≡ Some x → ⊥
not_some p q = let z : ◌≡◌ {A = ℕ} 0 1 = cc in omega arith

not_shown : {k : ℕ} {s : Solid} {f : SessionFault} {r : Reply} → r ≡ Refused f → r ≡ Shown k s → ⊥
not_shown p q = let z : ◌≡◌ {A = ℕ} 0 1 = cc in omega arith

not_kept : {k : ℕ} {f : SessionFault} {r : Reply} → r ≡ Refused f → r ≡ Kept k → ⊥
not_kept p q = let z : ◌≡◌ {A = ℕ} 0 1 = cc in omega arith

not_longer : (bs : List (List Edit)) (es : List Edit) → bs ≡ bs ++ es ∷ [] → ⊥
not_longer bs es q = omega (arith, ap length q, length_push bs es)

-- the solid of the batches keeps the rules, whatever their edits
pub open_promise : (bs : List (List Edit)) (r : Reply) (cut : Option DiskFault) → r ≡ open_told bs cut → OpenPromise bs r cut
open_promise bs r None h = record {
  accepted = λ w. (length bs, record { boundary = built bs }, h);
  shows = λ k s w. (refl, cc, same k s w);
  sound = λ k s w. let q = stays_sound (all_edits bs) in (subst Sound (sym (same k s w)) q.sound, ap (λ b. b.handles) (same k s w) ∙ q.handles);
}
  where
    same : (k : ℕ) (s : Solid) → r ≡ Shown k s → s.boundary ≡ built bs
    same k s w = let q : s ≡ record { boundary = built bs } = cc in ap (λ x. x.boundary) q
open_promise bs r (Some f) h = record { accepted = λ w. absurd (not_some w refl); shows = λ k s w. absurd (not_shown h w); sound = λ k s w. absurd (not_shown h w) }

module _ (n : ℕ) (a : List (List Edit)) (q : Option (List Edit)) (es : List Edit) where
  -- the commit is refused, and the ledger drops the batch or has it in doubt
  refused_promise : (mark cut : Option DiskFault) (r : Reply) (f : SessionFault) → r ≡ Refused f
      → (Rattle.runs.specs.Ledgers.after_call n (record { acknowledged = a; doubt = q; stage = in_batch mark es }) Rattle.runs.specs.declared.Call.TheVariants.Commit cut).acknowledged ≡ a
      → (mark ≡ None → cut ≡ None → 1 ≤ length es → blocks a + length es + 1 ≤ n → ⊥) → CommitPromise n (record { acknowledged = a; doubt = q; stage = in_batch mark es }) mark es r cut
  refused_promise mark cut r f h same never = record {
    at_once = λ k. (λ w. absurd (not_kept h w), λ w. absurd (not_longer a es (sym same ∙ w.0)));
    accepted = λ m c. (λ w. absurd (not_kept h w), λ w. absurd (never m c w.0 w.1));
  }

  by_tests : (x y : Bool) (cut : Option DiskFault) (r : Reply) → ltb 0 (length es) ≡ x → leb (blocks a + length es + 1) n ≡ y → r ≡ commit_told n a None es cut → CommitPromise n (record { acknowledged = a; doubt = q; stage = in_batch None es }) None es r cut
  by_tests false y cut r p t h = refused_promise None cut r _ (rw p at h) (rw p) (λ m c some room. omega (arith, ltb-false 0 (length es) p))
  by_tests true false cut r p t h = refused_promise None cut r _ (rw (p, t) at h) (rw (p, t)) (λ m c some room. omega (arith, leb-false (blocks a + length es + 1) n t))
  by_tests true true (Some f) r p t h = refused_promise None (Some f) r _ (rw (p, t) at h) (rw (p, t)) (λ m c some room. not_some c refl)
  by_tests true true None r p t h =
      let kept : r ≡ Kept (length a + 1) = rw (p, t) at h in
      record {
        at_once = λ k. (λ w. (rw (p, t), cc), λ w. kept ∙ ap Kept (sym w.1));
        accepted = λ m c. (λ w. (ltb-true 0 (length es) p, leb-true (blocks a + length es + 1) n t), λ w. kept);
      }

  pub commit_promise : (mark cut : Option DiskFault) (r : Reply) → r ≡ commit_told n a mark es cut → CommitPromise n (record { acknowledged = a; doubt = q; stage = in_batch mark es }) mark es r cut
  commit_promise (Some f) cut r h = refused_promise (Some f) cut r _ h refl (λ m c some room. not_some m refl)
  commit_promise None cut r h = by_tests (ltb 0 (length es)) (leb (blocks a + length es + 1) n) cut r refl refl h
