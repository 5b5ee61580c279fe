-- Which disk calls were answered 20, and what that says of the power.
use Rattle.std.proofs.Common.{◌≡◌, ℕ, ◌+◌, ◌<◌, Bool, true, List, [], ◌∷◌, ◌++◌, length, Some, None, Ok, Err, Option, refl, ap, ◌∙◌, arith}
use Rattle.disk.specs.declared.Content.{Content}
use Rattle.disk.specs.declared.DiskFault.{DiskFault}
use Rattle.disk.specs.declared.DiskFault.TheVariants.{PowerGone}
use Rattle.disk.specs.Calls.{Call, reading}
use Rattle.disk.specs.Chains.{Chain, none, first}
use Rattle.disk.specs.Rule.{Allowed}
use Rattle.disk.proofs.Rules as rules
use Rattle.standing.specs.Plans.{Step, put, settle, as_call, served, served_reads}
use Rattle.runs.specs.Ledgers.{cut_of, or_else, first_cut}

pub uncut_reads : (k : ℕ) (cs : List Content) → first_cut (served_reads k cs) ≡ None
uncut_reads k [] = refl
uncut_reads k (c ∷ cs) = uncut_reads (k + 1) cs

uncut_step : (s : Step) → cut_of (as_call s (Ok tt)) ≡ None
uncut_step (put k r) = refl
uncut_step settle = refl

pub uncut_served : (ss : List Step) → first_cut (served ss) ≡ None
uncut_served [] = refl
uncut_served (s ∷ ss) = ap (λ o. or_else o (first_cut (served ss))) (uncut_step s) ∙ uncut_served ss

-- the last call was answered 20, and none before it
pub cut_last : (cs : List Call) (c : Call) (f : DiskFault) → first_cut cs ≡ None → cut_of c ≡ Some f → first_cut (cs ++ c ∷ []) ≡ Some f
cut_last [] c f h w = ap (λ o. or_else o None) w
cut_last (x ∷ cs) c f h w = go (cut_of x) h (cut_last cs c f)
  where
    go : (o : Option DiskFault) → or_else o (first_cut cs) ≡ None → (first_cut cs ≡ None → cut_of c ≡ Some f → first_cut (cs ++ c ∷ []) ≡ Some f) → or_else o (first_cut (cs ++ c ∷ [])) ≡ Some f
    go None h more = more h w
    go (Some y) h more = cc

pub step_cut : (s : Step) (p : Option ℕ) → cut_of (as_call s (Err (PowerGone p))) ≡ Some (PowerGone p)
step_cut (put k r) p = refl
step_cut settle p = refl

module _ {S : Type 0} (reads : S → List Content) (may : S → ℕ → Content → Type 0) (gone : S → Bool) (did : S → Call → S → Type 0) (keeps : (d : S) (c : Call) (e : S) → did d c e → Allowed reads may gone d c e) where
  -- behind a read that was answered 20 the power is gone
  pub read_gone : (xs : List Call) (k : ℕ) (p : Option ℕ) {d z : S} → Chain did d (xs ++ reading k (Err (PowerGone p)) ∷ []) z → gone z ≡ true
  read_gone [] k p (first {d = d} {e = e} h none) = (keeps d _ e h).2
  read_gone (x ∷ xs) k p (first h r) = read_gone xs k p r

  -- while the power is gone no read is served
  pub none_served : (k : ℕ) (cs : List Content) {d z : S} → 0 < length cs → gone d ≡ true → Chain did d (served_reads k cs) z → ⊥
  none_served k [] lt g r = omega arith
  none_served k (c ∷ cs) lt g (first {d = d} {e = e} h r) = rules.true_false g (keeps d _ e h).1
