-- What the power rule says of the power, whatever the call: once gone it stays gone, then every good call is answered 20, and a 20 means that it is gone.
use Rattle.std.proofs.Common.{◌≡◌, ℕ, Bool, true, false, List, length, Ok, Err, sym, refl, ap, ◌∙◌, arith, length-set, ltb-true}
use Rattle.disk.specs.declared.Content.{Content}
use Rattle.disk.specs.declared.DiskFault.TheVariants.{PowerGone, NoSuchBlock}
use Rattle.disk.specs.Calls.{Call, reading, writing, flushing, good, cut}
use Rattle.disk.specs.Rule.{Allowed}

pub true_false : {b : Bool} → b ≡ true → b ≡ false → ⊥
true_false {b} p q = let z : true ≡ false = sym p ∙ q in let n : ◌≡◌ {A = ℕ} 0 1 = cc in omega arith

module _ {S : Type 0} (reads : S → List Content) (may : S → ℕ → Content → Type 0) (gone : S → Bool) where
  pub stays : (d : S) (c : Call) (e : S) → Allowed reads may gone d c e → gone d ≡ true → gone e ≡ true
  stays d (reading k (Ok c)) e a g = absurd (true_false g a.1)
  stays d (reading k (Err (PowerGone p))) e a g = a.2
  stays d (reading k (Err (NoSuchBlock p))) e a g = a.2 ∙ g
  stays d (writing k bs (Ok u)) e a g = absurd (true_false g a.1)
  stays d (writing k bs (Err (PowerGone p))) e a g = a.2
  stays d (writing k bs (Err (NoSuchBlock p))) e a g = a.2 ∙ g
  stays d (flushing (Ok u)) e a g = absurd (true_false g a.0)
  stays d (flushing (Err (PowerGone p))) e a g = a.1
  stays d (flushing (Err (NoSuchBlock p))) e a g = absurd a

  pub told : (d : S) (c : Call) (e : S) → Allowed reads may gone d c e → gone d ≡ true → good (length (reads d)) c ≡ true → cut c ≡ true
  told d (reading k (Ok c)) e a g w = absurd (true_false g a.1)
  told d (reading k (Err (PowerGone p))) e a g w = refl
  told d (reading k (Err (NoSuchBlock p))) e a g w = absurd (omega (arith, a.0, ltb-true k (length (reads d)) w))
  told d (writing k bs (Ok u)) e a g w = absurd (true_false g a.1)
  told d (writing k bs (Err (PowerGone p))) e a g w = refl
  told d (writing k bs (Err (NoSuchBlock p))) e a g w = absurd (omega (arith, a.0, ltb-true k (length (reads d)) w))
  told d (flushing (Ok u)) e a g w = absurd (true_false g a.0)
  told d (flushing (Err (PowerGone p))) e a g w = refl
  told d (flushing (Err (NoSuchBlock p))) e a g w = absurd a

  pub shows : (d : S) (c : Call) (e : S) → Allowed reads may gone d c e → cut c ≡ true → gone e ≡ true
  shows d (reading k (Ok c)) e a w = absurd (true_false w refl)
  shows d (reading k (Err (PowerGone p))) e a w = a.2
  shows d (reading k (Err (NoSuchBlock p))) e a w = absurd (true_false w refl)
  shows d (writing k bs (Ok u)) e a w = absurd (true_false w refl)
  shows d (writing k bs (Err (PowerGone p))) e a w = a.2
  shows d (writing k bs (Err (NoSuchBlock p))) e a w = absurd (true_false w refl)
  shows d (flushing (Ok u)) e a w = absurd (true_false w refl)
  shows d (flushing (Err (PowerGone p))) e a w = a.1
  shows d (flushing (Err (NoSuchBlock p))) e a w = absurd a

  -- no call changes the count of blocks
  pub same_count : (d : S) (c : Call) (e : S) → Allowed reads may gone d c e → length (reads e) ≡ length (reads d)
  same_count d (reading k (Ok c)) e a = ap length a.3.quiet.as_read
  same_count d (reading k (Err (PowerGone p))) e a = ap length a.3.as_read
  same_count d (reading k (Err (NoSuchBlock p))) e a = ap length a.3.quiet.as_read
  same_count d (writing k bs (Ok u)) e a = ap length a.2 ∙ length-set (reads d) k _
  same_count d (writing k bs (Err (PowerGone p))) e a = ap length a.3
  same_count d (writing k bs (Err (NoSuchBlock p))) e a = ap length a.3.quiet.as_read
  same_count d (flushing (Ok u)) e a = ap length a.1.as_read
  same_count d (flushing (Err (PowerGone p))) e a = ap length a.2.as_read
  same_count d (flushing (Err (NoSuchBlock p))) e a = absurd a
