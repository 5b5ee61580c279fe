-- The stop keeps the power rule: what it passes on, the disk below keeps; what it refuses changes nothing.
-- `under` is the disk below a state of the layer, and `left` the calls that are left to it.
use Rattle.std.specs.Prelude.{◌≡◌, ℕ, ◌+◌, Bool, true, false, ◌||◌, List, length, Ok, Err, ◌==◌, refl}
use Rattle.std.proofs.Common.{sym, ap, subst, ◌∙◌, inl, inr, arith, ltb-true, ltb-false, eqb-true}
use Rattle.disk.specs.declared.Content.{Content}
use Rattle.disk.specs.declared.DiskFault.TheVariants.{PowerGone, NoSuchBlock}
use Rattle.disk.specs.Calls.{Call, reading, writing, flushing, good}
use Rattle.disk.specs.Rule.{Allowed, Same, Quiet}
use Rattle.disk.specs.Stops.{stop_gone, Misnumbered, CutAt, Stopped}
use Rattle.disk.specs.Views.{quiet_up, same_up, settled_up}

gone_zero : (k : ℕ) (g : Bool) → k ≡ 0 → stop_gone k g ≡ true
gone_zero k g e = rw e refl

gone_under : (k : ℕ) (g : Bool) → g ≡ true → stop_gone k g ≡ true
gone_under k g e = go (k == 0)
  where
    go : (b : Bool) → (b || g) ≡ true
    go true = refl
    go false = e

gone_not : (k j : ℕ) (g : Bool) → k ≡ j + 1 → g ≡ false → stop_gone k g ≡ false
gone_not k j g e f = go (k == 0) refl
  where
    go : (b : Bool) → (k == 0) ≡ b → (b || g) ≡ false
    go true p = absurd (omega (arith, e, eqb-true k 0 p))
    go false p = f

module _ {S L : Type 0} (reads : S → List Content) (may : S → ℕ → Content → Type 0) (gone : S → Bool) (under : L → S) (left : L → ℕ) where
  abbrev reads' : L → List Content
  reads' l = reads (under l)

  abbrev may' : L → ℕ → Content → Type 0
  may' l = may (under l)

  abbrev gone' : L → Bool
  gone' l = stop_gone (left l) (gone (under l))

  quiet_eq : (x y : L) → under x ≡ under y → Quiet reads' may' x y
  quiet_eq x y p = record { as_read = ap reads (sym p); no_gain = λ k c h. subst (λ s. may s k c) (sym p) h }

  same_eq : (x y : L) → under x ≡ under y → Same reads' may' x y
  same_eq x y p = record { quiet = quiet_eq x y p; no_loss = λ k c h. subst (λ s. may s k c) p h }

  -- a call that was passed on, and counted
  passed : (x y : L) (c : Call) → good (length (reads (under x))) c ≡ true → left x ≡ left y + 1 → Allowed reads may gone (under x) c (under y) → Allowed reads' may' gone' x c y
  passed x y (reading k (Ok c)) g n a = (a.0, gone_not _ _ _ n a.1, a.2, same_up reads may under x y a.3)
  passed x y (reading k (Err (PowerGone p))) g n a = (a.0, a.1, gone_under _ _ a.2, quiet_up reads may under x y a.3)
  passed x y (reading k (Err (NoSuchBlock p))) g n a = absurd (omega (arith, a.0, ltb-true k (length (reads (under x))) g))
  passed x y (writing k bs (Ok u)) g n a = (a.0, gone_not _ _ _ n a.1, a.2, a.3)
  passed x y (writing k bs (Err (PowerGone p))) g n a = (a.0, a.1, gone_under _ _ a.2, a.3, a.4)
  passed x y (writing k bs (Err (NoSuchBlock p))) g n a = absurd (omega (arith, a.0, ltb-true k (length (reads (under x))) g))
  passed x y (flushing (Ok u)) g n a = (gone_not _ _ _ n a.0, settled_up reads may under x y a.1)
  passed x y (flushing (Err (PowerGone p))) g n a = (a.0, gone_under _ _ a.1, quiet_up reads may under x y a.2)
  passed x y (flushing (Err (NoSuchBlock p))) g n a = absurd a

  kept : (x y : L) → under x ≡ under y → left x ≡ left y → gone' y ≡ gone' x
  kept x y p n = ap (λ k. stop_gone k (gone (under y))) (sym n) ∙ ap (λ s. stop_gone (left x) (gone s)) (sym p)

  -- a call that was refused for its block number
  refused : (x y : L) (c : Call) → good (length (reads (under x))) c ≡ false → Misnumbered c → under x ≡ under y → left x ≡ left y → Allowed reads' may' gone' x c y
  refused x y (reading k r) g m p n = subst (λ v. Allowed reads' may' gone' x (reading k v) y) (sym m) (ltb-false k (length (reads (under x))) g, refl, kept x y p n, same_eq x y p)
  refused x y (writing k bs r) g m p n = subst (λ v. Allowed reads' may' gone' x (writing k bs v) y) (sym m) (ltb-false k (length (reads (under x))) g, refl, kept x y p n, same_eq x y p)
  refused x y (flushing r) g m p n = absurd m

  -- a call for which none was left
  ended : (x y : L) (c : Call) → good (length (reads (under x))) c ≡ true → CutAt c → under x ≡ under y → left y ≡ 0 → Allowed reads' may' gone' x c y
  ended x y (reading k r) g m p z = subst (λ v. Allowed reads' may' gone' x (reading k v) y) (sym m) (ltb-true k (length (reads (under x))) g, refl, gone_zero _ _ z, quiet_eq x y p)
  ended x y (writing k bs r) g m p z = subst (λ v. Allowed reads' may' gone' x (writing k bs v) y) (sym m) (ltb-true k (length (reads (under x))) g, refl, gone_zero _ _ z, ap reads (sym p), λ j c h. inl (subst (λ s. may s j c) (sym p) h))
  ended x y (flushing r) g m p z = subst (λ v. Allowed reads' may' gone' x (flushing v) y) (sym m) (refl, gone_zero _ _ z, quiet_eq x y p)

  pub stop_keeps : (did : S → Call → S → Type 0) → ((d : S) (c : Call) (e : S) → did d c e → Allowed reads may gone d c e)
      → (x : L) (c : Call) (y : L) → Stopped reads did (under x) (left x) c (under y) (left y) → Allowed reads' may' gone' x c y
  stop_keeps did keeps x c y (inl h) = passed x y c h.0 h.1 (keeps (under x) c (under y) h.2)
  stop_keeps did keeps x c y (inr (inl h)) = refused x y c h.0 h.1 h.2 h.3
  stop_keeps did keeps x c y (inr (inr h)) = ended x y c h.0 h.1 h.2 h.4
