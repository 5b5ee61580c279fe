-- Losses and blank disks, seen from a layer: `under` is the disk below a state of the layer.
use Rattle.std.proofs.Common.{◌≡◌, ℕ, ◌<◌, List, length, get_or}
use Rattle.disk.specs.declared.Content.{Content}
use Rattle.disk.specs.declared.Content.TheVariants.{Unreadable}
use Rattle.disk.specs.Contents.{zeros}
use Rattle.disk.specs.Losses.{AfterLoss, Blank}

module _ {S : Type 0} (reads : S → List Content) (may : S → ℕ → Content → Type 0) where
  -- a blank disk reads as zero bytes
  pub blank_reads : (d : S) → ((k : ℕ) → k < length (reads d) → may d k (get_or (reads d) k Unreadable)) → Blank reads may d → (k : ℕ) → k < length (reads d) → get_or (reads d) k Unreadable ≡ zeros
  blank_reads d stands b k lt = b.only k (get_or (reads d) k Unreadable) (stands k lt)

  pub after_under : {L : Type 0} (under : L → S) (x y : L) → AfterLoss reads may (under x) (under y) → AfterLoss (λ l. reads (under l)) (λ l. may (under l)) x y
  after_under under x y a = record { count = a.count; member = a.member; only = a.only }

  pub blank_under : {L : Type 0} (under : L → S) (x : L) → Blank reads may (under x) → Blank (λ l. reads (under l)) (λ l. may (under l)) x
  blank_under under x b = record { holds = b.holds; only = b.only }
