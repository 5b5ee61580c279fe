-- The parts of the power rule seen through a map of states: from the disk below up to a layer, and from a make of disk into a choice of makes.
use Rattle.std.specs.Prelude.{ℕ, Bool, List, Ok, Err}
use Rattle.disk.specs.declared.Content.{Content}
use Rattle.disk.specs.declared.DiskFault.TheVariants.{PowerGone, NoSuchBlock}
use Rattle.disk.specs.Calls.{Call, reading, writing, flushing}
use Rattle.disk.specs.Rule.{Allowed, Same, Quiet, Settled}

module _ {S L : Type 0} (reads : S → List Content) (may : S → ℕ → Content → Type 0) (under : L → S) where
  pub quiet_up : (x y : L) → Quiet reads may (under x) (under y) → Quiet (λ l. reads (under l)) (λ l. may (under l)) x y
  quiet_up x y q = record { as_read = q.as_read; no_gain = q.no_gain }

  pub same_up : (x y : L) → Same reads may (under x) (under y) → Same (λ l. reads (under l)) (λ l. may (under l)) x y
  same_up x y q = record { quiet = quiet_up x y q.quiet; no_loss = q.no_loss }

  pub settled_up : (x y : L) → Settled reads may (under x) (under y) → Settled (λ l. reads (under l)) (λ l. may (under l)) x y
  settled_up x y q = record { as_read = q.as_read; only = q.only }

  pub quiet_down : (x y : L) → Quiet (λ l. reads (under l)) (λ l. may (under l)) x y → Quiet reads may (under x) (under y)
  quiet_down x y q = record { as_read = q.as_read; no_gain = q.no_gain }

  pub same_down : (x y : L) → Same (λ l. reads (under l)) (λ l. may (under l)) x y → Same reads may (under x) (under y)
  same_down x y q = record { quiet = quiet_down x y q.quiet; no_loss = q.no_loss }

  pub settled_down : (x y : L) → Settled (λ l. reads (under l)) (λ l. may (under l)) x y → Settled reads may (under x) (under y)
  settled_down x y q = record { as_read = q.as_read; only = q.only }

  pub allowed_down : (gone : S → Bool) (x : L) (c : Call) (y : L) → Allowed (λ l. reads (under l)) (λ l. may (under l)) (λ l. gone (under l)) x c y → Allowed reads may gone (under x) c (under y)
  allowed_down gone x (reading k (Ok c)) y a = (a.0, a.1, a.2, same_down x y a.3)
  allowed_down gone x (reading k (Err (PowerGone p))) y a = (a.0, a.1, a.2, quiet_down x y a.3)
  allowed_down gone x (reading k (Err (NoSuchBlock p))) y a = (a.0, a.1, a.2, same_down x y a.3)
  allowed_down gone x (writing k bs (Ok u)) y a = a
  allowed_down gone x (writing k bs (Err (PowerGone p))) y a = a
  allowed_down gone x (writing k bs (Err (NoSuchBlock p))) y a = (a.0, a.1, a.2, same_down x y a.3)
  allowed_down gone x (flushing (Ok u)) y a = (a.0, settled_down x y a.1)
  allowed_down gone x (flushing (Err (PowerGone p))) y a = (a.0, a.1, quiet_down x y a.2)
  allowed_down gone x (flushing (Err (NoSuchBlock p))) y a = a
