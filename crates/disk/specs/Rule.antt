-- The power rule: what one call of a disk may change, by the call and its answer.
-- Of a disk state d, `reads d` says what each block reads, `may d k c` that the content c may stand in block k after the power is lost,
-- and `gone d` whether the power is off.
use Rattle.std.specs.Prelude.{◌≡◌, ℕ, ◌<◌, ◌≤◌, Bool, true, false, ◌⊎◌, List, length, Some, None, Ok, Err, slice_index_or, slice_set}
use Rattle.disk.specs.declared.Content.{Content}
use Rattle.disk.specs.declared.Content.TheVariants.{Bytes, Unreadable}
use Rattle.disk.specs.declared.DiskFault.TheVariants.{PowerGone, NoSuchBlock}
use Rattle.disk.specs.Calls.{Call, reading, writing, flushing}

module _ {S : Type 0} (reads : S → List Content) (may : S → ℕ → Content → Type 0) where
  -- every block reads as before and no set gains anything
  pub record Quiet (d e : S) : Type 0 where
    pub as_read : reads e ≡ reads d
    pub no_gain : (k : ℕ) (c : Content) → may e k c → may d k c

  -- every block reads as before and every set is as it was
  pub record Same (d e : S) : Type 0 where
    pub quiet : Quiet d e
    pub no_loss : (k : ℕ) (c : Content) → may d k c → may e k c

  -- no set gains anything, save that the set of block k may gain the new bytes and the mark unreadable
  abbrev pub Gains : S → ℕ → List ℕ → S → Type 0
  Gains d k new e = (j : ℕ) (c : Content) → may e j c → (may d j c) ⊎ ((j ≡ k) × ((c ≡ Bytes new) ⊎ (c ≡ Unreadable)))

  -- every block reads as before and each set holds only that
  pub record Settled (d e : S) : Type 0 where
    pub as_read : reads e ≡ reads d
    pub only : (k : ℕ) (c : Content) → may e k c → c ≡ slice_index_or (reads d) k Unreadable

  -- The rule, with a case for each call and answer. A served call finds the power on; a 20 leaves it off;
  -- a 21 comes for a bad block number alone, with or without power, and changes nothing.
  abbrev pub Allowed : (S → Bool) → S → Call → S → Type 0
  Allowed gone d (reading k (Ok c)) e = (k < length (reads d)) × (gone d ≡ false) × (c ≡ slice_index_or (reads d) k Unreadable) × Same d e
  Allowed gone d (reading k (Err (PowerGone p))) e = (k < length (reads d)) × (p ≡ Some k) × (gone e ≡ true) × Quiet d e
  Allowed gone d (reading k (Err (NoSuchBlock p))) e = (length (reads d) ≤ k) × (p ≡ k) × (gone e ≡ gone d) × Same d e
  Allowed gone d (writing k new (Ok u)) e = (k < length (reads d)) × (gone d ≡ false) × (reads e ≡ slice_set (reads d) k (Bytes new)) × Gains d k new e
  Allowed gone d (writing k new (Err (PowerGone p))) e = (k < length (reads d)) × (p ≡ Some k) × (gone e ≡ true) × (reads e ≡ reads d) × Gains d k new e
  Allowed gone d (writing k new (Err (NoSuchBlock p))) e = (length (reads d) ≤ k) × (p ≡ k) × (gone e ≡ gone d) × Same d e
  Allowed gone d (flushing (Ok u)) e = (gone d ≡ false) × Settled d e
  Allowed gone d (flushing (Err (PowerGone p))) e = (p ≡ None) × (gone e ≡ true) × Quiet d e
  Allowed gone d (flushing (Err (NoSuchBlock p))) e = ⊥
