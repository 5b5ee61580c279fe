-- What a loss of power leaves, and a blank disk.
use Rattle.std.specs.Prelude.{◌≡◌, ℕ, ◌<◌, List, length, slice_index_or}
use Rattle.disk.specs.declared.Content.{Content}
use Rattle.disk.specs.declared.Content.TheVariants.{Unreadable}
use Rattle.disk.specs.Contents.{zeros}

module _ {S : Type 0} (reads : S → List Content) (may : S → ℕ → Content → Type 0) where
  -- e may be found after the power was lost at d: as many blocks, each reads as a member of its set, and each set holds only that
  pub record AfterLoss (d e : S) : Type 0 where
    pub count : length (reads e) ≡ length (reads d)
    pub member : (k : ℕ) → k < length (reads d) → may d k (slice_index_or (reads e) k Unreadable)
    pub only : (k : ℕ) (c : Content) → may e k c → c ≡ slice_index_or (reads e) k Unreadable

  -- each block's set holds 32 zero bytes, and nothing else
  pub record Blank (d : S) : Type 0 where
    pub holds : (k : ℕ) → k < length (reads d) → may d k zeros
    pub only : (k : ℕ) (c : Content) → may d k c → c ≡ zeros
