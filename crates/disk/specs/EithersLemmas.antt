-- One make or another keeps the power rule where both do.
use Rattle.std.specs.Prelude.{ℕ, ◌<◌, Bool, List, length, slice_index_or}
use Rattle.disk.specs.declared.Content.{Content}
use Rattle.disk.specs.declared.Content.TheVariants.{Unreadable}
use Rattle.disk.specs.declared.Either.{Either}
use Rattle.disk.specs.declared.Either.TheVariants.{First, Second}
use Rattle.disk.specs.Calls.{Call}
use Rattle.disk.specs.Rule.{Allowed}
use Rattle.disk.specs.Eithers.{either, EitherDid}
use Rattle.disk.specs.Views.{allowed_down}

module _ {S U : Type 0}
    (reads : S → List Content) (may : S → ℕ → Content → Type 0) (gone : S → Bool) (did : S → Call → S → Type 0)
    (reads' : U → List Content) (may' : U → ℕ → Content → Type 0) (gone' : U → Bool) (did' : U → Call → U → Type 0) where
  pub either_stands : ((d : S) (k : ℕ) → k < length (reads d) → may d k (slice_index_or (reads d) k Unreadable))
      → ((d : U) (k : ℕ) → k < length (reads' d) → may' d k (slice_index_or (reads' d) k Unreadable))
      → (x : Either S U) (k : ℕ) → k < length (either reads reads' x) → either may may' x k (slice_index_or (either reads reads' x) k Unreadable)
  either_stands f g (First a) k lt = f a k lt
  either_stands f g (Second b) k lt = g b k lt

  pub either_keeps : ((d : S) (c : Call) (e : S) → did d c e → Allowed reads may gone d c e)
      → ((d : U) (c : Call) (e : U) → did' d c e → Allowed reads' may' gone' d c e)
      → (x : Either S U) (c : Call) (y : Either S U) → EitherDid did did' x c y → Allowed (either reads reads') (either may may') (either gone gone') x c y
  either_keeps f g (First a) c (First b) h = allowed_down (either reads reads') (either may may') First (either gone gone') a c b (f a c b h)
  either_keeps f g (First a) c (Second b) h = absurd h
  either_keeps f g (Second a) c (First b) h = absurd h
  either_keeps f g (Second a) c (Second b) h = allowed_down (either reads reads') (either may may') Second (either gone gone') a c b (g a c b h)
