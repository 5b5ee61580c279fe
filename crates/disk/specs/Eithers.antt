-- One make of disk or another: each call goes to the disk that is there, and the make stays.
use Rattle.disk.specs.declared.Either.{Either}
use Rattle.disk.specs.declared.Either.TheVariants.{First, Second}
use Rattle.disk.specs.Calls.{Call}

-- what the disk that is there says
abbrev pub either {ℓ} : {A B : Type 0} {C : Type ℓ} → (A → C) → (B → C) → Either A B → C
either f g (First a) = f a
either f g (Second b) = g b

-- a call of the disk that is there; the make does not change
abbrev pub EitherDid : {A B : Type 0} → (A → Call → A → Type 0) → (B → Call → B → Type 0) → Either A B → Call → Either A B → Type 0
EitherDid f g (First a) c (First x) = f a c x
EitherDid f g (First a) c (Second y) = ⊥
EitherDid f g (Second b) c (First x) = ⊥
EitherDid f g (Second b) c (Second y) = g b c y
