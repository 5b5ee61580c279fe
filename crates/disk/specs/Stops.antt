-- The stop, a layer on any disk: it passes on so many reads, writes and flushes with good block numbers, and answers 20 from then on.
use Rattle.std.specs.Prelude.{◌≡◌, ℕ, ◌+◌, ◌-◌, Bool, true, false, cond, ◌||◌, ◌⊎◌, List, length, Some, None, Ok, Err, Option, Result, ◌==◌, nat_lt}
use Rattle.disk.specs.declared.Content.{Content}
use Rattle.disk.specs.declared.DiskFault.{DiskFault}
use Rattle.disk.specs.declared.DiskFault.TheVariants.{PowerGone, NoSuchBlock}
use Rattle.disk.specs.Calls.{Call, reading, writing, flushing, good}

-- whether the power is off where k calls are left and g says so of the disk below
abbrev pub stop_gone : ℕ → Bool → Bool
stop_gone k g = k == 0 || g

-- what a call that names the block p, if any, is answered where k are left: 20 where there are none
abbrev pub counted : ℕ → Option ℕ → Result (Unit {0}) DiskFault
counted k p = cond (k == 0) (Err (PowerGone p)) (Ok tt)

-- the same of a call that names block b of n: 21 where there is no such block
abbrev pub found : ℕ → ℕ → ℕ → Result (Unit {0}) DiskFault
found n k b = cond (nat_lt b n) (counted k (Some b)) (Err (NoSuchBlock b))

-- the calls left after it: a call with a bad number is not counted
abbrev pub left_found : ℕ → ℕ → ℕ → ℕ
left_found n k b = cond (nat_lt b n) (k - 1) k

-- the call was refused for its block number
abbrev pub Misnumbered : Call → Type 0
Misnumbered (reading k r) = r ≡ Err (NoSuchBlock k)
Misnumbered (writing k bs r) = r ≡ Err (NoSuchBlock k)
Misnumbered (flushing r) = ⊥

-- the call was answered 20, with the block that it named
abbrev pub CutAt : Call → Type 0
CutAt (reading k r) = r ≡ Err (PowerGone (Some k))
CutAt (writing k bs r) = r ≡ Err (PowerGone (Some k))
CutAt (flushing r) = r ≡ Err (PowerGone None)

-- One call of the layer took the disk below from d to e and the calls left from k to j: it was passed on, and counted;
-- or its block number was refused, and nothing changed; or no calls were left, it was answered 20, and nothing changed.
abbrev pub Stopped : {S : Type 0} → (S → List Content) → (S → Call → S → Type 0) → S → ℕ → Call → S → ℕ → Type 0
Stopped reads did d k c e j =
    ((good (length (reads d)) c ≡ true) × (k ≡ j + 1) × did d c e)
    ⊎ (((good (length (reads d)) c ≡ false) × Misnumbered c × (d ≡ e) × (k ≡ j))
    ⊎ ((good (length (reads d)) c ≡ true) × CutAt c × (d ≡ e) × (k ≡ 0) × (j ≡ 0)))
