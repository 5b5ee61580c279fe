-- The calls of a disk, each with its answer.
use Rattle.std.specs.Prelude.{ℕ, Bool, true, false, ◌||◌, List, [], ◌∷◌, Ok, Err, Result, nat_lt}
use Rattle.disk.specs.declared.Content.{Content}
use Rattle.disk.specs.declared.DiskFault.{DiskFault}
use Rattle.disk.specs.declared.DiskFault.TheVariants.{PowerGone, NoSuchBlock}

-- a read of a block, a write of bytes to a block, or a flush, with what was answered
pub data Call : Type 0 where
  reading : ℕ → Result Content DiskFault → Call
  writing : ℕ → List ℕ → Result (Unit {0}) DiskFault → Call
  flushing : Result (Unit {0}) DiskFault → Call

-- the call names a block of a disk of n blocks; a flush names none, and is good
abbrev pub good : ℕ → Call → Bool
good n (reading k r) = nat_lt k n
good n (writing k bs r) = nat_lt k n
good n (flushing r) = true

-- the answer is 20, power gone
abbrev pub failed : {A : Type 0} → Result A DiskFault → Bool
failed (Ok x) = false
failed (Err (PowerGone p)) = true
failed (Err (NoSuchBlock p)) = false

-- the call was answered 20
abbrev pub cut : Call → Bool
cut (reading k r) = failed r
cut (writing k bs r) = failed r
cut (flushing r) = failed r

-- some call of the list was
abbrev pub any_cut : List Call → Bool
any_cut [] = false
any_cut (c ∷ cs) = cut c || any_cut cs
