-- Digits read one after another.
use Rattle.std.proofs.Common.{ℕ, ◌^◌, ◌<◌, ◌≤◌, arith}
use native.Mathlib.Nat.{pow-le-pow_right}

pub below_power : (k v i : ℕ) → v < 10 ^ i → i ≤ k → v < 10 ^ k
below_power k v i h few = omega (arith, pow-le-pow_right {n = 10} (omega arith) few)
