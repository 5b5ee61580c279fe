-- What an accepted edit says: its numbers are in range, and the operator does not refuse it.
use Rattle.std.proofs.Common.{◌≡◌, ℕ, ◌<◌, ◌≤◌, true, ◌&&◌, T, ltb, leb, ◌⊎◌, ℤ, pos, negsuc, None, sym, subst, inl, inr, arith}
use Rattle.std.proofs.lemmas.Bool.{ltb-true, lt-ltb, leb-true, cond-true, or_cases, and_parts}
use Rattle.boundary.specs.declared.Boundary.{Boundary}
use Rattle.boundary.specs.declared.Edit.{Edit}
use Rattle.boundary.specs.declared.Refusal.TheVariants.{OutOfRange}
use Rattle.boundary.specs.Operators.{named}
use Rattle.boundary.specs.Refusals.{below, is_place, in_range, refusal_within, refusal}
use Rattle.rules.proofs.Rows.{unless_none}

pub accepted : (b : Boundary) (e : Edit) → refusal b e ≡ None → (in_range e ≡ true) × (refusal_within b e ≡ None)
unfolding refusal
accepted b e q = unless_none (in_range e) OutOfRange (refusal_within b e) q

-- a number in range is below the table's length
pub below_named : (n : ℕ) (a : ℤ) → n ≤ 65536 → below n a ≡ true → named a < n
below_named n (pos k) le q =
    let lt : k < n = ltb-true k n q in
    subst (λ i. i < n) (sym (cond-true (ltb k 65536) k 0 (lt-ltb k 65536 (omega arith)))) lt
below_named n (negsuc k) le q = absurd (subst T (sym q) tt)

-- a place is a half-edge, or a loop with 512 added
pub place_named : (a : ℤ) → is_place a ≡ true → (named a < 384) ⊎ ((512 ≤ named a) × (named a < 608))
place_named (negsuc k) q = absurd (subst T (sym q) tt)
place_named (pos k) q = elim (or_cases (ltb k 384) (leb 512 k && ltb k 608) q) [
  | inl small ↦ let lt : k < 384 = ltb-true k 384 small in inl (subst (λ i. i < 384) (sym (same (omega arith))) lt)
  | inr large ↦
      let both = and_parts (leb 512 k) (ltb k 608) large in
      let lt : k < 608 = ltb-true k 608 both.1 in
      let ge : 512 ≤ k = leb-true 512 k both.0 in
      inr (subst (λ i. (512 ≤ i) × (i < 608)) (sym (same (omega arith))) (ge, lt))
]
  where
    same : k < 65536 → named (pos k) ≡ k
    same small = cond-true (ltb k 65536) k 0 (lt-ltb k 65536 small)
