-- How many rows a table has after a change, and what it means that just one row lies in k.
use Rattle.std.proofs.Common.{◌≡◌, ℕ, zero, suc, ◌+◌, ◌<◌, ◌≤◌, Bool, true, false, cond, T, List, [], ◌∷◌, map, length, set, replicate, is_some, Some, None, count_by, Option, sym, refl, ap, ◌∙◌, subst, arith}
use native.Mathlib.Decide.{ℕ_discrete, dec_lt}
use Rattle.std.specs.Option.{option_map}
use Rattle.std.proofs.lemmas.List.{set_past}
use Rattle.std.proofs.lemmas.List.Sums.{sum_by-cons, sum_by-set, get_or-le-sum_by, count_by-le-length}
use Rattle.std.proofs.lemmas.Bool.{eq-eqb, eqb-true}
use Rattle.boundary.specs.declared.Boundary.{Boundary}
use Rattle.boundary.specs.Operators.{one_more}
use Rattle.boundary.specs.Tables.{row, count, in_row, parts, first_part}
use Rattle.rules.specs.Rules.{Has, Sizes, Balanced}
use Rattle.rules.proofs.Rows.{has_below, has_row, no_row, row_has, row_put_other, length_put}

-- one, or nothing
abbrev tally : Bool → ℕ
tally b = cond b 1 0

module _ {X : Type 0} where
  -- a change of one row, for any count
  change : (p : Option X → Bool) (t : List (Option X)) (k : ℕ) (r : Option X) → k < length t → count_by p (set t k r) + tally (p (row t k)) ≡ count_by p t + tally (p r)
  change p t k r lt = sum_by-set (λ x. cond (p x) 1 0) t k r None lt

  pub count_put_free : (t : List (Option X)) (k : ℕ) (x : X) → k < length t → (Has t k → ⊥) → count (set t k (Some x)) ≡ count t + 1
  count_put_free t k x lt n =
      let old : tally (is_some (row t k)) ≡ 0 = ap (λ r. tally (is_some r)) (no_row t k n) in
      omega (arith, change is_some t k (Some x) lt, old)

  pub count_put_used : (t : List (Option X)) (k : ℕ) (x : X) → Has t k → count (set t k (Some x)) ≡ count t
  count_put_used t k x u =
      let old : tally (is_some (row t k)) ≡ 1 = ap (λ r. tally (is_some r)) (has_row t k u).1 in
      omega (arith, change is_some t k (Some x) (has_below t k u), old)

  pub count_clear : (t : List (Option X)) (k : ℕ) → Has t k → count (set t k None) + 1 ≡ count t
  count_clear t k u =
      let old : tally (is_some (row t k)) ≡ 1 = ap (λ r. tally (is_some r)) (has_row t k u).1 in
      omega (arith, change is_some t k None (has_below t k u), old)

  -- a row that is put where it was used, or cleared where it was not, leaves the count
  pub count_put_alike : (t : List (Option X)) (k : ℕ) (r : Option X) → is_some r ≡ is_some (row t k) → count (set t k r) ≡ count t
  count_put_alike t k r e = elim (dec_lt k (length t)) [
    | yes lt ↦ let same : tally (is_some r) ≡ tally (is_some (row t k)) = ap tally e in omega (arith, change is_some t k r lt, same)
    | no past ↦ ap count (set_past t k r (omega arith))
  ]

  pub count_map : (g : X → X) (t : List (Option X)) → count (map (option_map g) t) ≡ count t
  count_map g [] = refl
  count_map g (r ∷ t) =
      sum_by-cons (λ x. cond (is_some x) 1 0) (option_map g r) (map (option_map g) t) ∙ ap (λ n. tally (is_some (option_map g r)) + n) (count_map g t) ∙ ap (λ n. n + count t) (same r) ∙ sym (sum_by-cons (λ x. cond (is_some x) 1 0) r t)
    where
      same : (q : Option X) → tally (is_some (option_map g q)) ≡ tally (is_some q)
      same None = refl
      same (Some x) = refl

  -- of a count of one, the row is one
  only_one : (p : Option X → Bool) (t : List (Option X)) (i j : ℕ) → i < length t → j < length t → count_by p t ≡ 1 → p None ≡ false → p (row t i) ≡ true → p (row t j) ≡ true → i ≡ j
  only_one p t i j li lj one none pi pj = elim (ℕ_discrete j i) [
    | yes e ↦ sym e
    | no ne ↦
        let rest : List (Option X) = set t i None in
        let here : tally (p (row t i)) ≡ 1 = ap tally pi in
        let gone : tally (p None) ≡ 0 = ap tally none in
        let there : tally (p (row rest j)) ≡ 1 = ap (λ r. tally (p r)) (row_put_other t i j None ne) ∙ ap tally pj in
        absurd (omega (arith, change p t i None li, here, gone, there, get_or-le-sum_by (λ x. cond (p x) 1 0) rest j None (subst (λ n. j < n) (sym (length_put t i None)) lj)))
  ]

  -- a row that lies in k
  in_row_some : (w : X → ℕ) (k : ℕ) (r : Option X) (x : X) → r ≡ Some x → w x ≡ k → in_row w k r ≡ true
  in_row_some w k r x e q = ap (in_row w k) e ∙ eq-eqb (w x) k q

  some_in_row : (w : X → ℕ) (k : ℕ) (r : Option X) → in_row w k r ≡ true → (x : X) × (r ≡ Some x) × (w x ≡ k)
  some_in_row w k None e = absurd (subst T (sym e) tt)
  some_in_row w k (Some x) e = (x, refl, eqb-true (w x) k e)

  pub one_part : (w : X → ℕ) (t : List (Option X)) (k i j : ℕ) (x y : X) → parts w t k ≡ 1 → row t i ≡ Some x → w x ≡ k → row t j ≡ Some y → w y ≡ k → i ≡ j
  one_part w t k i j x y one ri wi rj wj =
      only_one (in_row w k) t i j (has_below t i (row_has t i x ri)) (has_below t j (row_has t j y rj)) one refl (in_row_some w k (row t i) x ri wi) (in_row_some w k (row t j) y rj wj)

  -- a row that lies in k is counted
  pub part_counted : (w : X → ℕ) (t : List (Option X)) (k i : ℕ) (x : X) → row t i ≡ Some x → w x ≡ k → 0 < parts w t k
  part_counted w t k i x e q =
      let one : tally (in_row w k (row t i)) ≡ 1 = ap tally (in_row_some w k (row t i) x e q) in
      omega (arith, one, get_or-le-sum_by (λ r. cond (in_row w k r) 1 0) t i None (has_below t i (row_has t i x e)))

  first_in_row : (w : X → ℕ) (t : List (Option X)) (k : ℕ) → 0 < parts w t k → in_row w k (row t (first_part w t k)) ≡ true
  unfolding first_part
  first_in_row w [] k pos = absurd (let none : 0 < 0 = pos in omega arith)
  first_in_row w (r ∷ t) k pos = go (in_row w k r) refl (first_in_row w t k)
    where
      rest : in_row w k r ≡ false → 0 < parts w t k
      rest e =
          let off : tally (in_row w k r) ≡ 0 = ap tally e in
          omega (arith, pos, off, sum_by-cons (λ x. cond (in_row w k x) 1 0) r t)

      go : (c : Bool) → in_row w k r ≡ c → (0 < parts w t k → in_row w k (row t (first_part w t k)) ≡ true) → in_row w k (row (r ∷ t) (cond (in_row w k r) 0 (suc (first_part w t k)))) ≡ true
      go true e later = ap (λ c. in_row w k (row (r ∷ t) (cond c 0 (suc (first_part w t k))))) e ∙ e
      go false e later = ap (λ c. in_row w k (row (r ∷ t) (cond c 0 (suc (first_part w t k))))) e ∙ later (rest e)

  -- where some row lies in k, the first part is one
  pub first_part_in : (w : X → ℕ) (t : List (Option X)) (k : ℕ) → 0 < parts w t k → (x : X) × (row t (first_part w t k) ≡ Some x) × (w x ≡ k)
  first_part_in w t k pos = some_in_row w k (row t (first_part w t k)) (first_in_row w t k pos)

  pub one_part_first : (w : X → ℕ) (t : List (Option X)) (k : ℕ) → parts w t k ≡ 1 → (x : X) × (row t (first_part w t k) ≡ Some x) × (w x ≡ k)
  one_part_first w t k one = first_part_in w t k (omega (arith, one))

-- a table of unused rows counts none
pub count_none : (X : Type 0) (n : ℕ) → count (replicate {A = Option X} n None) ≡ 0
count_none X zero = refl
count_none X (suc n) = sum_by-cons (λ x. cond (is_some x) 1 0) None (replicate {A = Option X} n None) ∙ ap (λ m. 0 + m) (count_none X n)

pub count_le : {X : Type 0} (t : List (Option X)) → count t ≤ length t
count_le t = count_by-le-length is_some t

-- the tables are small, so a balanced boundary has few handles, and the counter has room for one more
pub handles_few : (b : Boundary) → Sizes b → Balanced b → b.handles ≤ 152
handles_few b z q =
    omega (arith, q, count_le b.edges, count_le b.loops, count_le b.shells, z.edges, z.loops, z.shells)

pub one_more_is : (b : Boundary) → Sizes b → Balanced b → one_more b.handles ≡ b.handles + 1
one_more_is b z q = let few : b.handles ≤ 152 = handles_few b z q in omega arith
