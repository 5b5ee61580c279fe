-- What a table has after a row is put or cleared, or all used rows are changed, and what an accepted edit says of its tests.
use Rattle.std.proofs.Common.{◌≡◌, ℕ, zero, suc, ◌<◌, Bool, true, false, not, T, eqb, ◌≢◌, ◌⊎◌, List, [], ◌∷◌, map, length, set, replicate, is_some as option_is_some, Some, None, Option, unwrap_or, sym, refl, ap, ◌∙◌, subst, inl, inr, arith, get_or-set_other, get_or-set_same}
use native.Mathlib.Decide.{ℕ_discrete}
use Rattle.std.specs.Option.{option_map}
use Rattle.std.proofs.lemmas.List.{length-set, length-map}
use Rattle.std.proofs.lemmas.Bool.{eqb-false, not-true}
use Rattle.boundary.specs.declared.Boundary.{Boundary}
use Rattle.boundary.specs.declared.Loop.{Loop}
use Rattle.boundary.specs.declared.Refusal.{Refusal}
use Rattle.boundary.specs.Tables.{row, used, lone, lone_of}
use Rattle.boundary.specs.Refusals.{free, unless}
use Rattle.rules.specs.Rules.{Has}

-- a test that holds, and one that does not
pub true_T : (b : Bool) → b ≡ true → T b
true_T true e = tt
true_T false e = subst T (sym e) tt

pub not_eqb : (a b : ℕ) → not (eqb a b) ≡ true → a ≢ b
not_eqb a b e = eqb-false a b (not-true (eqb a b) e)

-- an accepted edit passed its test, and what follows accepted it too
pub unless_none : (t : Bool) (why : Refusal) (o : Option Refusal) → unless t why o ≡ None → (t ≡ true) × (o ≡ None)
unless_none true why o e = (refl, e)
unless_none false why o e = absurd (subst is_some e tt)
  where
    is_some : Option Refusal → Type 0
    is_some r = T (option_is_some r)

module _ {X : Type 0} where
  -- a used row has a value, and a row with a value is used
  some_row : (r : Option X) → T (option_is_some r) → (x : X) × (r ≡ Some x)
  some_row None u = absurd u
  some_row (Some x) u = (x, refl)

  none_row : (r : Option X) → (T (option_is_some r) → ⊥) → r ≡ None
  none_row None n = refl
  none_row (Some x) n = absurd (n tt)

  pub has_row : (t : List (Option X)) (k : ℕ) → Has t k → (x : X) × (row t k ≡ Some x)
  has_row t k u = some_row (row t k) u

  pub row_has : (t : List (Option X)) (k : ℕ) (x : X) → row t k ≡ Some x → Has t k
  row_has t k x e = subst (λ r. T (option_is_some r)) (sym e) tt

  pub no_row : (t : List (Option X)) (k : ℕ) → (Has t k → ⊥) → row t k ≡ None
  no_row t k n = none_row (row t k) n

  pub row_not_has : (t : List (Option X)) (k : ℕ) → row t k ≡ None → Has t k → ⊥
  row_not_has t k e u = subst (λ r. T (option_is_some r)) e u

  -- what has a value is not without one, and has no other
  pub none_not_some : {o : Option X} {x : X} → o ≡ None → o ≡ Some x → ⊥
  none_not_some n e = subst (λ r. T (option_is_some r)) (sym e ∙ n) tt

  pub some_same : {o : Option X} {x y : X} → o ≡ Some x → o ≡ Some y → x ≡ y
  some_same p q = cc

  pub free_not_has : (t : List (Option X)) (k : ℕ) → free t k ≡ true → Has t k → ⊥
  free_not_has t k e u = subst T (not-true (used t k) e) u

  pub has_below : (t : List (Option X)) (k : ℕ) → Has t k → k < length t
  has_below [] k u = absurd u
  has_below (r ∷ t) zero u = omega arith
  has_below (r ∷ t) (suc k) u = let p : k < length t = has_below t k u in omega arith

  -- two used rows of which one is used and the other not differ
  pub has_apart : (t : List (Option X)) (m k : ℕ) → Has t m → (Has t k → ⊥) → m ≢ k
  has_apart t m k u n e = n (subst (Has t) e u)

  -- one row is put, used or not
  pub row_put_same : (t : List (Option X)) (k : ℕ) (r : Option X) → k < length t → row (set t k r) k ≡ r
  row_put_same t k r lt = get_or-set_same t k r None lt

  pub row_put_other : (t : List (Option X)) (k m : ℕ) (r : Option X) → m ≢ k → row (set t k r) m ≡ row t m
  row_put_other t k m r ne = get_or-set_other t k m r None ne

  pub length_put : (t : List (Option X)) (k : ℕ) (r : Option X) → length (set t k r) ≡ length t
  length_put t k r = length-set t k r

  -- a used row is put
  pub has_put_same : (t : List (Option X)) (k : ℕ) (x : X) → k < length t → Has (set t k (Some x)) k
  has_put_same t k x lt = row_has (set t k (Some x)) k x (row_put_same t k (Some x) lt)

  pub has_put_other_in : (t : List (Option X)) (k m : ℕ) (x : X) → Has t m → Has (set t k (Some x)) m
  has_put_other_in t k m x u = elim (ℕ_discrete m k) [
    | yes e ↦ subst (Has (set t k (Some x))) (sym e) (has_put_same t k x (has_below t k (subst (Has t) e u)))
    | no ne ↦ subst (λ r. T (option_is_some r)) (sym (row_put_other t k m (Some x) ne)) u
  ]

  pub has_put_cases : (t : List (Option X)) (k m : ℕ) (x : X) → Has (set t k (Some x)) m → (m ≡ k) ⊎ Has t m
  has_put_cases t k m x u = elim (ℕ_discrete m k) [
    | yes e ↦ inl e
    | no ne ↦ inr (subst (λ r. T (option_is_some r)) (row_put_other t k m (Some x) ne) u)
  ]

  -- where k was used already, the same rows are used
  pub has_put_again : (t : List (Option X)) (k m : ℕ) (x : X) → Has t k → Has (set t k (Some x)) m → Has t m
  has_put_again t k m x old u = elim (has_put_cases t k m x u) [ inl e ↦ subst (Has t) (sym e) old | inr v ↦ v ]

  -- a row is cleared
  pub has_clear_in : (t : List (Option X)) (k m : ℕ) → m ≢ k → Has t m → Has (set t k None) m
  has_clear_in t k m ne u = subst (λ r. T (option_is_some r)) (sym (row_put_other t k m None ne)) u

  pub has_clear_same : (t : List (Option X)) (k : ℕ) → Has (set t k None) k → ⊥
  has_clear_same t k u = row_not_has (set t k None) k (row_put_same t k None bound) u
    where
      bound : k < length t
      bound = subst (λ n. k < n) (length_put t k None) (has_below (set t k None) k u)

  pub has_clear_out : (t : List (Option X)) (k m : ℕ) → Has (set t k None) m → Has t m × (m ≢ k)
  has_clear_out t k m u = elim (ℕ_discrete m k) [
    | yes e ↦ absurd (has_clear_same t k (subst (Has (set t k None)) e u))
    | no ne ↦ (subst (λ r. T (option_is_some r)) (row_put_other t k m None ne) u, ne)
  ]

  -- every used row is changed by g
  pub row_map : (g : X → X) (t : List (Option X)) (m : ℕ) → row (map (option_map g) t) m ≡ option_map g (row t m)
  row_map g [] m = refl
  row_map g (r ∷ t) zero = refl
  row_map g (r ∷ t) (suc m) = row_map g t m

  pub is_some_mapped : (g : X → X) (r : Option X) → option_is_some (option_map g r) ≡ option_is_some r
  is_some_mapped g None = refl
  is_some_mapped g (Some x) = refl

  pub used_map : (g : X → X) (t : List (Option X)) (m : ℕ) → used (map (option_map g) t) m ≡ used t m
  used_map g t m = ap option_is_some (row_map g t m) ∙ is_some_mapped g (row t m)

  pub has_map_in : (g : X → X) (t : List (Option X)) (m : ℕ) → Has t m → Has (map (option_map g) t) m
  has_map_in g t m u = subst T (sym (used_map g t m)) u

  pub has_map_out : (g : X → X) (t : List (Option X)) (m : ℕ) → Has (map (option_map g) t) m → Has t m
  has_map_out g t m u = subst T (used_map g t m) u

  pub length_mapped : (g : X → X) (t : List (Option X)) → length (map (option_map g) t) ≡ length t
  length_mapped g t = length-map t (option_map g)

-- a table of unused rows
pub row_none : (X : Type 0) (n k : ℕ) → row (replicate {A = Option X} n None) k ≡ None
row_none X zero k = refl
row_none X (suc n) zero = refl
row_none X (suc n) (suc k) = row_none X n k

pub has_none : (X : Type 0) (n k : ℕ) → Has (replicate {A = Option X} n None) k → ⊥
has_none X n k u = row_not_has (replicate {A = Option X} n None) k (row_none X n k) u

-- a value that is there
pub some_value : (o : Option ℕ) → T (option_is_some o) → o ≡ Some (unwrap_or o 0)
some_value None u = absurd u
some_value (Some v) u = refl

-- a loop with a lone vertex is used
pub lone_has : (b : Boundary) (l v : ℕ) → lone b l ≡ Some v → Has b.loops l
lone_has b l v e = go (row b.loops l) e
  where
    go : (r : Option Loop) → lone_of r ≡ Some v → T (option_is_some r)
    go None q = subst (λ o. T (option_is_some o)) (sym q) tt
    go (Some x) q = tt
