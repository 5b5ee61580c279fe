-- The run from the first of a list up to k is the list, where the step leads along it and to k, and k is not in it.
use Rattle.std.proofs.Common.{◌≡◌, ℕ, zero, suc, ◌+◌, ◌≤◌, List, [], ◌∷◌, length, sym, refl, ap, ◌∙◌, subst, arith}
use Rattle.std.specs.List.{ContainsAt as In}
use Rattle.boundary.specs.declared.Boundary.{Boundary}
use Rattle.boundary.specs.Tables.{run, next, owner}
use Rattle.boundary.proofs.Rows.{run_on, run_ends}
use Rattle.rules.specs.Rules.{Used, Sound}
use Rattle.rules.specs.RingLaws.{LeadsTo}
use Rattle.rules.proofs.Runs.{Met, run_is, loop_meets}
use Rattle.rules.proofs.RingLists.{in_first, in_rest, first_or, leads_first, leads_rest}

pub run_along : (f : ℕ → ℕ) (n : ℕ) (hs : List ℕ) (k : ℕ) → LeadsTo f hs k → (In hs k → ⊥) → length hs ≤ n → run f n (first_or hs k) k ≡ hs
run_along f n [] k p out le = run_ends f n k k refl
run_along f zero (h ∷ hs) k p out le = absurd (let none : suc (length hs) ≤ 0 = le in omega arith)
run_along f (suc n) (h ∷ hs) k p out le =
    run_on f n h k (λ e. out (subst (In (h ∷ hs)) e (in_first h hs)))
    ∙ ap (λ i. h ∷ run f n i k) (leads_first f h hs k p)
    ∙ ap (λ l. h ∷ l) (run_along f n hs k (leads_rest f h hs k p) (λ i. out (in_rest h k hs i)) (omega arith))

-- where the run ends at all, the bound does not matter
run_any : (f : ℕ → ℕ) (n m h k : ℕ) → Met f n h k → n ≤ m → run f n h k ≡ run f m h k
run_any f n m h k w le =
    run_is f n h k w.steps w.first (omega (arith, w.few)) ∙ sym (run_is f m h k w.steps w.first (omega (arith, w.few)))

-- the run from h up to k on a loop of a sound boundary
pub run_list : (b : Boundary) → Sound b → (h : ℕ) (hs : List ℕ) (k : ℕ) → h ≡ first_or hs k → Used b h → Used b k → owner b h ≡ owner b k → LeadsTo (next b) hs k → (In hs k → ⊥) → run (next b) 384 h k ≡ hs
run_list b s h hs k e u v o p out =
    run_any (next b) 384 (384 + length hs) h k (loop_meets b s h k u v o) (omega arith)
    ∙ ap (λ i. run (next b) (384 + length hs) i k) e
    ∙ run_along (next b) (384 + length hs) hs k p out (omega arith)
