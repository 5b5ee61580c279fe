-- The run from h to just before k: where m steps lead from h to k for the first time, it has the first m elements of the walk.
use Rattle.std.proofs.Common.{◌≡◌, ℕ, zero, suc, ◌<◌, ◌≤◌, ◌≢◌, ◌∷◌, sym, refl, ap, ◌∙◌, subst, arith}
use Rattle.std.specs.List.{ContainsAt as In}
use Rattle.boundary.specs.declared.Boundary.{Boundary}
use Rattle.boundary.specs.Tables.{run, next, owner}
use Rattle.boundary.proofs.Rows.{run_on, run_ends}
use Rattle.rings.specs.Rings.{walk, Rings, First, OnRun, run as steps-run}
use Rattle.rings.proofs.Facts.{walk_used, injective}
use Rattle.rings.proofs.Walks.{walk_first}
use Rattle.rings.proofs.Round.{meets, within_bound, has_from_on, on_from_has}
use Rattle.rules.specs.Rules.{Used, Sound}
use Rattle.rules.proofs.Halves.{used_small}
use Rattle.rules.proofs.RulesAsRings.{loop_rings}

-- one step on, the rest is a first time too
first_on : (f : ℕ → ℕ) (h k m : ℕ) → First f h k (suc m) → First f (f h) k m
first_on f h k m w = record {
  arrives = walk_first f m h ∙ w.arrives;
  not_before = λ i lt e. w.not_before (suc i) (omega arith) (sym (walk_first f i h) ∙ e);
}

pub run_is : (f : ℕ → ℕ) (n h k m : ℕ) → First f h k m → m ≤ n → run f n h k ≡ steps-run f h m
run_is f n h k zero w le = run_ends f n h k w.arrives
run_is f zero h k (suc m) w le = absurd (let none : suc m ≤ 0 = le in omega arith)
run_is f (suc n) h k (suc m) w le =
    run_on f n h k (w.not_before 0 (omega arith)) ∙ ap (λ l. h ∷ l) (run_is f n (f h) k m (first_on f h k m w) (omega arith))

-- the elements of a run
pub on_from_in : (f : ℕ → ℕ) (n h k m x : ℕ) → First f h k m → m ≤ n → In (run f n h k) x → OnRun f h m x
on_from_in f n h k m x w le i = on_from_has f h m x (subst (λ l. In l x) (run_is f n h k m w le) i)

pub in_from_on : (f : ℕ → ℕ) (n h k m x : ℕ) → First f h k m → m ≤ n → OnRun f h m x → In (run f n h k) x
in_from_on f n h k m x w le o = subst (λ l. In l x) (sym (run_is f n h k m w le)) (has_from_on f h m x o)

-- each element of a ring is met a first time, in fewer steps than there are numbers
pub record Met (f : ℕ → ℕ) (N h k : ℕ) : Type 0 where
  pub steps : ℕ
  pub first : First f h k steps
  pub few : steps < N

pub meets_within : {f : ℕ → ℕ} {used : ℕ → Type 0} {lab : ℕ → ℕ} → Rings f used lab → (N : ℕ) → ((k : ℕ) → used k → k < N) → (h k : ℕ) → used h → used k → lab h ≡ lab k → Met f N h k
meets_within r N small h k u v e =
    let m = meets r h k u v e in
    record { steps = m.0; first = m.1; few = within_bound r h k m.0 u v e m.1.not_before N small }

pub loop_meets : (b : Boundary) → Sound b → (h k : ℕ) → Used b h → Used b k → owner b h ≡ owner b k → Met (next b) 384 h k
loop_meets b s h k u v e = meets_within (loop_rings b s) 384 (used_small b s.sizes.edges) h k u v e

-- where a run leads to j for the first time, it leads to the element q before j one step sooner
pub last_step : {f : ℕ → ℕ} {used : ℕ → Type 0} {lab : ℕ → ℕ} → Rings f used lab → (h j q m : ℕ) → used h → used q → f q ≡ j → h ≢ j → First f h j m → (n : ℕ) × (m ≡ suc n) × First f h q n
last_step r h j q zero u v e ne w = absurd (ne w.arrives)
last_step {f} r h j q (suc n) u v e ne w =
    (n, refl, record { arrives = injective r (walk f n h) q (walk_used r n h u) v (w.arrives ∙ sym e); not_before = λ i lt p. w.not_before (suc i) (omega arith) (ap f p ∙ e) })
