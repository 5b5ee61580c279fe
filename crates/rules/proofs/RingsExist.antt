-- Every half-edge of a sound boundary stands first in a list that is the ring of its loop.
use Rattle.std.proofs.Common.{◌≡◌, ℕ, zero, suc, ◌<◌, List, [], ◌∷◌, length, get_or, sym, refl, ◌∙◌, arith}
use Rattle.boundary.specs.declared.Boundary.{Boundary}
use Rattle.boundary.specs.Tables.{next, owner}
use Rattle.rings.specs.Rings.{walk, run, First}
use Rattle.rings.proofs.Walks.{walk_first}
use Rattle.rings.proofs.Round.{comes_round, round}
use Rattle.rules.specs.Rules.{Used, Sound}
use Rattle.rules.specs.RingLaws.{LeadsTo, once, RingOf, HasRings}
use Rattle.rules.proofs.RulesAsRings.{loop_rings}
use Rattle.rules.proofs.RingLists.{first_or, leads_more}

-- a walk leads along its own list
run_leads : (f : ℕ → ℕ) (h n k : ℕ) → walk f n h ≡ k → LeadsTo f (run f h n) k
run_leads f h zero k e = tt
run_leads f h (suc n) k e = leads_more f h (run f (f h) n) k (first n e) (run_leads f (f h) n k (walk_first f n h ∙ e))
  where
    first : (i : ℕ) → walk f (suc i) h ≡ k → f h ≡ first_or (run f (f h) i) k
    first zero q = q
    first (suc i) q = refl

-- none stands twice where no two places have the same
once_by_places : (hs : List ℕ) → ((i j : ℕ) → i < length hs → j < length hs → get_or hs i 0 ≡ get_or hs j 0 → i ≡ j) → once hs
once_by_places [] n = tt
once_by_places (h ∷ hs) n = (
  λ i. let same : 0 ≡ suc i.0 = n 0 (suc i.0) (omega arith) (omega (arith, i.1)) (sym (i.2 0)) in omega arith,
  once_by_places hs (λ i j p q e. let same : suc i ≡ suc j = n (suc i) (suc j) (omega arith) (omega arith) e in omega arith),
)

pub has_rings : (b : Boundary) → Sound b → HasRings b
has_rings b s = record { at_half_edge = λ h u. (run (next b) (next b h) (comes_round (loop_rings b s) h u).0, ring h (comes_round (loop_rings b s) h u).0 u (comes_round (loop_rings b s) h u).1) }
  where
    ring : (h m : ℕ) → Used b h → First (next b) (next b h) h m → RingOf b (owner b h) (h ∷ run (next b) (next b h) m)
    ring h m u back =
        let r = round (loop_rings b s) h m u back in
        record {
          round = run_leads (next b) h (suc m) h (sym (walk_first (next b) m h) ∙ back.arrives);
          distinct = once_by_places (h ∷ run (next b) (next b h) m) r.once;
          only = r.only_ring;
          whole = r.whole_ring;
        }
