-- An edge with the halves x and y is gone: how the steps lead along what is left of a ring.
use Rattle.std.proofs.Common.{◌≡◌, ℕ, ◌≢◌, List, [], ◌∷◌, sym, ap, ◌∙◌, subst}
use Rattle.std.specs.List.{ContainsAt as In}
use Rattle.boundary.specs.declared.Boundary.{Boundary}
use Rattle.boundary.specs.Tables.{next, owner}
use Rattle.boundary.specs.Operators.{past}
use Rattle.rules.specs.Rules.{Used, Sound}
use Rattle.rules.specs.RingLaws.{LeadsTo, GoesRound, once}
use Rattle.rules.proofs.ErasedEdge.{Gone, past_on, past_over}
use Rattle.rules.proofs.RingLists.{in_first, in_rest, first_or, leads_carried, Kept}

-- along a list without x and y that led to t and leads to k
pub leads_without : (b c : Boundary) (x y : ℕ) → Gone b c x y → (hs : List ℕ) (t k : ℕ) → ((i : ℕ) → In hs i → Used b i × (i ≢ x) × (i ≢ y)) → ((i : ℕ) → In hs i → next b i ≡ t → next c i ≡ k) → LeadsTo (next b) hs t → LeadsTo (next c) hs k
leads_without b c x y d [] t k left last p = tt
leads_without b c x y d (h ∷ hs) t k left last p = leads_carried (next b) (next c) h hs t k same last p
  where
    same : (i : ℕ) → In (h ∷ hs) i → In hs (next b i) → next c i ≡ next b i
    same i m n =
        let o = left i m in
        let q = left (next b i) (in_rest h (next b i) hs n) in
        d.elsewhere i o.0 o.1 o.2 q.1 q.2

-- where what led to x goes on: to the first of the ring of y behind y, or past x where y is alone
pub past_first : (b : Boundary) (x y : ℕ) (ys : List ℕ) → GoesRound (next b) (y ∷ ys) → once (y ∷ ys) → past b x y ≡ first_or ys (next b x)
past_first b x y [] p o = past_over b x y p
past_first b x y (z ∷ zs) p o = past_on b x y (λ e. o.0 (subst (In (z ∷ zs)) (sym p.0 ∙ e) (in_first z zs))) ∙ p.0

-- a loop m that neither x nor y lay on keeps its ring, if just what lay on m lies on m
module _ (b c : Boundary) (x y m : ℕ) (s : Sound b) (d : Gone b c x y) (not_x : m ≢ owner b x) (not_y : m ≢ owner b y) where
  apart : (i : ℕ) → owner b i ≡ m → (i ≢ x) × (i ≢ y)
  apart i e = (λ t. not_x (sym e ∙ ap (owner b) t), λ t. not_y (sym e ∙ ap (owner b) t))

  pub kept_without : ((i : ℕ) → Used b i → i ≢ x → i ≢ y → owner b i ≡ m → owner c i ≡ m) → ((i : ℕ) → Used c i → owner c i ≡ m → owner b i ≡ m) → Kept b c m
  kept_without to from = record {
    used_in = λ i u e. d.still_in_use i u (apart i e).0 (apart i e).1;
    owner_in = λ i u e. to i u (apart i e).0 (apart i e).1 e;
    next_in = λ i u e. let n = apart (next b i) (s.loops.stays i u ∙ e) in d.elsewhere i u (apart i e).0 (apart i e).1 n.0 n.1;
    used_out = λ i u e. (d.in_use i u).0;
    owner_out = from;
  }
