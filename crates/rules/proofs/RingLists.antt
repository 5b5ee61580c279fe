-- Lists of half-edges: what stands in them, that none stands twice, and how a step leads along them.
use Rattle.std.proofs.Common.{◌≡◌, ℕ, zero, suc, ◌<◌, ◌≢◌, ◌⊎◌, List, [], ◌∷◌, ◌++◌, sym, refl, ap, ◌∙◌, subst, inl, inr, arith}
use native.Mathlib.Decide.{ℕ_discrete}
use Rattle.std.specs.List.{ContainsAt as In}
use Rattle.std.proofs.ByRecursion.{has_append_left, has_append_right}
use Rattle.boundary.specs.declared.Boundary.{Boundary}
use Rattle.boundary.specs.Tables.{next, owner}
use Rattle.rules.specs.Rules.{Used}
use Rattle.rules.specs.RingLaws.{LeadsTo, GoesRound, once, RingOf}

-- what stands in a list
pub in_none : (h : ℕ) → In [] h → ⊥
in_none h (i, lt, at) = let none : i < 0 = lt in omega arith

pub in_first : (h : ℕ) (hs : List ℕ) → In (h ∷ hs) h
in_first h hs = (0, omega arith, λ d. refl)

pub in_rest : (x h : ℕ) (hs : List ℕ) → In hs h → In (x ∷ hs) h
in_rest x h hs i = (suc i.0, omega (arith, i.1), i.2)

pub in_cases : (x h : ℕ) (hs : List ℕ) → In (x ∷ hs) h → (h ≡ x) ⊎ In hs h
in_cases x h hs (zero, lt, at) = inl (sym (at 0))
in_cases x h hs (suc i, lt, at) = inr (i, omega arith, at)

pub in_one : (x h : ℕ) → In (x ∷ []) h → h ≡ x
in_one x h i = elim (in_cases x h [] i) [ inl e ↦ e | inr none ↦ absurd (in_none h none) ]

-- what does not stand in a list is not its first, nor in the rest
pub in_not_first : (x h : ℕ) (hs : List ℕ) → (In (x ∷ hs) h → ⊥) → h ≢ x
in_not_first x h hs n e = n (subst (In (x ∷ hs)) (sym e) (in_first x hs))

pub in_not_rest : (x h : ℕ) (hs : List ℕ) → (In (x ∷ hs) h → ⊥) → In hs h → ⊥
in_not_rest x h hs n i = n (in_rest x h hs i)

-- in a list put together
pub in_left : (xs ys : List ℕ) (h : ℕ) → In xs h → In (xs ++ ys) h
in_left xs ys h i = has_append_left xs ys h i

pub in_right : (xs ys : List ℕ) (h : ℕ) → In ys h → In (xs ++ ys) h
in_right xs ys h i = has_append_right xs ys h i

pub in_parts : (xs ys : List ℕ) (h : ℕ) → In (xs ++ ys) h → In xs h ⊎ In ys h
in_parts [] ys h i = inr i
in_parts (x ∷ xs) ys h i = elim (in_cases x h (xs ++ ys) i) [
  | inl e ↦ inl (subst (In (x ∷ xs)) (sym e) (in_first x xs))
  | inr more ↦ elim (in_parts xs ys h more) [ inl j ↦ inl (in_rest x h xs j) | inr j ↦ inr j ]
]

pub in? : (hs : List ℕ) (h : ℕ) → Dec (In hs h)
in? [] h = no (in_none h)
in? (x ∷ hs) h = elim (ℕ_discrete h x) [
  | yes e ↦ yes (subst (In (x ∷ hs)) (sym e) (in_first x hs))
  | no ne ↦ elim (in? hs h) [
    | yes i ↦ yes (in_rest x h hs i)
    | no n ↦ no (λ i. elim (in_cases x h hs i) [ inl e ↦ ne e | inr more ↦ n more ])
  ]
]

-- one that is not the first stands behind it
pub in_behind : (x h : ℕ) (hs : List ℕ) → In (x ∷ hs) h → h ≢ x → In hs h
in_behind x h hs i ne = elim (in_cases x h hs i) [ inl e ↦ absurd (ne e) | inr more ↦ more ]

pub none_of_two : (l m h : ℕ) → (In (l ∷ m ∷ []) h → ⊥) → (h ≢ l) × (h ≢ m)
none_of_two l m h n = (
  λ e. n (subst (In (l ∷ m ∷ [])) (sym e) (in_first l (m ∷ []))),
  λ e. n (subst (In (l ∷ m ∷ [])) (sym e) (in_rest l m (m ∷ []) (in_first m []))),
)

-- none stands twice: in a list put together, and in its parts
pub once_append : (xs ys : List ℕ) → once xs → once ys → ((h : ℕ) → In xs h → In ys h → ⊥) → once (xs ++ ys)
once_append [] ys p q n = q
once_append (x ∷ xs) ys p q n = (
  λ i. elim (in_parts xs ys x i) [ inl j ↦ p.0 j | inr j ↦ n x (in_first x xs) j ],
  once_append xs ys p.1 q (λ h i j. n h (in_rest x h xs i) j),
)

pub once_left : (xs ys : List ℕ) → once (xs ++ ys) → once xs
once_left [] ys o = tt
once_left (x ∷ xs) ys o = (λ i. o.0 (in_left xs ys x i), once_left xs ys o.1)

pub once_right : (xs ys : List ℕ) → once (xs ++ ys) → once ys
once_right [] ys o = o
once_right (x ∷ xs) ys o = once_right xs ys o.1

pub once_apart : (xs ys : List ℕ) → once (xs ++ ys) → (h : ℕ) → In xs h → In ys h → ⊥
once_apart [] ys o h i j = in_none h i
once_apart (x ∷ xs) ys o h i j = elim (in_cases x h xs i) [
  | inl e ↦ o.0 (in_right xs ys x (subst (In ys) e j))
  | inr more ↦ once_apart xs ys o.1 h more j
]

-- the first of a list, or k where it is empty
abbrev pub first_or : List ℕ → ℕ → ℕ
first_or [] k = k
first_or (h ∷ hs) k = h

pub first_or_append : (xs ys : List ℕ) (k : ℕ) → first_or (xs ++ ys) k ≡ first_or xs (first_or ys k)
first_or_append [] ys k = refl
first_or_append (x ∷ xs) ys k = refl

module _ (f : ℕ → ℕ) where
  -- one more in front
  pub leads_more : (h : ℕ) (hs : List ℕ) (k : ℕ) → f h ≡ first_or hs k → LeadsTo f hs k → LeadsTo f (h ∷ hs) k
  leads_more h [] k e p = e
  leads_more h (j ∷ hs) k e p = (e, p)

  pub leads_first : (h : ℕ) (hs : List ℕ) (k : ℕ) → LeadsTo f (h ∷ hs) k → f h ≡ first_or hs k
  leads_first h [] k p = p
  leads_first h (j ∷ hs) k p = p.0

  pub leads_rest : (h : ℕ) (hs : List ℕ) (k : ℕ) → LeadsTo f (h ∷ hs) k → LeadsTo f hs k
  leads_rest h [] k p = tt
  leads_rest h (j ∷ hs) k p = p.1

  -- along a list put together, and along its parts
  pub leads_append : (xs ys : List ℕ) (k : ℕ) → LeadsTo f xs (first_or ys k) → LeadsTo f ys k → LeadsTo f (xs ++ ys) k
  leads_append [] ys k p q = q
  leads_append (x ∷ xs) ys k p q =
      leads_more x (xs ++ ys) k (leads_first x xs (first_or ys k) p ∙ sym (first_or_append xs ys k)) (leads_append xs ys k (leads_rest x xs (first_or ys k) p) q)

  pub leads_left : (xs ys : List ℕ) (k : ℕ) → LeadsTo f (xs ++ ys) k → LeadsTo f xs (first_or ys k)
  leads_left [] ys k p = tt
  leads_left (x ∷ xs) ys k p =
      leads_more x xs (first_or ys k) (leads_first x (xs ++ ys) k p ∙ first_or_append xs ys k) (leads_left xs ys k (leads_rest x (xs ++ ys) k p))

  pub leads_right : (xs ys : List ℕ) (k : ℕ) → LeadsTo f (xs ++ ys) k → LeadsTo f ys k
  leads_right [] ys k p = p
  leads_right (x ∷ xs) ys k p = leads_right xs ys k (leads_rest x (xs ++ ys) k p)

  -- each of a list leads to k, or to one behind the first
  pub leads_cases : (x : ℕ) (hs : List ℕ) (k j : ℕ) → LeadsTo f (x ∷ hs) k → In (x ∷ hs) j → (f j ≡ k) ⊎ In hs (f j)
  leads_cases x [] k j p i = inl (ap f (in_one x j i) ∙ p)
  leads_cases x (h ∷ hs) k j p i = elim (in_cases x j (h ∷ hs) i) [
    | inl e ↦ inr (subst (In (h ∷ hs)) (sym (ap f e ∙ p.0)) (in_first h hs))
    | inr more ↦ elim (leads_cases h hs k j p.1 more) [ inl e ↦ inl e | inr m ↦ inr (in_rest h (f j) hs m) ]
  ]

-- another step f' that differs from f at most where f leads to k, and there leads to k'
module _ (f f' : ℕ → ℕ) where
  pub leads_carried : (x : ℕ) (hs : List ℕ) (k k' : ℕ) → ((j : ℕ) → In (x ∷ hs) j → In hs (f j) → f' j ≡ f j) → ((j : ℕ) → In (x ∷ hs) j → f j ≡ k → f' j ≡ k') → LeadsTo f (x ∷ hs) k → LeadsTo f' (x ∷ hs) k'
  leads_carried x [] k k' same last p = last x (in_first x []) p
  leads_carried x (h ∷ hs) k k' same last p = (
    same x (in_first x (h ∷ hs)) (subst (In (h ∷ hs)) (sym p.0) (in_first h hs)) ∙ p.0,
    leads_carried h hs k k' (λ j i m. same j (in_rest x j (h ∷ hs) i) (in_rest h (f j) hs m)) (λ j i e. last j (in_rest x j (h ∷ hs) i) e) p.1,
  )

  -- what led to k leads to k', and k is not behind the first
  pub leads_led : (x : ℕ) (hs : List ℕ) (k k' : ℕ) → (In hs k → ⊥) → ((j : ℕ) → In (x ∷ hs) j → f j ≢ k → f' j ≡ f j) → ((j : ℕ) → In (x ∷ hs) j → f j ≡ k → f' j ≡ k') → LeadsTo f (x ∷ hs) k → LeadsTo f' (x ∷ hs) k'
  leads_led x hs k k' n miss hit p = leads_carried x hs k k' (λ j i m. miss j i (λ e. n (subst (In hs) e m))) hit p

  pub leads_same : (hs : List ℕ) (k : ℕ) → ((j : ℕ) → In hs j → f' j ≡ f j) → LeadsTo f hs k → LeadsTo f' hs k
  leads_same [] k same p = tt
  leads_same (x ∷ hs) k same p = leads_carried x hs k k (λ j i m. same j i) (λ j i e. same j i ∙ e) p

  pub round_same : (hs : List ℕ) → ((j : ℕ) → In hs j → f' j ≡ f j) → GoesRound f hs → GoesRound f' hs
  round_same [] same p = p
  round_same (x ∷ hs) same p = leads_same (x ∷ hs) x same p

-- the half-edges of the loop m are those that they were, and lead where they led
pub record Kept (b b' : Boundary) (m : ℕ) : Type 0 where
  pub used_in : (h : ℕ) → Used b h → owner b h ≡ m → Used b' h
  pub owner_in : (h : ℕ) → Used b h → owner b h ≡ m → owner b' h ≡ m
  pub next_in : (h : ℕ) → Used b h → owner b h ≡ m → next b' h ≡ next b h
  pub used_out : (h : ℕ) → Used b' h → owner b' h ≡ m → Used b h
  pub owner_out : (h : ℕ) → Used b' h → owner b' h ≡ m → owner b h ≡ m

pub ring_kept : (b b' : Boundary) (m : ℕ) (hs : List ℕ) → Kept b b' m → RingOf b m hs → RingOf b' m hs
ring_kept b b' m hs same r = record {
  round = round_same (next b) (next b') hs (λ j i. same.next_in j (r.only j i).0 (r.only j i).1) r.round;
  distinct = r.distinct;
  only = λ h i. (same.used_in h (r.only h i).0 (r.only h i).1, same.owner_in h (r.only h i).0 (r.only h i).1);
  whole = λ h u e. r.whole h (same.used_out h u e) (same.owner_out h u e);
}

-- a ring in two parts, the second of which begins with y
pub record Parts (b : Boundary) (m x y : ℕ) (xs ys : List ℕ) : Type 0 where
  pub front_in : (i : ℕ) → In (x ∷ xs) i → Used b i × (owner b i ≡ m)
  pub back_in : (i : ℕ) → In (y ∷ ys) i → Used b i × (owner b i ≡ m)
  pub front_once : once (x ∷ xs)
  pub back_once : once (y ∷ ys)
  pub apart : (i : ℕ) → In (x ∷ xs) i → In (y ∷ ys) i → ⊥
  pub front_leads : LeadsTo (next b) (x ∷ xs) y
  pub back_leads : LeadsTo (next b) (y ∷ ys) x
  pub on_m : owner b x ≡ m

pub parts_of : (b : Boundary) (m x y : ℕ) (xs ys : List ℕ) → RingOf b m (x ∷ xs ++ y ∷ ys) → Parts b m x y xs ys
parts_of b m x y xs ys r = record {
  front_in = λ i p. r.only i (in_left (x ∷ xs) (y ∷ ys) i p);
  back_in = λ i p. r.only i (in_right (x ∷ xs) (y ∷ ys) i p);
  front_once = once_left (x ∷ xs) (y ∷ ys) r.distinct;
  back_once = once_right (x ∷ xs) (y ∷ ys) r.distinct;
  apart = once_apart (x ∷ xs) (y ∷ ys) r.distinct;
  front_leads = leads_left (next b) (x ∷ xs) (y ∷ ys) x r.round;
  back_leads = leads_right (next b) (x ∷ xs) (y ∷ ys) x r.round;
  on_m = (r.only x (in_first x (xs ++ y ∷ ys))).1;
}
