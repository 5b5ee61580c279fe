-- An edge between two loops makes one ring of both: 2k, the ring of the second end, 2k + 1, the ring of the first; and the other rings stay.
--     Strand b t l xs    xs is the ring of l from the target on, and empty where there is none
use Rattle.std.proofs.Common.{◌≡◌, ℕ, ◌+◌, ◌-◌, ◌*◌, ◌<◌, cond, ◌≢◌, List, [], ◌∷◌, ◌++◌, Some, None, Option, unwrap_or, sym, refl, ap, ◌∙◌, subst, inl, inr, arith}
use native.Mathlib.Decide.{ℕ_discrete}
use Rattle.std.specs.List.{ContainsAt as In}
use Rattle.boundary.specs.declared.Boundary.{Boundary}
use Rattle.boundary.specs.Tables.{next, owner, lone, lone_of, is_half_place, place_loop, place_vertex}
use Rattle.boundary.specs.Operators.{mekr}
use Rattle.boundary.specs.Refusals.{mekr_refusal}
use Rattle.rules.specs.Rules.{Used, Sound}
use Rattle.rules.specs.RingLaws.{LeadsTo, once, RingOf, At, at_half_edge, at_lone, Else, MekrLaw}
use Rattle.rules.proofs.Halves.{new_even, new_odd}
use Rattle.rules.proofs.Mekr.{linked, linked_is, Linkable, linkable, x_used, y_used, used_in, used_out, x_owner, y_owner, x_next, y_next, owner_hit, owner_miss, led_x, led_y, next_is, owner_cases, loop_there}
use Rattle.rules.proofs.RingLists.{in_none, in_first, in_rest, in_cases, in_not_first, in_not_rest, in_left, in_right, in_parts, once_append, first_or, first_or_append, leads_more, leads_append, leads_led, Kept, ring_kept}
use Rattle.rules.proofs.Rows.{some_same}
use Rattle.rules.proofs.Places.{target, half_place, lone_place, lone_loop}

pub record Strand (b : Boundary) (t : Option ℕ) (l : ℕ) (xs : List ℕ) : Type 0 where
  pub distinct : once xs
  pub only : (j : ℕ) → In xs j → Used b j × (owner b j ≡ l)
  pub whole : (j : ℕ) → Used b j → owner b j ≡ l → In xs j
  pub first : (x : ℕ) → unwrap_or t x ≡ first_or xs x
  pub leads : (f : ℕ → ℕ) (x : ℕ) → ((j : ℕ) → In xs j → t ≢ Some (next b j) → f j ≡ next b j) → ((j : ℕ) → In xs j → t ≡ Some (next b j) → f j ≡ x) → LeadsTo f xs x

strand_half : (b : Boundary) (a l : ℕ) (xs : List ℕ) → RingOf b l (a ∷ xs) → Strand b (Some a) l (a ∷ xs)
strand_half b a l xs r = record {
  distinct = r.distinct;
  only = r.only;
  whole = r.whole;
  first = λ x. refl;
  leads = λ f x miss hit. leads_led (next b) f a xs a x r.distinct.0 (λ j i ne. miss j i (λ e. ne (sym (some_same refl e)))) (λ j i e. hit j i (ap Some (sym e))) r.round;
}

strand_lone : (b : Boundary) → Sound b → (l v : ℕ) → lone b l ≡ Some v → Strand b None l []
strand_lone b s l v e = record {
  distinct = tt;
  only = λ j i. absurd (in_none j i);
  whole = λ j u d. absurd (s.lone.lone_alone l v j e u d);
  first = λ x. refl;
  leads = λ f x miss hit. tt;
}

module _ (b : Boundary) (p q : Option ℕ) (l m v w k : ℕ) (s : Sound b) (o : Linkable b p q l m v w k) where
  abbrev now : Boundary
  now = linked b p q l m v w k

  abbrev X : ℕ
  X = 2 * k

  abbrev Y : ℕ
  Y = 2 * k + 1

  -- what lies on another loop than an end does not lead to it
  not_to_p : (j : ℕ) → Used b j → owner b j ≢ l → p ≢ Some (next b j)
  not_to_p j u ne e = ne (sym (s.loops.stays j u) ∙ (o.from.at (next b j) e).1)

  not_to_q : (j : ℕ) → Used b j → owner b j ≢ m → q ≢ Some (next b j)
  not_to_q j u ne e = ne (sym (s.loops.stays j u) ∙ (o.to.at (next b j) e).1)

  module _ (xs ys : List ℕ) (from : Strand b p l xs) (to : Strand b q m ys) where
    xs_not_m : (j : ℕ) → In xs j → owner b j ≢ m
    xs_not_m j i e = o.apart (sym (from.only j i).1 ∙ e)

    ys_not_l : (j : ℕ) → In ys j → owner b j ≢ l
    ys_not_l j i e = o.apart (sym e ∙ (to.only j i).1)

    xs_lead : LeadsTo (next now) xs X
    xs_lead = from.leads (next now) X (λ j i ne. next_is b p q l m v w k s o j (from.only j i).0 ne (not_to_q j (from.only j i).0 (xs_not_m j i))) (λ j i e. led_x b p q l m v w k s o j (from.only j i).0 e)

    ys_lead : LeadsTo (next now) ys Y
    ys_lead = to.leads (next now) Y (λ j i ne. next_is b p q l m v w k s o j (to.only j i).0 (not_to_p j (to.only j i).0 (ys_not_l j i)) ne) (λ j i e. led_y b p q l m v w k s o j (to.only j i).0 e)

    both_lead : LeadsTo (next now) (X ∷ (ys ++ Y ∷ xs)) X
    both_lead =
        leads_more (next now) X (ys ++ Y ∷ xs) X (x_next b p q l m v w k s o ∙ to.first Y ∙ sym (first_or_append ys (Y ∷ xs) X)) (leads_append (next now) ys (Y ∷ xs) X ys_lead (leads_more (next now) Y xs X (y_next b p q l m v w k s o ∙ from.first X) xs_lead))

    -- none stands twice
    x_not_in : In (ys ++ Y ∷ xs) X → ⊥
    x_not_in i = elim (in_parts ys (Y ∷ xs) X i) [
      | inl d ↦ new_even b.edges k X o.edge_free (to.only X d).0 refl
      | inr more ↦ elim (in_cases Y X xs more) [ inl e ↦ omega arith | inr d ↦ new_even b.edges k X o.edge_free (from.only X d).0 refl ]
    ]

    parts_apart : (j : ℕ) → In ys j → In (Y ∷ xs) j → ⊥
    parts_apart j i more = elim (in_cases Y j xs more) [
      | inl e ↦ new_odd b.edges k j o.edge_free (to.only j i).0 e
      | inr d ↦ ys_not_l j i (from.only j d).1
    ]

    both_once : once (X ∷ (ys ++ Y ∷ xs))
    both_once = (x_not_in, once_append ys (Y ∷ xs) to.distinct (λ i. new_odd b.edges k Y o.edge_free (from.only Y i).0 refl, from.distinct) parts_apart)

    -- just the half-edges of l
    only_both : (j : ℕ) → In (X ∷ (ys ++ Y ∷ xs)) j → Used now j × (owner now j ≡ l)
    only_both j i = elim (in_cases X j (ys ++ Y ∷ xs) i) [
      | inl e ↦ (subst (Used now) (sym e) (x_used b p q l m v w k s o), ap (owner now) e ∙ x_owner b p q l m v w k s o)
      | inr rest ↦ elim (in_parts ys (Y ∷ xs) j rest) [
        | inl d ↦ (used_in b p q l m v w k s o j (to.only j d).0, owner_hit b p q l m v w k s o j (to.only j d).0 (to.only j d).1)
        | inr more ↦ elim (in_cases Y j xs more) [
          | inl e ↦ (subst (Used now) (sym e) (y_used b p q l m v w k s o), ap (owner now) e ∙ y_owner b p q l m v w k s o)
          | inr d ↦ (used_in b p q l m v w k s o j (from.only j d).0, owner_miss b p q l m v w k s o j (from.only j d).0 (xs_not_m j d) ∙ (from.only j d).1)
        ]
      ]
    ]

    old_in : (j : ℕ) → Used b j → owner now j ≡ l → In (ys ++ Y ∷ xs) j
    old_in j u e = elim (ℕ_discrete (owner b j) m) [
      | yes d ↦ in_left ys (Y ∷ xs) j (to.whole j u d)
      | no ne ↦ in_right ys (Y ∷ xs) j (in_rest Y j xs (from.whole j u (sym (owner_miss b p q l m v w k s o j u ne) ∙ e)))
    ]

    whole_both : (j : ℕ) → Used now j → owner now j ≡ l → In (X ∷ (ys ++ Y ∷ xs)) j
    whole_both j u e = elim (used_out b p q l m v w k s o j u) [
      | inl d ↦ subst (In (X ∷ (ys ++ Y ∷ xs))) (sym d) (in_first X (ys ++ Y ∷ xs))
      | inr more ↦ elim more [
        | inl d ↦ in_rest X j (ys ++ Y ∷ xs) (in_right ys (Y ∷ xs) j (subst (In (Y ∷ xs)) (sym d) (in_first Y xs)))
        | inr old ↦ in_rest X j (ys ++ Y ∷ xs) (old_in j old e)
      ]
    ]

    linked_ring : RingOf now l (X ∷ (ys ++ Y ∷ xs))
    linked_ring = record { round = both_lead; distinct = both_once; only = only_both; whole = whole_both }

  -- the other loops
  module _ (n : ℕ) (nl : n ≢ l) (nm : n ≢ m) where
    lay_there : (j : ℕ) → Used now j → owner now j ≡ n → Used b j × (owner b j ≡ n)
    lay_there j u e = elim (owner_cases b p q l m v w k s o j u) [
      | inl d ↦ absurd (nl (sym e ∙ d))
      | inr old ↦ (old.0, sym old.1 ∙ e)
    ]

    linked_kept : Kept b now n
    linked_kept = record {
      used_in = λ j u e. used_in b p q l m v w k s o j u;
      owner_in = λ j u e. owner_miss b p q l m v w k s o j u (λ d. nm (sym e ∙ d)) ∙ e;
      next_in = λ j u e. next_is b p q l m v w k s o j u (not_to_p j u (λ d. nl (sym e ∙ d))) (not_to_q j u (λ d. nm (sym e ∙ d)));
      used_out = λ j u e. (lay_there j u e).0;
      owner_out = λ j u e. (lay_there j u e).1;
    }

  linked_else : Else b now (l ∷ m ∷ [])
  linked_else = record {
    rings = λ n hs out. ring_kept b now n hs (linked_kept n (in_not_first l n (m ∷ []) out) (in_not_first m n [] (in_not_rest l n (m ∷ []) out)));
    lones = λ n out. ap lone_of (loop_there b p q l m v w k s o n (in_not_first l n (m ∷ []) out) (in_not_first m n [] (in_not_rest l n (m ∷ []) out)));
  }

-- a place, as the operator reads it
loop_at : (b : Boundary) (a l v : ℕ) (xs : List ℕ) → At b a l xs v → place_loop b a ≡ l
loop_at b a l _ _ (at_half_edge xs lt r) = ap (λ t. cond t (owner b a) (a - 512)) (half_place a lt) ∙ (r.only a (in_first a xs)).1
loop_at b a l _ _ (at_lone v e q) = ap (λ t. cond t (owner b a) (a - 512)) (lone_place a l e) ∙ lone_loop a l e

strand_at : (b : Boundary) → Sound b → (a l v : ℕ) (xs : List ℕ) → At b a l xs v → Strand b (target (is_half_place a) a) l xs
strand_at b s a l _ _ (at_half_edge xs lt r) = subst (λ t. Strand b (target t a) l (a ∷ xs)) (sym (half_place a lt)) (strand_half b a l xs r)
strand_at b s a l _ _ (at_lone v e q) = subst (λ t. Strand b (target t a) l []) (sym (lone_place a l e)) (strand_lone b s l v q)

strand_here : (b : Boundary) → Sound b → (a l v : ℕ) (xs : List ℕ) → At b a l xs v → Strand b (target (is_half_place a) a) (place_loop b a) xs
strand_here b s a l v xs at = subst (λ i. Strand b (target (is_half_place a) a) i xs) (sym (loop_at b a l v xs at)) (strand_at b s a l v xs at)

module _ (b : Boundary) (a c k : ℕ) (s : Sound b) (k-small : k < 192) (r : mekr_refusal b a c k ≡ None) where
  abbrev joined : Boundary
  joined = linked b (target (is_half_place a) a) (target (is_half_place c) c) (place_loop b a) (place_loop b c) (place_vertex b a) (place_vertex b c) k

  same : mekr b a c k ≡ joined
  same = linked_is (is_half_place a) (is_half_place c) b a c (place_loop b a) (place_loop b c) (place_vertex b a) (place_vertex b c) k

  ring_at : (l i v w : ℕ) (xs ys : List ℕ) → At b a l xs v → At b c i ys w → RingOf (mekr b a c k) l (2 * k ∷ ys ++ (2 * k + 1) ∷ xs)
  ring_at l i v w xs ys at to =
      subst (λ d. RingOf d l (2 * k ∷ ys ++ (2 * k + 1) ∷ xs)) (sym same) (subst (λ n. RingOf joined n (2 * k ∷ ys ++ (2 * k + 1) ∷ xs)) (loop_at b a l v xs at) (linked_ring b _ _ _ _ _ _ k s (linkable b a c k s k-small r) xs ys (strand_here b s a l v xs at) (strand_here b s c i w ys to)))

  else_at : (l i v w : ℕ) (xs ys : List ℕ) → At b a l xs v → At b c i ys w → Else b (mekr b a c k) (l ∷ i ∷ [])
  else_at l i v w xs ys at to =
      subst (λ d. Else b d (l ∷ i ∷ [])) (sym same) (subst (λ n. Else b joined (n ∷ i ∷ [])) (loop_at b a l v xs at) (subst (λ n. Else b joined (place_loop b a ∷ n ∷ [])) (loop_at b c i w ys to) (linked_else b _ _ _ _ _ _ k s (linkable b a c k s k-small r))))

pub mekr_law : (b : Boundary) (a c k : ℕ) → Sound b → k < 192 → mekr_refusal b a c k ≡ None → MekrLaw b a c k
mekr_law b a c k s k-small r = record { ring = ring_at b a c k s k-small r; others = else_at b a c k s k-small r }
