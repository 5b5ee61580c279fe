-- An edge erased between two loops leaves the run after h and the run after its mate as one ring, or the start of h lone, and the other rings stay.
use Rattle.std.proofs.Common.{◌≡◌, ℕ, ◌<◌, ◌≢◌, List, [], ◌∷◌, ◌++◌, None, sym, ap, ◌∙◌, subst, inl, inr}
use Rattle.std.specs.List.{ContainsAt as In}
use Rattle.boundary.specs.declared.Boundary.{Boundary}
use Rattle.boundary.specs.Tables.{start, next, owner, mate, lone}
use Rattle.boundary.specs.Refusals.{kef_refusal}
use Rattle.rules.specs.Rules.{Used, Sound}
use Rattle.rules.specs.RingLaws.{LeadsTo, GoesRound, RingOf, Along, Else, KefLaw}
use Rattle.rules.proofs.Kef.{Asked, asked, Left, was_used, not_x, not_y, stays, owner_was, owner_lx, owner_other, plain, kef_is, is_left}
use Rattle.rules.proofs.RingLists.{in_first, in_rest, in_left, in_right, in_parts, in_behind, none_of_two, once_append, first_or, leads_append, leads_rest, Kept, ring_kept}
use Rattle.rules.proofs.ErasedRings.{leads_without, past_first, kept_without}

module _ (b c : Boundary) (x y : ℕ) (s : Sound b) (a : Asked b x y) (d : Left b c x y) where
  module _ (l m : ℕ) (xs ys : List ℕ) (rx : RingOf b l (x ∷ xs)) (ry : RingOf b m (y ∷ ys)) where
    on_l : owner b x ≡ l
    on_l = (rx.only x (in_first x xs)).1

    on_m : owner b y ≡ m
    on_m = (ry.only y (in_first y ys)).1

    apart : l ≢ m
    apart e = a.apart (on_l ∙ e ∙ sym on_m)

    -- behind x, and behind y
    in_xs : (i : ℕ) → In xs i → Used b i × (owner b i ≡ l)
    in_xs i p = rx.only i (in_rest x i xs p)

    in_ys : (i : ℕ) → In ys i → Used b i × (owner b i ≡ m)
    in_ys i p = ry.only i (in_rest y i ys p)

    xs_left : (i : ℕ) → In xs i → Used b i × (i ≢ y) × (i ≢ x)
    xs_left i p = ((in_xs i p).0, λ e. apart (sym (in_xs i p).1 ∙ ap (owner b) e ∙ on_m), λ e. rx.distinct.0 (subst (In xs) e p))

    ys_left : (i : ℕ) → In ys i → Used b i × (i ≢ y) × (i ≢ x)
    ys_left i p = ((in_ys i p).0, λ e. ry.distinct.0 (subst (In ys) e p), λ e. apart (sym on_l ∙ ap (owner b) (sym e) ∙ (in_ys i p).1))

    xs_leads : LeadsTo (next c) xs (first_or ys (next b x))
    xs_leads = leads_without b c y x d.gone xs x (first_or ys (next b x)) xs_left to_x (leads_rest (next b) x xs x rx.round)
      where
        to_x : (i : ℕ) → In xs i → next b i ≡ x → next c i ≡ first_or ys (next b x)
        to_x i p e = let o = xs_left i p in d.gone.to_y i o.0 o.1 o.2 e ∙ past_first b x y ys ry.round ry.distinct

    ys_leads : LeadsTo (next c) ys (first_or xs (next b y))
    ys_leads = leads_without b c y x d.gone ys y (first_or xs (next b y)) ys_left to_y (leads_rest (next b) y ys y ry.round)
      where
        to_y : (i : ℕ) → In ys i → next b i ≡ y → next c i ≡ first_or xs (next b y)
        to_y i p e = let o = ys_left i p in d.gone.to_x i o.0 o.1 o.2 e ∙ past_first b y x xs rx.round rx.distinct

    -- just the half-edges of both that are left
    only_left : (i : ℕ) → In (xs ++ ys) i → Used c i × (owner c i ≡ m)
    only_left i p = elim (in_parts xs ys i p) [ inl q ↦ left_x q | inr q ↦ left_y q ]
      where
        left_x : In xs i → Used c i × (owner c i ≡ m)
        left_x q =
            let o = xs_left i q in
            let u = stays b c x y s a d i o.0 o.2 o.1 in
            (u, owner_lx b c x y s a d i u ((in_xs i q).1 ∙ sym on_l) ∙ on_m)

        left_y : In ys i → Used c i × (owner c i ≡ m)
        left_y q =
            let o = ys_left i q in
            let u = stays b c x y s a d i o.0 o.2 o.1 in
            (u, owner_other b c x y s a d i u (λ e. apart (sym on_l ∙ sym e ∙ (in_ys i q).1)) ∙ (in_ys i q).1)

    whole_left : (i : ℕ) → Used c i → owner c i ≡ m → In (xs ++ ys) i
    whole_left i u e = elim (owner_was b c x y s a d i u) [
      | inl o ↦ in_left xs ys i (in_behind x i xs (rx.whole i was (o.0 ∙ on_l)) (not_x b c x y s a d i u))
      | inr o ↦ in_right xs ys i (in_behind y i ys (ry.whole i was (sym o.1 ∙ e)) (not_y b c x y s a d i u))
    ]
      where
        was : Used b i
        was = was_used b c x y s a d i u

    ring_by : GoesRound (next c) (xs ++ ys) → RingOf c m (xs ++ ys)
    ring_by round = record {
      round = round;
      distinct = once_append xs ys rx.distinct.1 ry.distinct.1 (λ i p q. apart (sym (in_xs i p).1 ∙ (in_ys i q).1));
      only = only_left;
      whole = whole_left;
    }

  along : (l m : ℕ) (xs ys : List ℕ) → RingOf b l (x ∷ xs) → RingOf b m (y ∷ ys) → Along c m (xs ++ ys) (start b x)
  along l m [] [] rx ry = ap (lone c) (sym (on_m l m [] [] rx ry)) ∙ d.lone_alone (rx.round, ry.round)
  along l m [] (z ∷ zs) rx ry =
      ring_by l m [] (z ∷ zs) rx ry (subst (LeadsTo (next c) (z ∷ zs)) ry.round.0 (ys_leads l m [] (z ∷ zs) rx ry))
  along l m (w ∷ ws) ys rx ry =
      ring_by l m (w ∷ ws) ys rx ry (leads_append (next c) (w ∷ ws) ys w (subst (λ k. LeadsTo (next c) (w ∷ ws) (first_or ys k)) rx.round.0 (xs_leads l m (w ∷ ws) ys rx ry)) (ys_leads l m (w ∷ ws) ys rx ry))

  -- the other loops
  module _ (m : ℕ) (nx : m ≢ owner b x) (ny : m ≢ owner b y) where
    kept : Kept b c m
    kept = kept_without b c y x m s d.gone ny nx
        (λ i u iy ix e. owner_other b c x y s a d i (stays b c x y s a d i u ix iy) (λ t. nx (sym e ∙ t)) ∙ e)
        (λ i u e. elim (owner_was b c x y s a d i u) [ inl o ↦ absurd (ny (sym e ∙ o.1)) | inr o ↦ sym o.1 ∙ e ])

  others_stay : Else b c (owner b x ∷ owner b y ∷ [])
  others_stay = record {
    rings = λ m hs n. let o = none_of_two (owner b x) (owner b y) m n in ring_kept b c m hs (kept m o.0 o.1);
    lones = λ m n. let o = none_of_two (owner b x) (owner b y) m n in d.lone_other m o.0 o.1;
  }

pub kef_law : (b : Boundary) (h : ℕ) → Sound b → h < 384 → kef_refusal b h ≡ None → KefLaw b h
kef_law b h s lh q =
    let a = asked b h q in
    let d = is_left b h s a in
    record {
      ring = λ l m xs ys rx ry. subst (λ c. Along c m (xs ++ ys) (start b h)) (sym (kef_is b h)) (along b (plain b h (mate h)) h (mate h) s a d l m xs ys rx ry);
      others = subst (λ c. Else b c (owner b h ∷ owner b (mate h) ∷ [])) (sym (kef_is b h)) (others_stay b (plain b h (mate h)) h (mate h) s a d);
    }
