-- An edge erased within a loop leaves the run between h and its mate as the ring of the new loop, and the run from the mate to h as that of the old, or their vertices lone, and the other rings stay.
use Rattle.std.proofs.Common.{◌≡◌, ℕ, ◌<◌, ◌≢◌, List, [], ◌∷◌, ◌++◌, None, sym, ap, ◌∙◌, subst, inl, inr}
use Rattle.std.specs.List.{ContainsAt as In}
use Rattle.boundary.specs.declared.Boundary.{Boundary}
use Rattle.boundary.specs.Tables.{start, next, owner, mate, lone, run}
use Rattle.boundary.specs.Refusals.{kemr_refusal}
use Rattle.rules.specs.Rules.{Used, Sound}
use Rattle.rules.specs.RingLaws.{LeadsTo, GoesRound, RingOf, Along, Else, KemrLaw}
use Rattle.rules.proofs.ErasedEdge.{past_on}
use Rattle.rules.proofs.Kemr.{Asked, asked, Left, was_owner, off_owner, owner_was, was_used, not_x, not_y, x_not_self, y_not_self, plain, kemr_is, is_left, lone_other}
use Rattle.rules.proofs.RingLists.{in_first, in_rest, in_parts, in_behind, in?, none_of_two, first_or, leads_first, leads_rest, Kept, ring_kept, Parts, parts_of}
use Rattle.rules.proofs.RingRuns.{run_list}
use Rattle.rules.proofs.ErasedRings.{leads_without, kept_without}
use Rattle.rules.proofs.RulesAsRings.{owner_not_free}

module _ (b c : Boundary) (x y l : ℕ) (s : Sound b) (a : Asked b x y l) (d : Left b c x y l) where
  -- the ring of x and y, cut just before y
  module _ (m : ℕ) (xs ys : List ℕ) (r : RingOf b m (x ∷ xs ++ y ∷ ys)) where
    in_two : Parts b m x y xs ys
    in_two = parts_of b m x y xs ys r

    after_x : next b x ≡ first_or xs y
    after_x = leads_first (next b) x xs y in_two.front_leads

    after_y : next b y ≡ first_or ys x
    after_y = leads_first (next b) y ys x in_two.back_leads

    xs_left : (i : ℕ) → In xs i → Used b i × (i ≢ x) × (i ≢ y)
    xs_left i p = (
      (in_two.front_in i (in_rest x i xs p)).0,
      λ e. in_two.front_once.0 (subst (In xs) e p),
      λ e. in_two.apart i (in_rest x i xs p) (subst (In (y ∷ ys)) (sym e) (in_first y ys)),
    )

    ys_left : (i : ℕ) → In ys i → Used b i × (i ≢ x) × (i ≢ y)
    ys_left i p = (
      (in_two.back_in i (in_rest y i ys p)).0,
      λ e. in_two.apart i (subst (In (x ∷ xs)) (sym e) (in_first x xs)) (in_rest y i ys p),
      λ e. in_two.back_once.0 (subst (In ys) e p),
    )

    run_xs : run (next b) 384 (next b x) y ≡ xs
    run_xs = run_list b s (next b x) xs y after_x (s.named.next_used x a.x_used) d.gone.y_used (s.loops.stays x a.x_used ∙ a.together) (leads_rest (next b) x xs y in_two.front_leads) (λ p. in_two.apart y (in_rest x y xs p) (in_first y ys))

    owner_xs : (i : ℕ) → In xs i → owner c i ≡ l
    owner_xs i p = let o = xs_left i p in d.on_run i o.0 o.1 o.2 (subst (λ t. In t i) (sym run_xs) p)

    owner_else : (i : ℕ) → Used c i → (In xs i → ⊥) → owner c i ≡ owner b i
    owner_else i u n = d.off_run i (was_used b c x y l s a d i u) (not_x b c x y l s a d i u) (not_y b c x y l s a d i u) (λ p. n (subst (λ t. In t i) run_xs p))

    -- the new ring
    xs_leads : LeadsTo (next c) xs (next b x)
    xs_leads = leads_without b c x y d.gone xs y (next b x) xs_left to_y (leads_rest (next b) x xs y in_two.front_leads)
      where
        to_y : (i : ℕ) → In xs i → next b i ≡ y → next c i ≡ next b x
        to_y i p e = let o = xs_left i p in d.gone.to_y i o.0 o.1 o.2 e ∙ past_on b y x (x_not_self b c x y l s a d)

    new_by : GoesRound (next c) xs → RingOf c l xs
    new_by round = record {
      round = round;
      distinct = in_two.front_once.1;
      only = λ i p. let o = xs_left i p in (d.gone.still_in_use i o.0 o.1 o.2, owner_xs i p);
      whole = λ i u e. elim (in? xs i) [ yes p ↦ p | no n ↦ absurd (owner_not_free b s l a.loop_free i (was_used b c x y l s a d i u) (sym (owner_else i u n) ∙ e)) ];
    }

    -- the old ring
    ys_leads : LeadsTo (next c) ys (next b y)
    ys_leads = leads_without b c x y d.gone ys x (next b y) ys_left to_x (leads_rest (next b) y ys x in_two.back_leads)
      where
        to_x : (i : ℕ) → In ys i → next b i ≡ x → next c i ≡ next b y
        to_x i p e = let o = ys_left i p in d.gone.to_x i o.0 o.1 o.2 e ∙ past_on b x y (y_not_self b c x y l s a d)

    old_only : (i : ℕ) → In ys i → Used c i × (owner c i ≡ m)
    old_only i p =
        let o = ys_left i p in
        let u = d.gone.still_in_use i o.0 o.1 o.2 in
        (u, owner_else i u (λ q. in_two.apart i (in_rest x i xs q) (in_rest y i ys p)) ∙ (in_two.back_in i (in_rest y i ys p)).1)

    old_whole : (i : ℕ) → Used c i → owner c i ≡ m → In ys i
    old_whole i u e = elim (in? xs i) [
      | yes p ↦ absurd (owner_not_free b s l a.loop_free x a.x_used (in_two.on_m ∙ sym e ∙ owner_xs i p))
      | no n ↦ elim (in_parts (x ∷ xs) (y ∷ ys) i (r.whole i (was_used b c x y l s a d i u) (sym (owner_else i u n) ∙ e))) [
        | inl p ↦ absurd (n (in_behind x i xs p (not_x b c x y l s a d i u)))
        | inr p ↦ in_behind y i ys p (not_y b c x y l s a d i u)
      ]
    ]

    old_by : GoesRound (next c) ys → RingOf c m ys
    old_by round = record { round = round; distinct = in_two.back_once.1; only = old_only; whole = old_whole }

  along_new : (m : ℕ) (xs ys : List ℕ) → RingOf b m (x ∷ xs ++ y ∷ ys) → Along c l xs (start b y)
  along_new m [] ys r = d.lone_cut (after_x m [] ys r)
  along_new m (w ∷ ws) ys r = new_by m (w ∷ ws) ys r (subst (LeadsTo (next c) (w ∷ ws)) (after_x m (w ∷ ws) ys r) (xs_leads m (w ∷ ws) ys r))

  along_old : (m : ℕ) (xs ys : List ℕ) → RingOf b m (x ∷ xs ++ y ∷ ys) → Along c m ys (start b x)
  along_old m xs [] r = ap (lone c) (sym (in_two m xs [] r).on_m) ∙ d.lone_emptied (after_y m xs [] r)
  along_old m xs (z ∷ zs) r = old_by m xs (z ∷ zs) r (subst (LeadsTo (next c) (z ∷ zs)) (after_y m xs (z ∷ zs) r) (ys_leads m xs (z ∷ zs) r))

  -- the other loops
  module _ (m : ℕ) (not_own : m ≢ owner b x) (not_l : m ≢ l) where
    kept : Kept b c m
    kept = kept_without b c x y m s d.gone not_own (λ e. not_own (e ∙ sym a.together))
        (λ i u nx ny e. off_owner b c x y l s a d i u nx ny (λ o. not_own (sym e ∙ was_owner b c x y l s a d i o)) ∙ e)
        (λ i u e. elim (owner_was b c x y l s a d i u) [ inl o ↦ absurd (not_l (sym e ∙ o.1)) | inr o ↦ sym o.1 ∙ e ])

  others_stay : Else b c (owner b x ∷ l ∷ [])
  others_stay = record {
    rings = λ m hs n. let o = none_of_two (owner b x) l m n in ring_kept b c m hs (kept m o.0 o.1);
    lones = λ m n. let o = none_of_two (owner b x) l m n in lone_other b c x y l s a d m o.1 o.0;
  }

pub kemr_law : (b : Boundary) (h l : ℕ) → Sound b → h < 384 → l < 96 → kemr_refusal b h l ≡ None → KemrLaw b h l
kemr_law b h l s lh ll q =
    let a = asked b h l q in
    let d = is_left b h l s a ll in
    record {
      new = λ m xs ys r. subst (λ c. Along c l xs (start b (mate h))) (sym (kemr_is b h l)) (along_new b (plain b h (mate h) l) h (mate h) l s a d m xs ys r);
      old = λ m xs ys r. subst (λ c. Along c m ys (start b h)) (sym (kemr_is b h l)) (along_old b (plain b h (mate h) l) h (mate h) l s a d m xs ys r);
      others = subst (λ c. Else b c (owner b h ∷ l ∷ [])) (sym (kemr_is b h l)) (others_stay b (plain b h (mate h) l) h (mate h) l s a d);
    }
