-- An edge drawn across a loop closes the run from h to just before j to the ring of the new loop, and the rest to that of the old, and the other rings stay.
use Rattle.std.proofs.Common.{◌≡◌, ℕ, ◌+◌, ◌*◌, ◌<◌, ◌≢◌, List, [], ◌∷◌, ◌++◌, None, sym, refl, ap, ◌∙◌, subst, inl, inr}
use Rattle.std.specs.List.{ContainsAt as In}
use Rattle.boundary.specs.declared.Boundary.{Boundary}
use Rattle.boundary.specs.Tables.{next, owner, run}
use Rattle.boundary.specs.Operators.{mef}
use Rattle.boundary.specs.Refusals.{mef_refusal}
use Rattle.rules.specs.Rules.{Used, Sound}
use Rattle.rules.specs.RingLaws.{LeadsTo, RingOf, Else, MefLaw}
use Rattle.rules.proofs.Halves.{used_mate}
use Rattle.rules.proofs.Mef.{Asked, asked, Made, has_made, on?, on_owner, off_owner, was_owner, lone_same}
use Rattle.rules.proofs.RingLists.{in_none, in_first, in_rest, in_one, in_left, in_right, in_parts, in?, none_of_two, once_append, leads_append, leads_carried, Kept, ring_kept, Parts, parts_of}
use Rattle.rules.proofs.RingRuns.{run_list}
use Rattle.rules.proofs.RulesAsRings.{owner_not_free}

module _ (b c : Boundary) (h j k x y f l : ℕ) (s : Sound b) (a : Asked b h j k f l) (d : Made b c h j x y f l) where
  y_new : Used b y → ⊥
  y_new u = d.x_new (subst (Used b) d.mate_y (used_mate b y u))

  next_x : next c x ≡ j
  next_x = ap (λ e. e.next) d.x_half

  next_y : next c y ≡ h
  next_y = ap (λ e. e.next) d.y_half

  owner_x : owner c x ≡ owner b h
  owner_x = ap (λ e. e.owner) d.x_half

  owner_y : owner c y ≡ l
  owner_y = ap (λ e. e.owner) d.y_half

  not_new : (i : ℕ) → Used b i → owner b i ≢ l
  not_new = owner_not_free b s l a.loop_free

  -- the ring of h and j, cut just before j
  module _ (m : ℕ) (xs ys : List ℕ) (r : RingOf b m (h ∷ xs ++ j ∷ ys)) where
    in_two : Parts b m h j xs ys
    in_two = parts_of b m h j xs ys r

    j_behind : In (h ∷ xs) j → ⊥
    j_behind i = in_two.apart j i (in_first j ys)

    h_before : In (j ∷ ys) h → ⊥
    h_before i = in_two.apart h (in_first h xs) i

    run_front : run (next b) 384 h j ≡ h ∷ xs
    run_front = run_list b s h (h ∷ xs) j refl a.h_used a.j_used a.together in_two.front_leads j_behind

    owner_front : (i : ℕ) → In (h ∷ xs) i → owner c i ≡ l
    owner_front i p = d.on_run i (in_two.front_in i p).0 (subst (λ t. In t i) (sym run_front) p)

    owner_else : (i : ℕ) → Used b i → (In (h ∷ xs) i → ⊥) → owner c i ≡ owner b i
    owner_else i u n = d.off_run i u (λ p. n (subst (λ t. In t i) run_front p))

    -- the new ring
    new_leads : LeadsTo (next c) (h ∷ xs) y
    new_leads = leads_carried (next b) (next c) h xs j y (λ i p q. d.elsewhere i (in_two.front_in i p).0 (λ e. in_two.front_once.0 (subst (In xs) e q)) (λ e. j_behind (in_rest h j xs (subst (In xs) e q)))) (λ i p e. d.to_j i (in_two.front_in i p).0 e) in_two.front_leads

    new_only : (i : ℕ) → In (h ∷ xs ++ y ∷ []) i → Used c i × (owner c i ≡ l)
    new_only i p = elim (in_parts (h ∷ xs) (y ∷ []) i p) [
      | inl q ↦ (d.still_in_use i (in_two.front_in i q).0, owner_front i q)
      | inr q ↦ (subst (Used c) (sym (in_one y i q)) d.y_in_use, ap (owner c) (in_one y i q) ∙ owner_y)
    ]

    new_whole : (i : ℕ) → Used c i → owner c i ≡ l → In (h ∷ xs ++ y ∷ []) i
    new_whole i u e = elim (d.in_use i u) [
      | inl t ↦ absurd (not_new h a.h_used (sym owner_x ∙ ap (owner c) (sym t) ∙ e))
      | inr more ↦ elim more [
        | inl t ↦ subst (In (h ∷ xs ++ y ∷ [])) (sym t) (in_right (h ∷ xs) (y ∷ []) y (in_first y []))
        | inr v ↦ elim (in? (h ∷ xs) i) [
          | yes p ↦ in_left (h ∷ xs) (y ∷ []) i p
          | no n ↦ absurd (not_new i v (sym (owner_else i v n) ∙ e))
        ]
      ]
    ]

    new_ring : RingOf c l (h ∷ xs ++ y ∷ [])
    new_ring = record {
      round = leads_append (next c) (h ∷ xs) (y ∷ []) h new_leads next_y;
      distinct = once_append (h ∷ xs) (y ∷ []) in_two.front_once (in_none y, tt) (λ i p q. y_new (subst (Used b) (in_one y i q) (in_two.front_in i p).0));
      only = new_only;
      whole = new_whole;
    }

    -- the old ring
    old_leads : LeadsTo (next c) (j ∷ ys) x
    old_leads = leads_carried (next b) (next c) j ys h x (λ i p q. d.elsewhere i (in_two.back_in i p).0 (λ e. h_before (in_rest j h ys (subst (In ys) e q))) (λ e. in_two.back_once.0 (subst (In ys) e q))) (λ i p e. d.to_h i (in_two.back_in i p).0 e) in_two.back_leads

    old_only : (i : ℕ) → In (j ∷ ys ++ x ∷ []) i → Used c i × (owner c i ≡ m)
    old_only i p = elim (in_parts (j ∷ ys) (x ∷ []) i p) [
      | inl q ↦ (d.still_in_use i (in_two.back_in i q).0, owner_else i (in_two.back_in i q).0 (λ t. in_two.apart i t q) ∙ (in_two.back_in i q).1)
      | inr q ↦ (subst (Used c) (sym (in_one x i q)) d.x_in_use, ap (owner c) (in_one x i q) ∙ owner_x ∙ in_two.on_m)
    ]

    old_whole : (i : ℕ) → Used c i → owner c i ≡ m → In (j ∷ ys ++ x ∷ []) i
    old_whole i u e = elim (d.in_use i u) [
      | inl t ↦ subst (In (j ∷ ys ++ x ∷ [])) (sym t) (in_right (j ∷ ys) (x ∷ []) x (in_first x []))
      | inr more ↦ elim more [
        | inl t ↦ absurd (not_l (sym owner_y ∙ ap (owner c) (sym t) ∙ e))
        | inr v ↦ elim (in? (h ∷ xs) i) [
          | yes p ↦ absurd (not_l (sym (owner_front i p) ∙ e))
          | no n ↦ elim (in_parts (h ∷ xs) (j ∷ ys) i (r.whole i v (sym (owner_else i v n) ∙ e))) [
            | inl p ↦ absurd (n p)
            | inr p ↦ in_left (j ∷ ys) (x ∷ []) i p
          ]
        ]
      ]
    ]
      where
        not_l : l ≢ m
        not_l t = not_new h a.h_used (in_two.on_m ∙ sym t)

    old_ring : RingOf c m (j ∷ ys ++ x ∷ [])
    old_ring = record {
      round = leads_append (next c) (j ∷ ys) (x ∷ []) j old_leads next_x;
      distinct = once_append (j ∷ ys) (x ∷ []) in_two.back_once (in_none x, tt) (λ i p q. d.x_new (subst (Used b) (in_one x i q) (in_two.back_in i p).0));
      only = old_only;
      whole = old_whole;
    }

  -- the other loops
  module _ (m : ℕ) (not_own : m ≢ owner b h) (not_l : m ≢ l) where
    owner_same : (i : ℕ) → Used b i → owner b i ≡ m → owner c i ≡ m
    owner_same i u e = off_owner b c h j k x y f l s a d i u (λ o. not_own (sym e ∙ was_owner b c h j k x y f l s a d i o)) ∙ e

    leads_elsewhere : (i z : ℕ) → Used b i → owner b i ≡ m → owner b z ≡ owner b h → next b i ≢ z
    leads_elsewhere i z u e o t = not_own (sym e ∙ sym (s.loops.stays i u) ∙ ap (owner b) t ∙ o)

    was_used : (i : ℕ) → Used c i → owner c i ≡ m → Used b i
    was_used i u e = elim (d.in_use i u) [
      | inl t ↦ absurd (not_own (sym e ∙ ap (owner c) t ∙ owner_x))
      | inr more ↦ elim more [ inl t ↦ absurd (not_l (sym e ∙ ap (owner c) t ∙ owner_y)) | inr v ↦ v ]
    ]

    owner_was : (i : ℕ) → Used b i → owner c i ≡ m → owner b i ≡ m
    owner_was i v e = elim (on? b c h j k x y f l s a d i) [
      | yes o ↦ absurd (not_l (sym e ∙ on_owner b c h j k x y f l s a d i v o))
      | no n ↦ sym (off_owner b c h j k x y f l s a d i v n) ∙ e
    ]

    kept : Kept b c m
    kept = record {
      used_in = λ i u e. d.still_in_use i u;
      owner_in = owner_same;
      next_in = λ i u e. d.elsewhere i u (leads_elsewhere i h u e refl) (leads_elsewhere i j u e (sym a.together));
      used_out = was_used;
      owner_out = λ i u e. owner_was i (was_used i u e) e;
    }

  others_stay : Else b c (owner b h ∷ l ∷ [])
  others_stay = record {
    rings = λ m hs n. let o = none_of_two (owner b h) l m n in ring_kept b c m hs (kept m o.0 o.1);
    lones = λ m n. lone_same b c h j k x y f l s a d m (none_of_two (owner b h) l m n).1;
  }

pub mef_law : (b : Boundary) (h j k f l : ℕ) → Sound b → h < 384 → j < 384 → k < 192 → f < 96 → l < 96 → mef_refusal b h j k f l ≡ None → MefLaw b h j k f l
mef_law b h j k f l s lh lj lk lf ll q =
    let a = asked b h j k f l q in
    let d = has_made b h j k f l s.sizes a lk lf ll in
    record {
      new = new_ring b (mef b h j k f l) h j k (2 * k) (2 * k + 1) f l s a d;
      old = old_ring b (mef b h j k f l) h j k (2 * k) (2 * k + 1) f l s a d;
      others = others_stay b (mef b h j k f l) h j k (2 * k) (2 * k + 1) f l s a d;
    }
