-- A new edge and a new vertex come into a ring just before their place, or are the whole ring at a lone vertex, and the other rings stay.
use Rattle.std.proofs.Common.{◌≡◌, ℕ, ◌+◌, ◌-◌, ◌*◌, ◌<◌, cond, ◌≢◌, List, [], ◌∷◌, Some, None, Option, unwrap_or, sym, refl, ap, ◌∙◌, subst, inl, inr, arith}
use Rattle.std.specs.List.{ContainsAt as In}
use Rattle.boundary.specs.declared.Point.{Point}
use Rattle.boundary.specs.declared.Boundary.{Boundary}
use Rattle.boundary.specs.Tables.{start, next, owner, lone, lone_of}
use Rattle.boundary.specs.Operators.{mev, mev_before, mev_lone}
use Rattle.boundary.specs.Refusals.{mev_refusal}
use Rattle.rules.specs.Rules.{Has, Used, Sound}
use Rattle.rules.specs.RingLaws.{LeadsTo, once, RingOf, At, at_half_edge, at_lone, Else, MevLaw}
use Rattle.rules.proofs.Halves.{new_even, new_odd}
use Rattle.rules.proofs.OneEdgeMore.{NewEdge, next_even, next_odd, next_hit, next_miss, new_edge_is}
use Rattle.rules.proofs.Mev.{mev_free}
use Rattle.rules.proofs.RingLists.{in_none, in_first, in_rest, in_cases, in_not_first, leads_led, Kept, ring_kept}
use Rattle.rules.proofs.Fields.{lone_other_row}
use Rattle.rules.proofs.Rows.{none_not_some, some_same}
use Rattle.rules.proofs.Places.{half_place, lone_place, lone_loop}

-- the half-edges of c are those of b and the two of the edge k, on the loop l
module _ (b c : Boundary) (k w v l : ℕ) (new : NewEdge b c.edges k w v l) where
  abbrev X : ℕ
  X = 2 * k

  abbrev Y : ℕ
  Y = 2 * k + 1

  -- a half-edge of another loop was there
  was_there : (m : ℕ) → m ≢ l → (j : ℕ) → Used c j → owner c j ≡ m → Used b j
  was_there m ne j u e = elim (new.used_cases j u) [
    | inl d ↦ absurd (ne (sym e ∙ ap (owner c) d ∙ new.owner_even))
    | inr more ↦ elim more [ inl d ↦ absurd (ne (sym e ∙ ap (owner c) d ∙ new.owner_odd)) | inr old ↦ old ]
  ]

  others_kept : (m : ℕ) → m ≢ l → ((j : ℕ) → Used b j → owner b j ≡ m → next c j ≡ next b j) → Kept b c m
  others_kept m ne same = record {
    used_in = λ j u e. new.used_in j u;
    owner_in = λ j u e. new.owner_old j u ∙ e;
    next_in = same;
    used_out = was_there m ne;
    owner_out = λ j u e. sym (new.owner_old j (was_there m ne j u e)) ∙ e;
  }

  -- the two in front of the half-edges of l
  grown_ring : (hs : List ℕ) → (Has b.edges k → ⊥) → once hs → ((j : ℕ) → In hs j → Used b j × (owner b j ≡ l)) → ((j : ℕ) → Used b j → owner b j ≡ l → In hs j) → LeadsTo (next c) (X ∷ Y ∷ hs) X → RingOf c l (X ∷ Y ∷ hs)
  grown_ring hs free o only whole leads = record { round = leads; distinct = (x_once, (y_once, o)); only = only_now; whole = whole_now }
    where
      y_once : In hs Y → ⊥
      y_once i = new_odd b.edges k Y free (only Y i).0 refl

      x_once : In (Y ∷ hs) X → ⊥
      x_once i = elim (in_cases Y X hs i) [ inl e ↦ omega arith | inr more ↦ new_even b.edges k X free (only X more).0 refl ]

      only_now : (j : ℕ) → In (X ∷ Y ∷ hs) j → Used c j × (owner c j ≡ l)
      only_now j i = elim (in_cases X j (Y ∷ hs) i) [
        | inl e ↦ (subst (Used c) (sym e) new.used_even, ap (owner c) e ∙ new.owner_even)
        | inr more ↦ elim (in_cases Y j hs more) [
          | inl e ↦ (subst (Used c) (sym e) new.used_odd, ap (owner c) e ∙ new.owner_odd)
          | inr old ↦ (new.used_in j (only j old).0, new.owner_old j (only j old).0 ∙ (only j old).1)
        ]
      ]

      whole_now : (j : ℕ) → Used c j → owner c j ≡ l → In (X ∷ Y ∷ hs) j
      whole_now j u e = elim (new.used_cases j u) [
        | inl d ↦ subst (In (X ∷ Y ∷ hs)) (sym d) (in_first X (Y ∷ hs))
        | inr more ↦ elim more [
          | inl d ↦ in_rest X j (Y ∷ hs) (subst (In (Y ∷ hs)) (sym d) (in_first Y hs))
          | inr old ↦ in_rest X j (Y ∷ hs) (in_rest Y j hs (whole j old (sym (new.owner_old j old) ∙ e)))
        ]
      ]

-- at a half-edge
module _ (b : Boundary) (h k v : ℕ) (p : Point) (s : Sound b) (k-small : k < 192) (k-free : Has b.edges k → ⊥) (l : ℕ) (hs : List ℕ) (r : RingOf b l (h ∷ hs)) where
  on_l : owner b h ≡ l
  on_l = (r.only h (in_first h hs)).1

  new_here : NewEdge b (mev_before b h k v p).edges k (start b h) v l
  new_here = subst (NewEdge b (mev_before b h k v p).edges k (start b h) v) on_l (new_edge_is b k (start b h) v (owner b h) (Some h) s k-small k-free)

  before_ring : RingOf (mev_before b h k v p) l (2 * k ∷ (2 * k + 1) ∷ h ∷ hs)
  before_ring = grown_ring b (mev_before b h k v p) k (start b h) v l new_here (h ∷ hs) k-free r.distinct r.only r.whole (next_even b k (start b h) v (owner b h) (Some h) s k-small k-free, (next_odd b k (start b h) v (owner b h) (Some h) s k-small k-free, round_on))
    where
      round_on : LeadsTo (next (mev_before b h k v p)) (h ∷ hs) (2 * k)
      round_on = leads_led (next b) (next (mev_before b h k v p)) h hs h (2 * k) r.distinct.0 (λ j i ne. next_miss b k (start b h) v (owner b h) (Some h) s k-small k-free j (r.only j i).0 (λ d. ne (sym (some_same refl d)))) (λ j i e. next_hit b k (start b h) v (owner b h) (Some h) s k-small k-free j (r.only j i).0 (ap Some (sym e))) r.round

  before_else : Else b (mev_before b h k v p) (l ∷ [])
  before_else = record {
    rings = λ m js n. ring_kept b (mev_before b h k v p) m js (others_kept b (mev_before b h k v p) k (start b h) v l new_here m (in_not_first l m [] n) (stays m (in_not_first l m [] n)));
    lones = λ m n. refl;
  }
    where
      stays : (m : ℕ) → m ≢ l → (j : ℕ) → Used b j → owner b j ≡ m → next (mev_before b h k v p) j ≡ next b j
      stays m ne j u e = next_miss b k (start b h) v (owner b h) (Some h) s k-small k-free j u (λ d. ne (sym e ∙ sym (s.loops.stays j u) ∙ ap (owner b) (sym (some_same refl d)) ∙ on_l))

-- at a lone vertex
module _ (b : Boundary) (l k v : ℕ) (p : Point) (s : Sound b) (k-small : k < 192) (k-free : Has b.edges k → ⊥) (is-lone : lone b l ≡ Some (unwrap_or (lone b l) 0)) where
  new_alone : NewEdge b (mev_lone b l k v p).edges k (unwrap_or (lone b l) 0) v l
  new_alone = new_edge_is b k (unwrap_or (lone b l) 0) v l None s k-small k-free

  lone_ring : RingOf (mev_lone b l k v p) l (2 * k ∷ (2 * k + 1) ∷ [])
  lone_ring = grown_ring b (mev_lone b l k v p) k (unwrap_or (lone b l) 0) v l new_alone [] k-free tt (λ j i. absurd (in_none j i)) (λ j u e. absurd (s.lone.lone_alone l (unwrap_or (lone b l) 0) j is-lone u e)) (next_even b k (unwrap_or (lone b l) 0) v l None s k-small k-free, next_odd b k (unwrap_or (lone b l) 0) v l None s k-small k-free)

  lone_else : Else b (mev_lone b l k v p) (l ∷ [])
  lone_else = record {
    rings = λ m js n. ring_kept b (mev_lone b l k v p) m js (others_kept b (mev_lone b l k v p) k (unwrap_or (lone b l) 0) v l new_alone m (in_not_first l m [] n) (λ j u e. next_miss b k (unwrap_or (lone b l) 0) v l None s k-small k-free j u (none_not_some refl)));
    lones = λ m n. ap lone_of (lone_other_row b.loops l None m (in_not_first l m [] n));
  }

-- which of the two the operator is
lone_valued : (o : Option ℕ) (v : ℕ) → o ≡ Some v → o ≡ Some (unwrap_or o 0)
lone_valued o v e = e ∙ ap (λ r. Some (unwrap_or r 0)) (sym e)

mev_half : (b : Boundary) (a k v : ℕ) (p : Point) → a < 384 → mev b a k v p ≡ mev_before b a k v p
mev_half b a k v p lt = ap (λ t. cond t (mev_before b a k v p) (mev_lone b (a - 512) k v p)) (half_place a lt)

mev_alone : (b : Boundary) (a k v l : ℕ) (p : Point) → a ≡ 512 + l → mev b a k v p ≡ mev_lone b l k v p
mev_alone b a k v l p e = ap (λ t. cond t (mev_before b a k v p) (mev_lone b (a - 512) k v p)) (lone_place a l e) ∙ ap (λ i. mev_lone b i k v p) (lone_loop a l e)

module _ (b : Boundary) (k v : ℕ) (p : Point) (s : Sound b) (k-small : k < 192) (k-free : Has b.edges k → ⊥) where
  ring_at : (a l w : ℕ) (hs : List ℕ) → At b a l hs w → RingOf (mev b a k v p) l (2 * k ∷ (2 * k + 1) ∷ hs)
  ring_at a l _ _ (at_half_edge hs lt r) = subst (λ c. RingOf c l (2 * k ∷ (2 * k + 1) ∷ a ∷ hs)) (sym (mev_half b a k v p lt)) (before_ring b a k v p s k-small k-free l hs r)
  ring_at a l _ _ (at_lone w e q) = subst (λ c. RingOf c l (2 * k ∷ (2 * k + 1) ∷ [])) (sym (mev_alone b a k v l p e)) (lone_ring b l k v p s k-small k-free (lone_valued (lone b l) w q))

  else_at : (a l w : ℕ) (hs : List ℕ) → At b a l hs w → Else b (mev b a k v p) (l ∷ [])
  else_at a l _ _ (at_half_edge hs lt r) = subst (λ c. Else b c (l ∷ [])) (sym (mev_half b a k v p lt)) (before_else b a k v p s k-small k-free l hs r)
  else_at a l _ _ (at_lone w e q) = subst (λ c. Else b c (l ∷ [])) (sym (mev_alone b a k v l p e)) (lone_else b l k v p s k-small k-free (lone_valued (lone b l) w q))

pub mev_law : (b : Boundary) (a k v : ℕ) (p : Point) → Sound b → k < 192 → v < 128 → mev_refusal b a k v ≡ None → MevLaw b a k v p
mev_law b a k v p s k-small v-small q = record {
  ring = ring_at b k v p s k-small (mev_free b a k v q).edge a;
  others = else_at b k v p s k-small (mev_free b a k v q).edge a;
}
