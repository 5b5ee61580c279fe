-- An edge and the vertex at its end leave their ring, or the start of the edge is lone, and the other rings stay.
use Rattle.std.proofs.Common.{◌≡◌, ℕ, ◌<◌, ◌≢◌, List, [], ◌∷◌, None, Option, sym, refl, ap, ◌∙◌, subst, inl, inr}
use Rattle.std.specs.List.{ContainsAt as In}
use Rattle.boundary.specs.declared.Loop.{Loop}
use Rattle.boundary.specs.declared.Boundary.{Boundary}
use Rattle.boundary.specs.Tables.{start, next, owner, mate, lone_of}
use Rattle.boundary.specs.Refusals.{kev_refusal}
use Rattle.rules.specs.Rules.{Used, Sound}
use Rattle.rules.specs.RingLaws.{RingOf, Along, Else, KevLaw}
use Rattle.rules.proofs.KevHalves.{left_in, left_out, left_owner, left_hit, left_miss, same_loop}
use Rattle.rules.proofs.Kev.{shrunk, kev_accepted, lone_here, row_other, shrunk_gone, emptied_loops, kev_is}
use Rattle.rules.proofs.RingLists.{in_first, in_rest, in_cases, in_not_first, leads_led, Kept, ring_kept}
use Rattle.rules.proofs.ErasedRings.{kept_without}

module _ (b : Boundary) (h : ℕ) (s : Sound b) (h_used : Used b h) (to-mate : next b h ≡ mate h) where
  -- what is left of the ring of h, whatever the loops are
  module _ (ls : List (Option Loop)) (l x : ℕ) (xs : List ℕ) (r : RingOf b l (h ∷ mate h ∷ x ∷ xs)) where
    not_h : (j : ℕ) → In (x ∷ xs) j → j ≢ h
    not_h j i e = r.distinct.0 (in_rest (mate h) h (x ∷ xs) (subst (In (x ∷ xs)) e i))

    not_mate : (j : ℕ) → In (x ∷ xs) j → j ≢ mate h
    not_mate j i e = r.distinct.1.0 (subst (In (x ∷ xs)) e i)

    was : (j : ℕ) → In (x ∷ xs) j → Used b j × (owner b j ≡ l)
    was j i = r.only j (in_rest h j (mate h ∷ x ∷ xs) (in_rest (mate h) j (x ∷ xs) i))

    left_whole : (j : ℕ) → Used (shrunk b ls h) j → owner (shrunk b ls h) j ≡ l → In (x ∷ xs) j
    left_whole j u e =
        let o = left_out b h s h_used to-mate j u in
        let i = r.whole j o.0 (sym (left_owner b h s h_used to-mate j o.1 o.2) ∙ e) in
        elim (in_cases h j (mate h ∷ x ∷ xs) i) [
          | inl d ↦ absurd (o.1 d)
          | inr more ↦ elim (in_cases (mate h) j (x ∷ xs) more) [ inl d ↦ absurd (o.2 d) | inr k ↦ k ]
        ]

    left_ring : RingOf (shrunk b ls h) l (x ∷ xs)
    left_ring = record {
      round = leads_led (next b) (next (shrunk b ls h)) x xs h x (λ i. not_h h (in_rest x h xs i) refl) (λ j i ne. left_miss b h s h_used to-mate j (was j i).0 (not_h j i) (not_mate j i) ne) (λ j i e. left_hit b h s h_used to-mate j (was j i).0 (not_h j i) (not_mate j i) e ∙ r.round.1.0) r.round.1.1;
      distinct = r.distinct.1.1;
      only = λ j i. (left_in b h s h_used to-mate j (was j i).0 (not_h j i) (not_mate j i), left_owner b h s h_used to-mate j (not_h j i) (not_mate j i) ∙ (was j i).1);
      whole = left_whole;
    }

  -- the rings of the other loops
  module _ (ls : List (Option Loop)) (m : ℕ) (ne : m ≢ owner b h) where
    left_kept : Kept b (shrunk b ls h) m
    left_kept = kept_without b (shrunk b ls h) h (mate h) m s (shrunk_gone b ls h s h_used to-mate) ne (λ e. ne (e ∙ same_loop b h s h_used to-mate))
        (λ j u n k e. left_owner b h s h_used to-mate j n k ∙ e)
        (λ j u e. let o = left_out b h s h_used to-mate j u in sym (left_owner b h s h_used to-mate j o.1 o.2) ∙ e)

  abbrev now : Boundary
  now = shrunk b (emptied_loops b h) h

  ring_left : (l : ℕ) (hs : List ℕ) → RingOf b l (h ∷ mate h ∷ hs) → Along now l hs (start b h)
  ring_left l [] r = lone_here b h s h_used r.round.1 l (sym (r.only h (in_first h (mate h ∷ []))).1)
  ring_left l (x ∷ xs) r = left_ring (emptied_loops b h) l x xs r

  others_stay : Else b now (owner b h ∷ [])
  others_stay = record {
    rings = λ m hs n. ring_kept b now m hs (left_kept (emptied_loops b h) m (in_not_first (owner b h) m [] n));
    lones = λ m n. ap lone_of (row_other b h s h_used m (in_not_first (owner b h) m [] n));
  }

pub kev_law : (b : Boundary) (h : ℕ) → Sound b → h < 384 → kev_refusal b h ≡ None → KevLaw b h
kev_law b h s small q =
    let a = kev_accepted b h q in
    record {
      ring = λ l hs r. subst (λ c. Along c l hs (start b h)) (sym (kev_is b h)) (ring_left b h s a.0 a.1 l hs r);
      others = subst (λ c. Else b c (owner b h ∷ [])) (sym (kev_is b h)) (others_stay b h s a.0 a.1);
    }
