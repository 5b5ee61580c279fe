-- The half-edges of a table of edges after each change, one by one. A half-edge h is used where its edge h / 2 is.
use Rattle.std.proofs.Common.{◌≡◌, ℕ, zero, suc, ◌+◌, ◌-◌, ◌*◌, ◌/◌, ◌%◌, ◌<◌, Bool, true, false, cond, T, eqb, ◌≢◌, ◌⊎◌, List, [], ◌∷◌, length, set, is_some, Some, None, Option, sym, refl, ap, ◌∙◌, subst, inl, inr, arith}
use native.Mathlib.Decide.{ℕ_discrete}
use Rattle.std.specs.Option.{option_map}
use Rattle.std.specs.List.{ContainsAt as In}
use Rattle.std.proofs.lemmas.Bool.{eq-eqb, ne_eqb, cond-true, cond-false}
use Rattle.boundary.specs.declared.Edge.{Edge}
use Rattle.boundary.specs.declared.Boundary.{Boundary}
use Rattle.boundary.specs.Tables.{row, used, side, even, half_in, mate}
use Rattle.boundary.specs.Changes.{led_half, led_edge, led_in, owned_side, owned_one, owned_in, joined_half, joined_edge, joined_in}
use Rattle.boundary.proofs.Rows.{row_set, next_owned}
use Rattle.rules.specs.Rules.{Has, Used}
use Rattle.rules.proofs.Rows.{has_below, row_put_same, row_put_other, length_put, has_put_same, has_put_other_in, has_put_cases, has_clear_in, has_clear_out, row_map}

-- the two halves of an edge, by number
pub half_of_even : (k : ℕ) → 2 * k / 2 ≡ k
half_of_even k = omega arith

pub half_of_odd : (k : ℕ) → (2 * k + 1) / 2 ≡ k
half_of_odd k = omega arith

pub even_even : (k : ℕ) → even (2 * k) ≡ true
even_even k = eq-eqb (2 * k % 2) 0 (omega arith)

pub even_odd : (k : ℕ) → even (2 * k + 1) ≡ false
even_odd k = ne_eqb ((2 * k + 1) % 2) 0 (λ e. omega arith)

pub half_is : (h k : ℕ) → h / 2 ≡ k → (h ≡ 2 * k) ⊎ (h ≡ 2 * k + 1)
half_is h k e = elim (ℕ_discrete (h % 2) 0) [ yes z ↦ inl (omega arith) | no nz ↦ inr (omega arith) ]

-- the mate
pub mate_of_even : (k : ℕ) → mate (2 * k) ≡ 2 * k + 1
mate_of_even k = cond-true (even (2 * k)) (2 * k + 1) (2 * k - 1) (even_even k)

pub mate_of_odd : (k : ℕ) → mate (2 * k + 1) ≡ 2 * k
mate_of_odd k = cond-false (even (2 * k + 1)) (2 * k + 1 + 1) (2 * k + 1 - 1) (even_odd k) ∙ omega arith

pub mate_mate : (h : ℕ) → mate (mate h) ≡ h
mate_mate h = elim (half_is h (h / 2) refl) [
  | inl e ↦ subst (λ i. mate (mate i) ≡ i) (sym e) (ap mate (mate_of_even (h / 2)) ∙ mate_of_odd (h / 2))
  | inr e ↦ subst (λ i. mate (mate i) ≡ i) (sym e) (ap mate (mate_of_odd (h / 2)) ∙ mate_of_even (h / 2))
]

pub mate_apart : (h : ℕ) → mate h ≢ h
mate_apart h = elim (half_is h (h / 2) refl) [
  | inl e ↦ λ q. omega (arith, ap mate e, mate_of_even (h / 2))
  | inr e ↦ λ q. omega (arith, ap mate e, mate_of_odd (h / 2))
]

pub mate_half : (h : ℕ) → mate h / 2 ≡ h / 2
mate_half h = elim (half_is h (h / 2) refl) [
  | inl e ↦ omega (arith, ap mate e, mate_of_even (h / 2))
  | inr e ↦ omega (arith, ap mate e, mate_of_odd (h / 2))
]

-- two half-edges of one edge are the same, or mates
pub same_edge : (h x : ℕ) → h / 2 ≡ x / 2 → (h ≡ x) ⊎ (h ≡ mate x)
same_edge h x e = elim (half_is h (x / 2) e) [
  | inl p ↦ elim (half_is x (x / 2) refl) [ inl q ↦ inl (omega arith) | inr q ↦ inr (omega (arith, ap mate q, mate_of_odd (x / 2))) ]
  | inr p ↦ elim (half_is x (x / 2) refl) [ inl q ↦ inr (omega (arith, ap mate q, mate_of_even (x / 2))) | inr q ↦ inl (omega arith) ]
]

pub other_edge : (h x : ℕ) → h ≢ x → h ≢ mate x → h / 2 ≢ x / 2
other_edge h x n m e = elim (same_edge h x e) [ inl p ↦ n p | inr q ↦ m q ]

pub other_halves : (h x : ℕ) → h / 2 ≢ x / 2 → (h ≢ x) × (h ≢ mate x)
other_halves h x ne = (λ e. ne (ap (λ i. i / 2) e), λ e. ne (ap (λ i. i / 2) e ∙ mate_half x))

pub used_mate : (b : Boundary) (h : ℕ) → Used b h → Used b (mate h)
used_mate b h u = subst (Has b.edges) (sym (mate_half h)) u

pub used_below : (es : List (Option Edge)) (h : ℕ) → Has es (h / 2) → h < 2 * length es
used_below es h u = let lt : h / 2 < length es = has_below es (h / 2) u in omega arith

pub used_small : (b : Boundary) → length b.edges ≡ 192 → (h : ℕ) → Used b h → h < 384
used_small b e h u = let lt : h < 2 * length b.edges = used_below b.edges h u in omega arith

-- the halves of an edge that is not used are none of those that are
pub new_edge : (es : List (Option Edge)) (k h : ℕ) → (Has es k → ⊥) → Has es (h / 2) → h / 2 ≢ k
new_edge es k h n u e = n (subst (Has es) e u)

pub new_even : (es : List (Option Edge)) (k h : ℕ) → (Has es k → ⊥) → Has es (h / 2) → h ≢ 2 * k
new_even es k h n u e = new_edge es k h n u (ap (λ i. i / 2) e ∙ half_of_even k)

pub new_odd : (es : List (Option Edge)) (k h : ℕ) → (Has es k → ⊥) → Has es (h / 2) → h ≢ 2 * k + 1
new_odd es k h n u e = new_edge es k h n u (ap (λ i. i / 2) e ∙ half_of_odd k)

-- an edge is put at k
half_at : (es : List (Option Edge)) (h k : ℕ) (c : Bool) → h / 2 ≡ k → even h ≡ c → half_in es h ≡ side (row es k) c
half_at es h k c e q = ap (λ i. side (row es i) (even h)) e ∙ ap (side (row es k)) q

pub half_even : (es : List (Option Edge)) (k : ℕ) → half_in es (2 * k) ≡ side (row es k) true
half_even es k = half_at es (2 * k) k true (half_of_even k) (even_even k)

pub half_odd : (es : List (Option Edge)) (k : ℕ) → half_in es (2 * k + 1) ≡ side (row es k) false
half_odd es k = half_at es (2 * k + 1) k false (half_of_odd k) (even_odd k)

pub put_even : (es : List (Option Edge)) (k : ℕ) (e : Edge) → k < length es → half_in (set es k (Some e)) (2 * k) ≡ e.even
put_even es k e lt = half_even (set es k (Some e)) k ∙ ap (λ r. side r true) (row_put_same es k (Some e) lt)

pub put_odd : (es : List (Option Edge)) (k : ℕ) (e : Edge) → k < length es → half_in (set es k (Some e)) (2 * k + 1) ≡ e.odd
put_odd es k e lt = half_odd (set es k (Some e)) k ∙ ap (λ r. side r false) (row_put_same es k (Some e) lt)

-- an edge put or cleared leaves the other half-edges
pub half_put_other : (es : List (Option Edge)) (k h : ℕ) (r : Option Edge) → h / 2 ≢ k → half_in (set es k r) h ≡ half_in es h
half_put_other es k h r ne = ap (λ q. side q (even h)) (row_put_other es k (h / 2) r ne)

pub put_used_even : (es : List (Option Edge)) (k : ℕ) (e : Edge) → k < length es → Has (set es k (Some e)) (2 * k / 2)
put_used_even es k e lt = subst (Has (set es k (Some e))) (sym (half_of_even k)) (has_put_same es k e lt)

pub put_used_odd : (es : List (Option Edge)) (k : ℕ) (e : Edge) → k < length es → Has (set es k (Some e)) ((2 * k + 1) / 2)
put_used_odd es k e lt = subst (Has (set es k (Some e))) (sym (half_of_odd k)) (has_put_same es k e lt)

pub put_used_in : (es : List (Option Edge)) (k h : ℕ) (e : Edge) → Has es (h / 2) → Has (set es k (Some e)) (h / 2)
put_used_in es k h e u = has_put_other_in es k (h / 2) e u

pub put_used_cases : (es : List (Option Edge)) (k h : ℕ) (e : Edge) → Has (set es k (Some e)) (h / 2) → (h ≡ 2 * k) ⊎ ((h ≡ 2 * k + 1) ⊎ Has es (h / 2))
put_used_cases es k h e u = elim (has_put_cases es k (h / 2) e u) [
  | inl q ↦ elim (half_is h k q) [ inl a ↦ inl a | inr a ↦ inr (inl a) ]
  | inr v ↦ inr (inr v)
]

-- the edge of x is cleared, in terms of x and its mate
pub clear_mates_in : (es : List (Option Edge)) (x h : ℕ) → h ≢ x → h ≢ mate x → Has es (h / 2) → Has (set es (x / 2) None) (h / 2)
clear_mates_in es x h n m u = has_clear_in es (x / 2) (h / 2) (other_edge h x n m) u

pub clear_mates_out : (es : List (Option Edge)) (x h : ℕ) → Has (set es (x / 2) None) (h / 2) → Has es (h / 2) × (h ≢ x) × (h ≢ mate x)
clear_mates_out es x h u =
    let o = has_clear_out es (x / 2) (h / 2) u in
    (o.0, (other_halves h x o.1).0, (other_halves h x o.1).1)

-- what led to a leads to x
led_side : (a x : ℕ) (r : Option Edge) (c : Bool) → T (is_some r) → side (option_map (led_edge a x) r) c ≡ led_half a x (side r c)
led_side a x None c u = absurd u
led_side a x (Some e) true u = refl
led_side a x (Some e) false u = refl

pub led_is : (es : List (Option Edge)) (a x h : ℕ) → Has es (h / 2) → half_in (led_in es a x) h ≡ led_half a x (half_in es h)
led_is es a x h u = ap (λ r. side r (even h)) (row_map (led_edge a x) es (h / 2)) ∙ led_side a x (row es (h / 2)) (even h) u

led_side_start : (a x : ℕ) (r : Option Edge) (c : Bool) → (side (option_map (led_edge a x) r) c).start ≡ (side r c).start
led_side_start a x None c = refl
led_side_start a x (Some e) true = refl
led_side_start a x (Some e) false = refl

led_side_owner : (a x : ℕ) (r : Option Edge) (c : Bool) → (side (option_map (led_edge a x) r) c).owner ≡ (side r c).owner
led_side_owner a x None c = refl
led_side_owner a x (Some e) true = refl
led_side_owner a x (Some e) false = refl

pub led_start : (es : List (Option Edge)) (a x h : ℕ) → (half_in (led_in es a x) h).start ≡ (half_in es h).start
led_start es a x h = ap (λ r. (side r (even h)).start) (row_map (led_edge a x) es (h / 2)) ∙ led_side_start a x (row es (h / 2)) (even h)

pub led_owner : (es : List (Option Edge)) (a x h : ℕ) → (half_in (led_in es a x) h).owner ≡ (half_in es h).owner
led_owner es a x h = ap (λ r. (side r (even h)).owner) (row_map (led_edge a x) es (h / 2)) ∙ led_side_owner a x (row es (h / 2)) (even h)

pub led_next : (es : List (Option Edge)) (a x h : ℕ) → Has es (h / 2) → (half_in (led_in es a x) h).next ≡ cond (eqb (half_in es h).next a) x (half_in es h).next
led_next es a x h u = ap (λ e. e.next) (led_is es a x h u)

pub led_hit : (es : List (Option Edge)) (a x h : ℕ) → Has es (h / 2) → (half_in es h).next ≡ a → (half_in (led_in es a x) h).next ≡ x
led_hit es a x h u e = led_next es a x h u ∙ cond-true (eqb (half_in es h).next a) x (half_in es h).next (eq-eqb (half_in es h).next a e)

pub led_miss : (es : List (Option Edge)) (a x h : ℕ) → Has es (h / 2) → (half_in es h).next ≢ a → (half_in (led_in es a x) h).next ≡ (half_in es h).next
led_miss es a x h u ne = led_next es a x h u ∙ cond-false (eqb (half_in es h).next a) x (half_in es h).next (ne_eqb (half_in es h).next a ne)

-- what lies on l lies on m
joined_side : (l m : ℕ) (r : Option Edge) (c : Bool) → T (is_some r) → side (option_map (joined_edge l m) r) c ≡ joined_half l m (side r c)
joined_side l m None c u = absurd u
joined_side l m (Some e) true u = refl
joined_side l m (Some e) false u = refl

pub joined_is : (es : List (Option Edge)) (l m h : ℕ) → Has es (h / 2) → half_in (joined_in es l m) h ≡ joined_half l m (half_in es h)
joined_is es l m h u = ap (λ r. side r (even h)) (row_map (joined_edge l m) es (h / 2)) ∙ joined_side l m (row es (h / 2)) (even h) u

joined_side_start : (l m : ℕ) (r : Option Edge) (c : Bool) → (side (option_map (joined_edge l m) r) c).start ≡ (side r c).start
joined_side_start l m None c = refl
joined_side_start l m (Some e) true = refl
joined_side_start l m (Some e) false = refl

joined_side_next : (l m : ℕ) (r : Option Edge) (c : Bool) → (side (option_map (joined_edge l m) r) c).next ≡ (side r c).next
joined_side_next l m None c = refl
joined_side_next l m (Some e) true = refl
joined_side_next l m (Some e) false = refl

pub joined_start : (es : List (Option Edge)) (l m h : ℕ) → (half_in (joined_in es l m) h).start ≡ (half_in es h).start
joined_start es l m h = ap (λ r. (side r (even h)).start) (row_map (joined_edge l m) es (h / 2)) ∙ joined_side_start l m (row es (h / 2)) (even h)

pub joined_next : (es : List (Option Edge)) (l m h : ℕ) → (half_in (joined_in es l m) h).next ≡ (half_in es h).next
joined_next es l m h = ap (λ r. (side r (even h)).next) (row_map (joined_edge l m) es (h / 2)) ∙ joined_side_next l m (row es (h / 2)) (even h)

pub joined_owner : (es : List (Option Edge)) (l m h : ℕ) → Has es (h / 2) → (half_in (joined_in es l m) h).owner ≡ cond (eqb (half_in es h).owner l) m (half_in es h).owner
joined_owner es l m h u = ap (λ e. e.owner) (joined_is es l m h u)

pub joined_hit : (es : List (Option Edge)) (l m h : ℕ) → Has es (h / 2) → (half_in es h).owner ≡ l → (half_in (joined_in es l m) h).owner ≡ m
joined_hit es l m h u e = joined_owner es l m h u ∙ cond-true (eqb (half_in es h).owner l) m (half_in es h).owner (eq-eqb (half_in es h).owner l e)

pub joined_miss : (es : List (Option Edge)) (l m h : ℕ) → Has es (h / 2) → (half_in es h).owner ≢ l → (half_in (joined_in es l m) h).owner ≡ (half_in es h).owner
joined_miss es l m h u ne = joined_owner es l m h u ∙ cond-false (eqb (half_in es h).owner l) m (half_in es h).owner (ne_eqb (half_in es h).owner l ne)

-- the half-edges of a list lie on l: first one of them
owned_side_start : (b c : Bool) (l : ℕ) (r : Option Edge) → (side (option_map (owned_side b l) r) c).start ≡ (side r c).start
owned_side_start b c l None = refl
owned_side_start true true l (Some e) = refl
owned_side_start true false l (Some e) = refl
owned_side_start false true l (Some e) = refl
owned_side_start false false l (Some e) = refl

owned_side_hit : (b c : Bool) (l : ℕ) (r : Option Edge) → T (is_some r) → c ≡ b → (side (option_map (owned_side b l) r) c).owner ≡ l
owned_side_hit b c l None u e = absurd u
owned_side_hit true true l (Some x) u e = refl
owned_side_hit true false l (Some x) u e = absurd (subst T (sym e) tt)
owned_side_hit false true l (Some x) u e = absurd (subst T e tt)
owned_side_hit false false l (Some x) u e = refl

owned_side_miss : (b c : Bool) (l : ℕ) (r : Option Edge) → (c ≡ b → ⊥) → (side (option_map (owned_side b l) r) c).owner ≡ (side r c).owner
owned_side_miss b c l None ne = refl
owned_side_miss true true l (Some x) ne = absurd (ne refl)
owned_side_miss true false l (Some x) ne = refl
owned_side_miss false true l (Some x) ne = refl
owned_side_miss false false l (Some x) ne = absurd (ne refl)

is_some_owned : (b : Bool) (l : ℕ) (r : Option Edge) → is_some (option_map (owned_side b l) r) ≡ is_some r
is_some_owned b l None = refl
is_some_owned b l (Some e) = refl

-- two half-edges of one edge and of one side are the same
one_half : (j h : ℕ) → j / 2 ≡ h / 2 → even j ≡ even h → j ≡ h
one_half j h e q = elim (half_is j (h / 2) e) [
  | inl a ↦ elim (half_is h (h / 2) refl) [
    | inl c ↦ a ∙ sym c
    | inr c ↦ absurd (subst T (sym (even_even (h / 2)) ∙ ap even (sym a) ∙ q ∙ ap even c ∙ even_odd (h / 2)) tt)
  ]
  | inr a ↦ elim (half_is h (h / 2) refl) [
    | inl c ↦ absurd (subst T (sym (even_even (h / 2)) ∙ ap even (sym c) ∙ sym q ∙ ap even a ∙ even_odd (h / 2)) tt)
    | inr c ↦ a ∙ sym c
  ]
]

module _ (es : List (Option Edge)) (h l : ℕ) where
  owned_one_used : (m : ℕ) → used (owned_one es h l) m ≡ used es m
  owned_one_used m = elim (row_set (option_map (owned_side (even h) l)) es (h / 2) m) [
    | inl changed ↦ ap is_some changed.1 ∙ is_some_owned (even h) l (row es m)
    | inr same ↦ ap is_some same
  ]

  owned_one_start : (j : ℕ) → (half_in (owned_one es h l) j).start ≡ (half_in es j).start
  owned_one_start j = elim (row_set (option_map (owned_side (even h) l)) es (h / 2) (j / 2)) [
    | inl changed ↦ ap (λ r. (side r (even j)).start) changed.1 ∙ owned_side_start (even h) (even j) l (row es (j / 2))
    | inr same ↦ ap (λ r. (side r (even j)).start) same
  ]

  owned_one_miss : (j : ℕ) → j ≢ h → (half_in (owned_one es h l) j).owner ≡ (half_in es j).owner
  owned_one_miss j ne = elim (row_set (option_map (owned_side (even h) l)) es (h / 2) (j / 2)) [
    | inl changed ↦ ap (λ r. (side r (even j)).owner) changed.1 ∙ owned_side_miss (even h) (even j) l (row es (j / 2)) (λ q. ne (one_half j h changed.0 q))
    | inr same ↦ ap (λ r. (side r (even j)).owner) same
  ]

  owned_one_hit : Has es (h / 2) → (half_in (owned_one es h l) h).owner ≡ l
  owned_one_hit u =
      ap (λ r. (side r (even h)).owner) (row_put_same es (h / 2) (option_map (owned_side (even h) l) (row es (h / 2))) (has_below es (h / 2) u)) ∙ owned_side_hit (even h) (even h) l (row es (h / 2)) u refl

  -- what lies on l already stays there
  owned_one_stays : (j : ℕ) → Has es (j / 2) → (half_in es j).owner ≡ l → (half_in (owned_one es h l) j).owner ≡ l
  owned_one_stays j u e = elim (ℕ_discrete j h) [
    | yes q ↦ subst (λ i. (half_in (owned_one es h l) i).owner ≡ l) (sym q) (owned_one_hit (subst (λ i. Has es (i / 2)) q u))
    | no ne ↦ owned_one_miss j ne ∙ e
  ]

pub owned_used : (es : List (Option Edge)) (hs : List ℕ) (l m : ℕ) → used (owned_in es hs l) m ≡ used es m
owned_used es [] l m = refl
owned_used es (h ∷ hs) l m = owned_used (owned_one es h l) hs l m ∙ owned_one_used es h l m

pub owned_has_in : (es : List (Option Edge)) (hs : List ℕ) (l m : ℕ) → Has es m → Has (owned_in es hs l) m
owned_has_in es hs l m u = subst T (sym (owned_used es hs l m)) u

pub owned_has_out : (es : List (Option Edge)) (hs : List ℕ) (l m : ℕ) → Has (owned_in es hs l) m → Has es m
owned_has_out es hs l m u = subst T (owned_used es hs l m) u

pub owned_length : (es : List (Option Edge)) (hs : List ℕ) (l : ℕ) → length (owned_in es hs l) ≡ length es
owned_length es [] l = refl
owned_length es (h ∷ hs) l = owned_length (owned_one es h l) hs l ∙ length_put es (h / 2) (option_map (owned_side (even h) l) (row es (h / 2)))

pub owned_start : (es : List (Option Edge)) (hs : List ℕ) (l j : ℕ) → (half_in (owned_in es hs l) j).start ≡ (half_in es j).start
owned_start es [] l j = refl
owned_start es (h ∷ hs) l j = owned_start (owned_one es h l) hs l j ∙ owned_one_start es h l j

pub owned_next : (es : List (Option Edge)) (hs : List ℕ) (l j : ℕ) → (half_in (owned_in es hs l) j).next ≡ (half_in es j).next
owned_next es [] l j = refl
owned_next es (h ∷ hs) l j = owned_next (owned_one es h l) hs l j ∙ next_owned es h l j

owned_stays : (es : List (Option Edge)) (hs : List ℕ) (l j : ℕ) → Has es (j / 2) → (half_in es j).owner ≡ l → (half_in (owned_in es hs l) j).owner ≡ l
owned_stays es [] l j u e = e
owned_stays es (h ∷ hs) l j u e =
    owned_stays (owned_one es h l) hs l j (subst T (sym (owned_one_used es h l (j / 2))) u) (owned_one_stays es h l j u e)

-- the half-edges of the list lie on l
pub owned_hit : (es : List (Option Edge)) (hs : List ℕ) (l j : ℕ) → Has es (j / 2) → In hs j → (half_in (owned_in es hs l) j).owner ≡ l
owned_hit es [] l j u (i, lt, at) = absurd (let none : i < 0 = lt in omega arith)
owned_hit es (h ∷ hs) l j u (zero, lt, at) =
    owned_stays (owned_one es h l) hs l j (subst T (sym (owned_one_used es h l (j / 2))) u) (subst (λ i. (half_in (owned_one es h l) i).owner ≡ l) (at 0) (owned_one_hit es h l (subst (λ i. Has es (i / 2)) (sym (at 0)) u)))
owned_hit es (h ∷ hs) l j u (suc i, lt, at) =
    owned_hit (owned_one es h l) hs l j (subst T (sym (owned_one_used es h l (j / 2))) u) (i, omega arith, at)

-- and the others where they lay
pub owned_miss : (es : List (Option Edge)) (hs : List ℕ) (l j : ℕ) → (In hs j → ⊥) → (half_in (owned_in es hs l) j).owner ≡ (half_in es j).owner
owned_miss es [] l j n = refl
owned_miss es (h ∷ hs) l j n =
    owned_miss (owned_one es h l) hs l j (λ o. n (suc o.0, omega (arith, o.1), o.2)) ∙ owned_one_miss es h l j (λ e. n (0, omega arith, λ d. sym e))
