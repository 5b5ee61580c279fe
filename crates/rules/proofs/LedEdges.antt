-- What led to one half-edge leads to another, and then what led to a second one to another, in a table whose half-edges may have taken other loops before.
use Rattle.std.proofs.Common.{◌≡◌, ℕ, ◌/◌, T, ◌≢◌, List, [], ◌∷◌, length, Some, None, Option, sym, refl, ap, ◌∙◌, subst}
use Rattle.std.specs.Option.{option_map}
use Rattle.boundary.specs.declared.Edge.{Edge}
use Rattle.boundary.specs.Tables.{row, count, even, half_in, used}
use Rattle.boundary.specs.Changes.{led_edge, led_in, owned_side, owned_one, owned_in, joined_edge, joined_in}
use Rattle.rules.specs.Rules.{Has}
use Rattle.rules.proofs.Rows.{is_some_mapped, has_map_in, has_map_out, length_mapped, none_not_some, some_same, used_map}
use Rattle.rules.proofs.Counts.{count_map, count_put_alike}
use Rattle.rules.proofs.Halves.{led_start, led_owner, led_hit, led_miss, joined_start, joined_next, owned_has_in, owned_has_out, owned_length, owned_start, owned_next}

-- what led to the target leads to x; where there is no target, nothing changes
abbrev pub led_to : List (Option Edge) → Option ℕ → ℕ → List (Option Edge)
led_to es None x = es
led_to es (Some a) x = led_in es a x

pub led_to_used : (es : List (Option Edge)) (t : Option ℕ) (x m : ℕ) → used (led_to es t x) m ≡ used es m
led_to_used es None x m = refl
led_to_used es (Some a) x m = used_map (led_edge a x) es m

pub led_to_length : (es : List (Option Edge)) (t : Option ℕ) (x : ℕ) → length (led_to es t x) ≡ length es
led_to_length es None x = refl
led_to_length es (Some a) x = length_mapped (led_edge a x) es

pub led_to_count : (es : List (Option Edge)) (t : Option ℕ) (x : ℕ) → count (led_to es t x) ≡ count es
led_to_count es None x = refl
led_to_count es (Some a) x = count_map (led_edge a x) es

pub led_to_start : (es : List (Option Edge)) (t : Option ℕ) (x h : ℕ) → (half_in (led_to es t x) h).start ≡ (half_in es h).start
led_to_start es None x h = refl
led_to_start es (Some a) x h = led_start es a x h

pub led_to_owner : (es : List (Option Edge)) (t : Option ℕ) (x h : ℕ) → (half_in (led_to es t x) h).owner ≡ (half_in es h).owner
led_to_owner es None x h = refl
led_to_owner es (Some a) x h = led_owner es a x h

pub led_to_hit : (es : List (Option Edge)) (t : Option ℕ) (x h : ℕ) → Has es (h / 2) → t ≡ Some (half_in es h).next → (half_in (led_to es t x) h).next ≡ x
led_to_hit es None x h u e = absurd (none_not_some refl e)
led_to_hit es (Some a) x h u e = led_hit es a x h u (some_same e refl)

pub led_to_miss : (es : List (Option Edge)) (t : Option ℕ) (x h : ℕ) → Has es (h / 2) → t ≢ Some (half_in es h).next → (half_in (led_to es t x) h).next ≡ (half_in es h).next
led_to_miss es None x h u n = refl
led_to_miss es (Some a) x h u n = led_miss es a x h u (λ e. n (ap Some (sym e)))

-- the table es₁ has the edges of es, with their starts and steps; the loops may differ
pub record Alike (es es₁ : List (Option Edge)) : Type 0 where
  pub has_in : (m : ℕ) → Has es m → Has es₁ m
  pub has_out : (m : ℕ) → Has es₁ m → Has es m
  pub starts : (i : ℕ) → (half_in es₁ i).start ≡ (half_in es i).start
  pub nexts : (i : ℕ) → (half_in es₁ i).next ≡ (half_in es i).next
  pub lengths : length es₁ ≡ length es
  pub counts : count es₁ ≡ count es

count_owned : (es : List (Option Edge)) (hs : List ℕ) (l : ℕ) → count (owned_in es hs l) ≡ count es
count_owned es [] l = refl
count_owned es (h ∷ hs) l =
    count_owned (owned_one es h l) hs l ∙ count_put_alike es (h / 2) (option_map (owned_side (even h) l) (row es (h / 2))) (is_some_mapped (owned_side (even h) l) (row es (h / 2)))

pub owned_alike : (es : List (Option Edge)) (hs : List ℕ) (l : ℕ) → Alike es (owned_in es hs l)
owned_alike es hs l = record {
  has_in = owned_has_in es hs l;
  has_out = owned_has_out es hs l;
  starts = owned_start es hs l;
  nexts = owned_next es hs l;
  lengths = owned_length es hs l;
  counts = count_owned es hs l;
}

pub joined_alike : (es : List (Option Edge)) (l m : ℕ) → Alike es (joined_in es l m)
joined_alike es l m = record {
  has_in = has_map_in (joined_edge l m) es;
  has_out = has_map_out (joined_edge l m) es;
  starts = joined_start es l m;
  nexts = joined_next es l m;
  lengths = length_mapped (joined_edge l m) es;
  counts = count_map (joined_edge l m) es;
}

abbrev pub led_twice : List (Option Edge) → Option ℕ → ℕ → Option ℕ → ℕ → List (Option Edge)
led_twice es s p t q = led_to (led_to es s p) t q

module _ (es es₁ : List (Option Edge)) (s : Option ℕ) (p : ℕ) (t : Option ℕ) (q : ℕ) (a : Alike es es₁) where
  abbrev es₂ : List (Option Edge)
  es₂ = led_to es₁ s p

  twice_used : (k : ℕ) → used (led_twice es₁ s p t q) k ≡ used es₁ k
  twice_used k = led_to_used es₂ t q k ∙ led_to_used es₁ s p k

  pub twice_has_in : (k : ℕ) → Has es k → Has (led_twice es₁ s p t q) k
  twice_has_in k w = subst T (sym (twice_used k)) (a.has_in k w)

  pub twice_has_out : (k : ℕ) → Has (led_twice es₁ s p t q) k → Has es k
  twice_has_out k w = a.has_out k (subst T (twice_used k) w)

  pub twice_length : length (led_twice es₁ s p t q) ≡ length es
  twice_length = led_to_length es₂ t q ∙ led_to_length es₁ s p ∙ a.lengths

  pub twice_count : count (led_twice es₁ s p t q) ≡ count es
  twice_count = led_to_count es₂ t q ∙ led_to_count es₁ s p ∙ a.counts

  pub twice_start : (i : ℕ) → (half_in (led_twice es₁ s p t q) i).start ≡ (half_in es i).start
  twice_start i = led_to_start es₂ t q i ∙ led_to_start es₁ s p i ∙ a.starts i

  pub twice_owner : (i : ℕ) → (half_in (led_twice es₁ s p t q) i).owner ≡ (half_in es₁ i).owner
  twice_owner i = led_to_owner es₂ t q i ∙ led_to_owner es₁ s p i

  module _ (i : ℕ) (w : Has es (i / 2)) where
    in₁ : Has es₁ (i / 2)
    in₁ = a.has_in (i / 2) w

    in₂ : Has es₂ (i / 2)
    in₂ = subst T (sym (led_to_used es₁ s p (i / 2))) in₁

    missed : s ≢ Some (half_in es i).next → (half_in es₂ i).next ≡ (half_in es i).next
    missed n = led_to_miss es₁ s p i in₁ (λ d. n (d ∙ ap Some (a.nexts i))) ∙ a.nexts i

    -- the second change leaves what the first has led to p, unless p is its target
    pub twice_first : t ≢ Some p → s ≡ Some (half_in es i).next → (half_in (led_twice es₁ s p t q) i).next ≡ p
    twice_first ne e =
        let at : (half_in es₂ i).next ≡ p = led_to_hit es₁ s p i in₁ (e ∙ ap Some (sym (a.nexts i))) in
        led_to_miss es₂ t q i in₂ (λ d. ne (d ∙ ap Some at)) ∙ at

    pub twice_second : s ≢ Some (half_in es i).next → t ≡ Some (half_in es i).next → (half_in (led_twice es₁ s p t q) i).next ≡ q
    twice_second n e = led_to_hit es₂ t q i in₂ (e ∙ ap Some (sym (missed n)))

    pub twice_other : s ≢ Some (half_in es i).next → t ≢ Some (half_in es i).next → (half_in (led_twice es₁ s p t q) i).next ≡ (half_in es i).next
    twice_other n o = led_to_miss es₂ t q i in₂ (λ d. o (d ∙ ap Some (missed n))) ∙ missed n
