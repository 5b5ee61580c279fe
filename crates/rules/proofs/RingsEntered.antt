-- An element comes in just before another, or starts a ring of its own: told by a target, which is that other element or none. Then two elements, each at its own target, or one just before the other.
use Rattle.std.proofs.Common.{◌≡◌, ℕ, ◌≢◌, ◌⊎◌, Some, None, Option, unwrap_or, sym, refl, ap, ◌∙◌, subst, inl, inr}
use mathlib.Core.Logic.{ite, if_pos, if_neg}
use native.Mathlib.Decide.{ℕ_discrete}
use Rattle.rings.specs.Rings.{Rings}
use Rattle.rings.specs.Changes.{Inserted, Started}
use Rattle.rings.specs.Euler.{put}
use Rattle.rings.proofs.Facts.{before, injective}
use Rattle.rings.proofs.Single.{insert_keeps, start_keeps}
use Rattle.rings.proofs.Put.{put_same, put_other}
use Rattle.rules.proofs.Rows.{none_not_some, some_same}

-- targets
pub target? : (t : Option ℕ) (n : ℕ) → Dec (t ≡ Some n)
target? None n = no (λ e. none_not_some refl e)
target? (Some a) n = elim (ℕ_discrete a n) [ yes e ↦ yes (ap Some e) | no ne ↦ no (λ e. ne (some_same refl e)) ]

-- x comes in just before the target on the ring l, or starts the ring l
pub record Entered (f f' : ℕ → ℕ) (used used' : ℕ → Type 0) (lab lab' : ℕ → ℕ) (t : Option ℕ) (x l : ℕ) : Type 0 where
  pub x_step : f' x ≡ unwrap_or t x
  pub led : (h : ℕ) → used h → t ≡ Some (f h) → f' h ≡ x
  pub other_step : (h : ℕ) → used h → t ≢ Some (f h) → f' h ≡ f h
  pub in_use : (h : ℕ) → used' h → (h ≡ x) ⊎ used h
  pub x_in_use : used' x
  pub still_in_use : (h : ℕ) → used h → used' h
  pub x_label : lab' x ≡ l
  pub other_label : (h : ℕ) → used h → lab' h ≡ lab h
  pub at : (a : ℕ) → t ≡ Some a → used a × (lab a ≡ l)
  pub fresh : t ≡ None → (h : ℕ) → used h → lab h ≢ l

module _ {f f' : ℕ → ℕ} {used used' : ℕ → Type 0} {lab lab' : ℕ → ℕ} {t : Option ℕ} {x l : ℕ} (r : Rings f used lab) (c : Entered f f' used used' lab lab' t x l) where
  comes_in : (a p : ℕ) → t ≡ Some a → used p → f p ≡ a → Inserted f f' used used' lab lab' p x
  comes_in a p e u q = record {
    p_used = u;
    p_step = c.led p u (e ∙ ap Some (sym q));
    x_step = c.x_step ∙ ap (λ o. unwrap_or o x) e ∙ sym q;
    other_step = λ h v ne. c.other_step h v (λ d. ne (injective r h p v u (some_same d e ∙ sym q)));
    in_use = c.in_use;
    x_in_use = c.x_in_use;
    still_in_use = c.still_in_use;
    x_label = c.x_label ∙ sym (c.at a e).1 ∙ ap lab (sym q) ∙ r.label p u;
    other_label = c.other_label;
  }

  starts : t ≡ None → Started f f' used used' lab lab' x
  starts e = record {
    x_step = c.x_step ∙ ap (λ o. unwrap_or o x) e;
    other_step = λ h u. c.other_step h u (none_not_some e);
    in_use = c.in_use;
    x_in_use = c.x_in_use;
    still_in_use = c.still_in_use;
    fresh = λ h u q. c.fresh e h u (q ∙ c.x_label);
    other_label = c.other_label;
  }

  by_target : (o : Option ℕ) → t ≡ o → Rings f' used' lab'
  by_target None e = start_keeps r (starts e)
  by_target (Some a) e =
      let p = before r a (c.at a e).0 in
      insert_keeps r (comes_in a p.0 e p.1 p.2)

  enter_keeps : Rings f' used' lab'
  enter_keeps = by_target t refl

-- the step with x in
enter : (ℕ → ℕ) → Option ℕ → ℕ → ℕ → ℕ
enter f None x = put f x x
enter f (Some a) x = put (λ h. ite (ℕ_discrete (f h) a) x (f h)) x a

enter_x : (f : ℕ → ℕ) (t : Option ℕ) (x : ℕ) → enter f t x x ≡ unwrap_or t x
unfolding enter
enter_x f None x = put_same f x x
enter_x f (Some a) x = put_same (λ h. ite (ℕ_discrete (f h) a) x (f h)) x a

enter_led : (f : ℕ → ℕ) (t : Option ℕ) (x h : ℕ) → h ≢ x → t ≡ Some (f h) → enter f t x h ≡ x
unfolding enter
enter_led f None x h ne e = absurd (none_not_some refl e)
enter_led f (Some a) x h ne e = put_other (λ i. ite (ℕ_discrete (f i) a) x (f i)) x a h ne ∙ if_pos (ℕ_discrete (f h) a) (some_same e refl) x (f h)

enter_other : (f : ℕ → ℕ) (t : Option ℕ) (x h : ℕ) → h ≢ x → t ≢ Some (f h) → enter f t x h ≡ f h
unfolding enter
enter_other f None x h ne n = put_other f x x h ne
enter_other f (Some a) x h ne n = put_other (λ i. ite (ℕ_discrete (f i) a) x (f i)) x a h ne ∙ if_neg (ℕ_discrete (f h) a) (λ e. n (ap Some (sym e))) x (f h)

-- and how it has come in
entered_alone : {f : ℕ → ℕ} {used : ℕ → Type 0} {lab : ℕ → ℕ} (t : Option ℕ) (x l : ℕ) → (used x → ⊥) → ((a : ℕ) → t ≡ Some a → used a × (lab a ≡ l)) → (t ≡ None → (h : ℕ) → used h → lab h ≢ l) → Entered f (enter f t x) used (λ h. (h ≡ x) ⊎ used h) lab (put lab x l) t x l
entered_alone {f} {used} {lab} t x l new at fresh = record {
  x_step = enter_x f t x;
  led = λ h u e. enter_led f t x h (apart h u) e;
  other_step = λ h u n. enter_other f t x h (apart h u) n;
  in_use = λ h u. u;
  x_in_use = inl refl;
  still_in_use = λ h u. inr u;
  x_label = put_same lab x l;
  other_label = λ h u. put_other lab x l h (apart h u);
  at = at;
  fresh = fresh;
}
  where
    apart : (h : ℕ) → used h → h ≢ x
    apart h u e = new (subst used e u)

-- x comes in at the target s on the ring l, and y at the target t on the ring m
pub record EnteredTwo (f f' : ℕ → ℕ) (used used' : ℕ → Type 0) (lab lab' : ℕ → ℕ) (s t : Option ℕ) (x y l m : ℕ) : Type 0 where
  pub x_new : used x → ⊥
  pub x_step : f' x ≡ unwrap_or s x
  pub y_step : f' y ≡ unwrap_or t y
  pub led_x : (h : ℕ) → used h → s ≡ Some (f h) → f' h ≡ x
  pub led_y : (h : ℕ) → used h → t ≡ Some (f h) → f' h ≡ y
  pub other_step : (h : ℕ) → used h → s ≢ Some (f h) → t ≢ Some (f h) → f' h ≡ f h
  pub in_use : (h : ℕ) → used' h → (h ≡ x) ⊎ ((h ≡ y) ⊎ used h)
  pub x_in_use : used' x
  pub y_in_use : used' y
  pub still_in_use : (h : ℕ) → used h → used' h
  pub x_label : lab' x ≡ l
  pub y_label : lab' y ≡ m
  pub other_label : (h : ℕ) → used h → lab' h ≡ lab h
  pub at_x : (a : ℕ) → s ≡ Some a → used a × (lab a ≡ l)
  pub at_y : (a : ℕ) → t ≡ Some a → used a × (lab a ≡ m)
  pub fresh_x : s ≡ None → (h : ℕ) → used h → lab h ≢ l
  pub fresh_y : t ≡ None → (h : ℕ) → used h → lab h ≢ m
  pub apart : (a : ℕ) → s ≡ Some a → t ≡ Some a → ⊥
  pub two_rings : t ≡ None → l ≢ m

module _ {f f' : ℕ → ℕ} {used used' : ℕ → Type 0} {lab lab' : ℕ → ℕ} {s t : Option ℕ} {x y l m : ℕ} (r : Rings f used lab) (c : EnteredTwo f f' used used' lab lab' s t x y l m) where
  -- with x in alone
  abbrev mid : ℕ → ℕ
  mid = enter f s x

  abbrev mid_used : ℕ → Type 0
  mid_used h = (h ≡ x) ⊎ used h

  abbrev mid_lab : ℕ → ℕ
  mid_lab = put lab x l

  not_x : (h : ℕ) → used h → h ≢ x
  not_x h u e = c.x_new (subst used e u)

  mid_label : (h : ℕ) → used h → mid_lab h ≡ lab h
  mid_label h u = put_other lab x l h (not_x h u)

  first : Entered f mid used mid_used lab mid_lab s x l
  first = entered_alone s x l c.x_new c.at_x c.fresh_x

  -- y does not come in just before what follows x
  x_not_led : (o : Option ℕ) → s ≡ o → t ≡ Some (unwrap_or o x) → ⊥
  x_not_led None e q = c.x_new (c.at_y x q).0
  x_not_led (Some a) e q = c.apart a e q

  led : (h : ℕ) → mid_used h → t ≡ Some (mid h) → f' h ≡ y
  led h (inl e) q = absurd (x_not_led s refl (q ∙ ap Some (ap mid e ∙ enter_x f s x)))
  led h (inr u) q = elim (target? s (f h)) [
    | yes e ↦ absurd (c.x_new (c.at_y x (q ∙ ap Some (enter_led f s x h (not_x h u) e))).0)
    | no n ↦ c.led_y h u (q ∙ ap Some (enter_other f s x h (not_x h u) n))
  ]

  other_step : (h : ℕ) → mid_used h → t ≢ Some (mid h) → f' h ≡ mid h
  other_step h (inl e) n = ap f' e ∙ c.x_step ∙ sym (enter_x f s x) ∙ ap mid (sym e)
  other_step h (inr u) n = elim (target? s (f h)) [
    | yes e ↦ c.led_x h u e ∙ sym (enter_led f s x h (not_x h u) e)
    | no ns ↦
        let same : mid h ≡ f h = enter_other f s x h (not_x h u) ns in
        c.other_step h u ns (λ q. n (q ∙ ap Some (sym same))) ∙ sym same
  ]

  second : Entered mid f' mid_used used' mid_lab lab' t y m
  second = record {
    x_step = c.y_step;
    led = led;
    other_step = other_step;
    in_use = λ h u. elim (c.in_use h u) [ inl e ↦ inr (inl e) | inr more ↦ elim more [ inl e ↦ inl e | inr v ↦ inr (inr v) ] ];
    x_in_use = c.y_in_use;
    still_in_use = λ h u. elim u [ inl e ↦ subst used' (sym e) c.x_in_use | inr v ↦ c.still_in_use h v ];
    x_label = c.y_label;
    other_label = λ h u. elim u [
      | inl e ↦ ap lab' e ∙ c.x_label ∙ sym (put_same lab x l) ∙ ap mid_lab (sym e)
      | inr v ↦ c.other_label h v ∙ sym (mid_label h v)
    ];
    at = λ a e. (inr (c.at_y a e).0, mid_label a (c.at_y a e).0 ∙ (c.at_y a e).1);
    fresh = λ e h u. elim u [
      | inl d ↦ λ q. c.two_rings e (sym (put_same lab x l) ∙ ap mid_lab (sym d) ∙ q)
      | inr v ↦ λ q. c.fresh_y e h v (sym (mid_label h v) ∙ q)
    ];
  }

  pub enter_two_keeps : Rings f' used' lab'
  enter_two_keeps = enter_keeps (enter_keeps r first) second

-- x and then y come in just before the target t on the ring l, or are the ring l
pub record EnteredPair (f f' : ℕ → ℕ) (used used' : ℕ → Type 0) (lab lab' : ℕ → ℕ) (t : Option ℕ) (x y l : ℕ) : Type 0 where
  pub y_new : used y → ⊥
  pub x_step : f' x ≡ y
  pub y_step : f' y ≡ unwrap_or t x
  pub led : (h : ℕ) → used h → t ≡ Some (f h) → f' h ≡ x
  pub other_step : (h : ℕ) → used h → t ≢ Some (f h) → f' h ≡ f h
  pub in_use : (h : ℕ) → used' h → (h ≡ x) ⊎ ((h ≡ y) ⊎ used h)
  pub x_in_use : used' x
  pub y_in_use : used' y
  pub still_in_use : (h : ℕ) → used h → used' h
  pub x_label : lab' x ≡ l
  pub y_label : lab' y ≡ l
  pub other_label : (h : ℕ) → used h → lab' h ≡ lab h
  pub at : (a : ℕ) → t ≡ Some a → used a × (lab a ≡ l)
  pub fresh : t ≡ None → (h : ℕ) → used h → lab h ≢ l

module _ {f f' : ℕ → ℕ} {used used' : ℕ → Type 0} {lab lab' : ℕ → ℕ} {t : Option ℕ} {x y l : ℕ} (r : Rings f used lab) (c : EnteredPair f f' used used' lab lab' t x y l) where
  -- with y in alone
  abbrev with_y : ℕ → ℕ
  with_y = enter f t y

  not_y : (h : ℕ) → used h → h ≢ y
  not_y h u e = c.y_new (subst used e u)

  -- what y leads to then, by the target
  y_led : (o : Option ℕ) → t ≡ o → with_y y ≡ y → f' y ≡ x
  y_led None e q = c.y_step ∙ ap (λ i. unwrap_or i x) e
  y_led (Some a) e q = absurd (not_y a (c.at a e).0 (sym (enter_x f t y ∙ ap (λ i. unwrap_or i y) e) ∙ q))

  y_on : (o : Option ℕ) → t ≡ o → with_y y ≢ y → f' y ≡ with_y y
  y_on None e n = absurd (n (enter_x f t y ∙ ap (λ i. unwrap_or i y) e))
  y_on (Some a) e n = c.y_step ∙ ap (λ i. unwrap_or i x) e ∙ sym (enter_x f t y ∙ ap (λ i. unwrap_or i y) e)

  led_on : (h : ℕ) → (h ≡ y) ⊎ used h → with_y h ≡ y → f' h ≡ x
  led_on h (inl e) q = ap f' e ∙ y_led t refl (ap with_y (sym e) ∙ q)
  led_on h (inr u) q = elim (target? t (f h)) [
    | yes e ↦ c.led h u e
    | no n ↦ absurd (not_y (f h) (r.closed h u) (sym (enter_other f t y h (not_y h u) n) ∙ q))
  ]

  not_led : (h : ℕ) → (h ≡ y) ⊎ used h → with_y h ≢ y → f' h ≡ with_y h
  not_led h (inl e) n = ap f' e ∙ y_on t refl (λ q. n (ap with_y e ∙ q)) ∙ ap with_y (sym e)
  not_led h (inr u) n = elim (target? t (f h)) [
    | yes e ↦ absurd (n (enter_led f t y h (not_y h u) e))
    | no m ↦ c.other_step h u m ∙ sym (enter_other f t y h (not_y h u) m)
  ]

  x_before_y : Entered with_y f' (λ h. (h ≡ y) ⊎ used h) used' (put lab y l) lab' (Some y) x l
  x_before_y = record {
    x_step = c.x_step;
    led = λ h u e. led_on h u (sym (some_same refl e));
    other_step = λ h u n. not_led h u (λ q. n (ap Some (sym q)));
    in_use = c.in_use;
    x_in_use = c.x_in_use;
    still_in_use = λ h u. elim u [ inl e ↦ subst used' (sym e) c.y_in_use | inr v ↦ c.still_in_use h v ];
    x_label = c.x_label;
    other_label = λ h u. elim u [
      | inl e ↦ ap lab' e ∙ c.y_label ∙ sym (put_same lab y l) ∙ ap (put lab y l) (sym e)
      | inr v ↦ c.other_label h v ∙ sym (put_other lab y l h (not_y h v))
    ];
    at = λ a e. let q = some_same refl e in (inl (sym q), ap (put lab y l) (sym q) ∙ put_same lab y l);
    fresh = λ e. absurd (none_not_some e refl);
  }

  pub enter_pair_keeps : Rings f' used' lab'
  enter_pair_keeps = enter_keeps (enter_keeps r (entered_alone t y l c.y_new c.at c.fresh)) x_before_y
