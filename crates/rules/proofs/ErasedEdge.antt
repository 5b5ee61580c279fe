-- An edge with the halves x and y is erased: what a step past both leads to, the rings round the vertices, and the tables of edges and loops.
use Rattle.std.proofs.Common.{◌≡◌, ℕ, ◌+◌, ◌/◌, Bool, true, false, cond, T, eqb, ◌≢◌, List, length, set, Some, None, Option, sym, refl, ap, ◌∙◌, subst, inl}
use native.Mathlib.Decide.{ℕ_discrete}
use Rattle.std.proofs.lemmas.Bool.{eq-eqb, ne_eqb, cond-true, cond-false}
use Rattle.boundary.specs.declared.Edge.{Edge}
use Rattle.boundary.specs.declared.Loop.{Loop}
use Rattle.boundary.specs.declared.Boundary.{Boundary}
use Rattle.boundary.specs.Tables.{row, count, half_in, start, next, owner, mate, lone_of, face_of}
use Rattle.boundary.specs.Changes.{with_loops, emptied}
use Rattle.boundary.specs.Operators.{past}
use Rattle.rings.specs.Rings.{Rings}
use Rattle.rings.specs.Changes.{Swapped}
use Rattle.rings.specs.Euler.{Erased, swap, skip}
use Rattle.rings.proofs.Facts.{injective}
use Rattle.rings.proofs.Put.{swapped_by_put, skip_hit, skip_miss}
use Rattle.rings.proofs.Euler.{vertices_left}
use Rattle.rules.specs.Rules.{Has, Used, turn, Sound}
use Rattle.rules.proofs.Rows.{length_put, some_same}
use Rattle.rules.proofs.Counts.{count_clear}
use Rattle.rules.proofs.Halves.{mate_apart, other_edge, half_put_other, clear_mates_in, clear_mates_out}
use Rattle.rules.proofs.RulesAsRings.{paired, loop_rings, vertex_rings, Placed}
use Rattle.rules.proofs.LedEdges.{Alike, led_twice, twice_has_in, twice_has_out, twice_length, twice_count, twice_start, twice_owner, twice_first, twice_second, twice_other}
use Rattle.rules.proofs.Fields.{with_lone, lone_has_in, lone_has_out, lone_other_row, lone_face, lone_row, lone_length, lone_count}

-- where a step leads that passes both x and y, once they have exchanged what follows them
module _ {f : ℕ → ℕ} {used : ℕ → Type 0} {lab : ℕ → ℕ} (r : Rings f used lab) (x y : ℕ) (ux : used x) (uy : used y) (apart : x ≢ y) where
  abbrev g : ℕ → ℕ
  g = swap f x y

  exchanged : Swapped f g used x y
  exchanged = swapped_by_put ux uy apart

  -- past x alone, from y
  from_y_on : f x ≢ x → skip g x y ≡ f x
  from_y_on ne = skip_miss g x y (λ e. ne (sym exchanged.y_step ∙ e)) ∙ exchanged.y_step

  from_y_over : f x ≡ x → skip g x y ≡ f y
  from_y_over e = skip_hit g x y (exchanged.y_step ∙ e) ∙ exchanged.x_step

  module _ (i : ℕ) (u : used i) (nx : i ≢ x) (ny : i ≢ y) where
    past_x : f i ≡ x → skip (skip g x) y i ≡ cond (eqb (f y) y) (f x) (f y)
    past_x e = elim (ℕ_discrete (f y) y) [
      | yes q ↦ skip_hit (skip g x) y i (first ∙ q) ∙ from_y_on (λ p. nx (injective r i x u ux (e ∙ sym p))) ∙ sym (cond-true (eqb (f y) y) (f x) (f y) (eq-eqb (f y) y q))
      | no nq ↦ skip_miss (skip g x) y i (λ p. nq (sym first ∙ p)) ∙ first ∙ sym (cond-false (eqb (f y) y) (f x) (f y) (ne_eqb (f y) y nq))
    ]
      where
        first : skip g x i ≡ f y
        first = skip_hit g x i (exchanged.other_step i u nx ny ∙ e) ∙ exchanged.x_step

    past_y : f i ≡ y → skip (skip g x) y i ≡ cond (eqb (f x) x) (f y) (f x)
    past_y e = skip_hit (skip g x) y i first ∙ elim (ℕ_discrete (f x) x) [
      | yes q ↦ from_y_over q ∙ sym (cond-true (eqb (f x) x) (f y) (f x) (eq-eqb (f x) x q))
      | no nq ↦ from_y_on nq ∙ sym (cond-false (eqb (f x) x) (f y) (f x) (ne_eqb (f x) x nq))
    ]
      where
        here : g i ≡ y
        here = exchanged.other_step i u nx ny ∙ e

        first : skip g x i ≡ y
        first = skip_miss g x i (λ p. apart (sym p ∙ here)) ∙ here

    past_none : f i ≢ x → f i ≢ y → skip (skip g x) y i ≡ f i
    past_none mx my = skip_miss (skip g x) y i (λ p. my (sym first ∙ p)) ∙ first
      where
        here : g i ≡ f i
        here = exchanged.other_step i u nx ny

        first : skip g x i ≡ f i
        first = skip_miss g x i (λ p. mx (sym here ∙ p)) ∙ here

-- where x, or y, is not alone on its ring, what led to the other leads to what follows it
pub past_on : (b : Boundary) (x y : ℕ) → next b y ≢ y → past b x y ≡ next b y
past_on b x y ne = cond-false (eqb (next b y) y) (next b x) (next b y) (ne_eqb (next b y) y ne)

pub past_over : (b : Boundary) (x y : ℕ) → next b y ≡ y → past b x y ≡ next b x
past_over b x y e = cond-true (eqb (next b y) y) (next b x) (next b y) (eq-eqb (next b y) y e)

-- the half-edges of c are those of b without x and its mate y, past which the steps go
pub record Gone (b c : Boundary) (x y : ℕ) : Type 0 where
  pub x_used : Used b x
  pub y_used : Used b y
  pub mate_x : mate x ≡ y
  pub mate_y : mate y ≡ x
  pub in_use : (i : ℕ) → Used c i → Used b i × (i ≢ x) × (i ≢ y)
  pub still_in_use : (i : ℕ) → Used b i → i ≢ x → i ≢ y → Used c i
  pub old_start : (i : ℕ) → Used b i → i ≢ x → i ≢ y → start c i ≡ start b i
  pub to_x : (i : ℕ) → Used b i → i ≢ x → i ≢ y → next b i ≡ x → next c i ≡ past b x y
  pub to_y : (i : ℕ) → Used b i → i ≢ x → i ≢ y → next b i ≡ y → next c i ≡ past b y x
  pub elsewhere : (i : ℕ) → Used b i → i ≢ x → i ≢ y → next b i ≢ x → next b i ≢ y → next c i ≡ next b i

module _ (b c : Boundary) (x y : ℕ) (s : Sound b) (d : Gone b c x y) where
  pub halves_apart : x ≢ y
  halves_apart e = mate_apart x (d.mate_x ∙ sym e)

  pub erased : Erased (next b) (next c) mate mate (Used b) (Used c) x y
  erased = record {
    x_used = d.x_used;
    y_used = d.y_used;
    x_not_y = halves_apart;
    mate_x = d.mate_x;
    mate_y = d.mate_y;
    next_is = step;
    mate_is = λ i u nx ny. refl;
    in_use = d.in_use;
    still_in_use = d.still_in_use;
  }
    where
      r : Rings (next b) (Used b) (owner b)
      r = loop_rings b s

      step : (i : ℕ) → Used b i → i ≢ x → i ≢ y → next c i ≡ skip (skip (swap (next b) x y) x) y i
      step i u nx ny = elim (ℕ_discrete (next b i) x) [
        | yes e ↦ d.to_x i u nx ny e ∙ sym (past_x r x y d.x_used d.y_used halves_apart i u nx ny e)
        | no mx ↦ elim (ℕ_discrete (next b i) y) [
          | yes e ↦ d.to_y i u nx ny e ∙ sym (past_y r x y d.x_used d.y_used halves_apart i u nx ny e)
          | no my ↦ d.elsewhere i u nx ny mx my ∙ sym (past_none r x y d.x_used d.y_used halves_apart i u nx ny mx my)
        ]
      ]

  -- a half-edge that is left starts where it did
  pub start_was : (i : ℕ) → Used c i → start c i ≡ start b i
  start_was i u = let o = d.in_use i u in d.old_start i o.0 o.1 o.2

  -- each start is a start or lone, if those of x and y are
  pub starts_placed : Placed c (start b x) → Placed c (start b y) → (z : ℕ) → Used b z → Placed c (start b z)
  starts_placed at_x at_y z u = elim (ℕ_discrete z x) [
    | yes e ↦ subst (λ i. Placed c (start b i)) (sym e) at_x
    | no nx ↦ elim (ℕ_discrete z y) [
      | yes e ↦ subst (λ i. Placed c (start b i)) (sym e) at_y
      | no ny ↦ inl (z, d.still_in_use z u nx ny, d.old_start z u nx ny)
    ]
  ]

  pub turns_left : Rings (turn c) (Used c) (start c)
  turns_left = vertices_left erased (paired b) (vertex_rings b s) d.old_start

  -- where x ends, y starts, and the half-edge after x
  pub after_x : start b (next b x) ≡ start b y
  after_x = s.continues.goes_on x d.x_used ∙ ap (start b) d.mate_x

  pub after_y : start b (next b y) ≡ start b x
  after_y = s.continues.goes_on y d.y_used ∙ ap (start b) d.mate_y

-- what led to m leads to p, then what led to n leads to q, and the edge of x is cleared
abbrev pub erased_in : List (Option Edge) → ℕ → ℕ → ℕ → ℕ → ℕ → List (Option Edge)
erased_in es₁ m p n q x = set (led_twice es₁ (Some m) p (Some n) q) (x / 2) None

module _ (es es₁ : List (Option Edge)) (m p n q x : ℕ) (a : Alike es es₁) where
  abbrev led_es : List (Option Edge)
  led_es = led_twice es₁ (Some m) p (Some n) q

  pub erased_in_use : (i : ℕ) → Has (erased_in es₁ m p n q x) (i / 2) → Has es (i / 2) × (i ≢ x) × (i ≢ mate x)
  erased_in_use i w = let o = clear_mates_out led_es x i w in (twice_has_out es es₁ (Some m) p (Some n) q a (i / 2) o.0, o.1, o.2)

  pub erased_length : length (erased_in es₁ m p n q x) ≡ length es
  erased_length = length_put led_es (x / 2) None ∙ twice_length es es₁ (Some m) p (Some n) q a

  pub erased_count : Has es (x / 2) → count (erased_in es₁ m p n q x) + 1 ≡ count es
  erased_count w = count_clear led_es (x / 2) (twice_has_in es es₁ (Some m) p (Some n) q a (x / 2) w) ∙ twice_count es es₁ (Some m) p (Some n) q a

  module _ (i : ℕ) (w : Has es (i / 2)) (nx : i ≢ x) (ny : i ≢ mate x) where
    pub erased_still : Has (erased_in es₁ m p n q x) (i / 2)
    erased_still = clear_mates_in led_es x i nx ny (twice_has_in es es₁ (Some m) p (Some n) q a (i / 2) w)

    same_half : half_in (erased_in es₁ m p n q x) i ≡ half_in led_es i
    same_half = half_put_other led_es (x / 2) i None (other_edge i x nx ny)

    pub erased_start : (half_in (erased_in es₁ m p n q x) i).start ≡ (half_in es i).start
    erased_start = ap (λ r. r.start) same_half ∙ twice_start es es₁ (Some m) p (Some n) q a i

    pub erased_owner : (half_in (erased_in es₁ m p n q x) i).owner ≡ (half_in es₁ i).owner
    erased_owner = ap (λ r. r.owner) same_half ∙ twice_owner es es₁ (Some m) p (Some n) q a i

    pub erased_first : p ≢ n → (half_in es i).next ≡ m → (half_in (erased_in es₁ m p n q x) i).next ≡ p
    erased_first ne e = ap (λ r. r.next) same_half ∙ twice_first es es₁ (Some m) p (Some n) q a i w (λ d. ne (sym (some_same refl d))) (ap Some (sym e))

    pub erased_second : n ≢ m → (half_in es i).next ≡ n → (half_in (erased_in es₁ m p n q x) i).next ≡ q
    erased_second ne e = ap (λ r. r.next) same_half ∙ twice_second es es₁ (Some m) p (Some n) q a i w (λ d. ne (sym e ∙ sym (some_same refl d))) (ap Some (sym e))

    pub erased_other : (half_in es i).next ≢ m → (half_in es i).next ≢ n → (half_in (erased_in es₁ m p n q x) i).next ≡ (half_in es i).next
    erased_other nm nn = ap (λ r. r.next) same_half ∙ twice_other es es₁ (Some m) p (Some n) q a i w (λ d. nm (sym (some_same refl d))) (λ d. nn (sym (some_same refl d)))

-- where the ring of l was emptied, v is lone on it: the loops alone change
abbrev pub lone_put : Bool → List (Option Loop) → ℕ → ℕ → List (Option Loop)
lone_put true t l v = with_lone t l (Some v)
lone_put false t l v = t

pub emptied_is : (c : Bool) (b : Boundary) (l v : ℕ) → emptied c b l v ≡ with_loops b (lone_put c b.loops l v)
emptied_is true b l v = refl
emptied_is false b l v = refl

pub lone_put_has_in : (c : Bool) (t : List (Option Loop)) (l v m : ℕ) → Has t m → Has (lone_put c t l v) m
lone_put_has_in true t l v m u = lone_has_in t l (Some v) m u
lone_put_has_in false t l v m u = u

pub lone_put_has_out : (c : Bool) (t : List (Option Loop)) (l v m : ℕ) → Has t l → Has (lone_put c t l v) m → Has t m
lone_put_has_out true t l v m old u = lone_has_out t l (Some v) old m u
lone_put_has_out false t l v m old u = u

pub lone_put_other : (c : Bool) (t : List (Option Loop)) (l v m : ℕ) → m ≢ l → row (lone_put c t l v) m ≡ row t m
lone_put_other true t l v m ne = lone_other_row t l (Some v) m ne
lone_put_other false t l v m ne = refl

pub lone_put_face : (c : Bool) (t : List (Option Loop)) (l v m : ℕ) → Has t l → face_of (row (lone_put c t l v) m) ≡ face_of (row t m)
lone_put_face false t l v m old = refl
lone_put_face true t l v m old = lone_face t l (Some v) old m

pub lone_put_true : (c : Bool) (t : List (Option Loop)) (l v : ℕ) → Has t l → c ≡ true → lone_of (row (lone_put c t l v) l) ≡ Some v
lone_put_true true t l v old e = ap lone_of (lone_row t l (Some v) old)
lone_put_true false t l v old e = absurd (subst T (sym e) tt)

pub lone_put_false : (c : Bool) (t : List (Option Loop)) (l v m : ℕ) → c ≡ false → row (lone_put c t l v) m ≡ row t m
lone_put_false true t l v m e = absurd (subst T e tt)
lone_put_false false t l v m e = refl

pub lone_put_length : (c : Bool) (t : List (Option Loop)) (l v : ℕ) → length (lone_put c t l v) ≡ length t
lone_put_length true t l v = lone_length t l (Some v)
lone_put_length false t l v = refl

pub lone_put_count : (c : Bool) (t : List (Option Loop)) (l v : ℕ) → Has t l → count (lone_put c t l v) ≡ count t
lone_put_count true t l v old = lone_count t l (Some v) old
lone_put_count false t l v old = refl
