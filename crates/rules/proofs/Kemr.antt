-- An edge erased within a loop keeps the rules: the run between h and its mate takes the new loop, and the rest stays.
use Rattle.std.proofs.Common.{◌≡◌, ℕ, zero, suc, ◌+◌, ◌/◌, ◌<◌, ◌≤◌, Bool, eqb, ◌≢◌, ◌⊎◌, List, length, set, Some, None, Option, sym, refl, ap, ◌∙◌, subst, inl, inr, arith}
use mathlib.Core.Logic.{ite, if_pos, if_neg}
use native.Mathlib.Decide.{ℕ_discrete}
use Rattle.std.specs.List.{ContainsAt as In}
use Rattle.std.proofs.lemmas.Bool.{eqb-true, eq-eqb, ne_eqb, cond-true, cond-false}
use Rattle.boundary.specs.declared.Edge.{Edge}
use Rattle.boundary.specs.declared.Loop.{Loop}
use Rattle.boundary.specs.declared.Boundary.{Boundary}
use Rattle.boundary.specs.declared.Refusal.TheVariants.{Unused, Taken, Condition}
use Rattle.boundary.specs.Tables.{row, count, half_used, start, next, owner, mate, lone, lone_of, face_of, shell_of, outer_of, loop_face, face_shell, loop_shell, run}
use Rattle.boundary.specs.Changes.{put_loop, clear_edge, led, owned, owned_in}
use Rattle.boundary.specs.Operators.{cut_off, kemr}
use Rattle.boundary.specs.Refusals.{free, kemr_refusal}
use Rattle.rings.specs.Rings.{walk, Rings, OnRun}
use Rattle.rings.specs.Changes.{Split}
use Rattle.rings.specs.Euler.{swap}
use Rattle.rings.proofs.Facts.{walk_used, walk_label, injective, alone_in}
use Rattle.rings.proofs.Walks.{walk_first, on_run?}
use Rattle.rings.proofs.Round.{cycle_covers}
use Rattle.rings.proofs.Put.{swapped_by_put}
use Rattle.rings.proofs.Euler.{loops_split}
use Rattle.rules.specs.Rules.{Has, Used, turn, Sizes, Named, LoneVertices, Outer, OneShell, Balanced, Sound}
use Rattle.rules.proofs.Rows.{true_T, unless_none, free_not_has, row_put_same, row_put_other, length_put, has_put_same, has_put_other_in, has_put_cases, lone_has, none_not_some, some_same, has_apart}
use Rattle.rules.proofs.Counts.{count_put_free}
use Rattle.rules.proofs.Halves.{mate_mate, mate_apart, used_mate, owned_hit, owned_miss}
use Rattle.rules.proofs.RulesAsRings.{loop_rings, vertex_rings, loop_rings_by, vertex_rings_by, continues_by, HasHalf, Placed, owner_not_free, lone_not_owner}
use Rattle.rules.proofs.Runs.{Met, loop_meets, in_from_on, on_from_in}
use Rattle.rules.proofs.LedEdges.{Alike, owned_alike}
use Rattle.rules.proofs.ErasedEdge.{start_was as erased-start-was, starts_placed, past_on, Gone, halves_apart, erased, turns_left, after_x, after_y, erased_in, erased_in_use, erased_length, erased_count, erased_still, erased_start, erased_owner, erased_first, erased_second, erased_other, lone_put, emptied_is, lone_put_has_in, lone_put_has_out, lone_put_other, lone_put_face, lone_put_true, lone_put_false, lone_put_length, lone_put_count}

-- what an accepted edit says of the half-edge x and its mate y
pub record Asked (b : Boundary) (x y l : ℕ) : Type 0 where
  pub x_used : Used b x
  pub loop_free : Has b.loops l → ⊥
  pub together : owner b x ≡ owner b y

pub asked : (b : Boundary) (h l : ℕ) → kemr_refusal b h l ≡ None → Asked b h (mate h) l
asked b h l q =
    let r = unless_none (half_used b h) Unused _ q in
    let t = unless_none (free b.loops l) Taken _ r.1 in
    let w = unless_none (eqb (owner b h) (owner b (mate h))) Condition None t.1 in
    record {
      x_used = true_T (half_used b h) r.0;
      loop_free = free_not_has b.loops l t.0;
      together = eqb-true (owner b h) (owner b (mate h)) w.0;
    }

-- the boundary c has of b what is left without the edge of x and y, with the run from x to y on the loop l
pub record Left (b c : Boundary) (x y l : ℕ) : Type 0 where
  pub gone : Gone b c x y
  pub on_run : (i : ℕ) → Used b i → i ≢ x → i ≢ y → In (run (next b) 384 (next b x) y) i → owner c i ≡ l
  pub off_run : (i : ℕ) → Used b i → i ≢ x → i ≢ y → (In (run (next b) 384 (next b x) y) i → ⊥) → owner c i ≡ owner b i
  pub loop_l : Has c.loops l
  pub loop_in : (m : ℕ) → Has b.loops m → Has c.loops m
  pub loop_out : (m : ℕ) → Has c.loops m → m ≢ l → Has b.loops m
  pub new_loop_face : loop_face c l ≡ loop_face b (owner b x)
  pub old_loop_face : (m : ℕ) → m ≢ l → loop_face c m ≡ loop_face b m
  pub lone_cut : next b x ≡ y → lone c l ≡ Some (start b y)
  pub lone_uncut : next b x ≢ y → lone c l ≡ None
  pub lone_emptied : next b y ≡ x → lone c (owner b x) ≡ Some (start b x)
  pub lone_kept : next b y ≢ x → lone c (owner b x) ≡ lone b (owner b x)
  pub old_loop : (m : ℕ) → m ≢ l → m ≢ owner b x → row c.loops m ≡ row b.loops m
  pub same_faces : c.faces ≡ b.faces
  pub same_vertices : c.vertices ≡ b.vertices
  pub same_shells : c.shells ≡ b.shells
  pub same_handles : c.handles ≡ b.handles
  pub edge_count : count c.edges + 1 ≡ count b.edges
  pub loop_count : count c.loops ≡ count b.loops + 1
  pub edge_length : length c.edges ≡ length b.edges
  pub loop_length : length c.loops ≡ length b.loops

-- where a vertex v is lone on the loop m: on the new loop, on the old one, or as it was
data LoneOn (b : Boundary) (x y l m v : ℕ) : Type 0 where
  cut : m ≡ l → next b x ≡ y → v ≡ start b y → LoneOn b x y l m v
  rest : m ≡ owner b x → next b y ≡ x → v ≡ start b x → LoneOn b x y l m v
  old : m ≢ l → lone b m ≡ Some v → LoneOn b x y l m v

-- two half-edges of one loop do not lead to themselves
not_self : (b : Boundary) → Sound b → (x y : ℕ) → Used b x → Used b y → x ≢ y → owner b x ≡ owner b y → next b x ≢ x
not_self b s x y u v ne q e = ne (sym (alone_in (loop_rings b s) x y u v e (sym q)))

-- a walk from x that is not at x is past it
past_first : (f : ℕ → ℕ) (x m z i : ℕ) → i < suc m → walk f i x ≡ z → z ≢ x → OnRun f (f x) m z
past_first f x m z zero lt e ne = absurd (ne (sym e))
past_first f x m z (suc i) lt e ne = record { place = i; within = omega arith; is = walk_first f i x ∙ e }

module _ (b c : Boundary) (x y l : ℕ) (s : Sound b) (a : Asked b x y l) (d : Left b c x y l) where
  abbrev ol : ℕ
  ol = owner b x

  y_used : Used b y
  y_used = d.gone.y_used

  x_not_y : x ≢ y
  x_not_y = halves_apart b c x y s d.gone

  old_rings : Rings (next b) (Used b) (owner b)
  old_rings = loop_rings b s

  old_turns : Rings (turn b) (Used b) (start b)
  old_turns = vertex_rings b s

  ol_used : Has b.loops ol
  ol_used = s.named.owner_used x a.x_used

  not_l : (m : ℕ) → Has b.loops m → m ≢ l
  not_l m u = has_apart b.loops m l u a.loop_free

  fresh : (i : ℕ) → Used b i → owner b i ≢ l
  fresh = owner_not_free b s l a.loop_free

  pub after_x_used : Used b (next b x)
  after_x_used = s.named.next_used x a.x_used

  after_x_owner : owner b (next b x) ≡ ol
  after_x_owner = old_rings.label x a.x_used

  pub after_y_owner : owner b (next b y) ≡ ol
  after_y_owner = old_rings.label y y_used ∙ sym a.together

  pub x_not_self : next b x ≢ x
  x_not_self = not_self b s x y a.x_used y_used x_not_y a.together

  pub y_not_self : next b y ≢ y
  y_not_self = not_self b s y x y_used a.x_used (λ e. x_not_y (sym e)) (sym a.together)

  -- the run from the half-edge after x to just before y
  pub met : Met (next b) 384 (next b x) y
  met = loop_meets b s (next b x) y after_x_used y_used (after_x_owner ∙ a.together)

  few : met.steps ≤ 384
  few = omega (arith, met.few)

  abbrev On : ℕ → Type 0
  On = OnRun (next b) (next b x) met.steps

  -- and with y itself
  abbrev Through : ℕ → Type 0
  Through = OnRun (next b) (next b x) (suc met.steps)

  on_through : (i : ℕ) → On i → Through i
  on_through i o = record { place = o.place; within = omega (arith, o.within); is = o.is }

  through_on : (i : ℕ) → Through i → i ≢ y → On i
  through_on i o ne = elim (ℕ_discrete o.place met.steps) [
    | yes e ↦ absurd (ne (sym o.is ∙ ap (λ n. walk (next b) n (next b x)) e ∙ met.first.arrives))
    | no apart ↦ record { place = o.place; within = omega (arith, o.within); is = o.is }
  ]

  pub was_owner : (i : ℕ) → On i → owner b i ≡ ol
  was_owner i o = ap (owner b) (sym o.is) ∙ walk_label old_rings o.place (next b x) after_x_used ∙ after_x_owner

  pub on_owner : (i : ℕ) → Used b i → i ≢ x → i ≢ y → On i → owner c i ≡ l
  on_owner i u nx ny o = d.on_run i u nx ny (in_from_on (next b) 384 (next b x) y met.steps i met.first few o)

  pub off_owner : (i : ℕ) → Used b i → i ≢ x → i ≢ y → (On i → ⊥) → owner c i ≡ owner b i
  off_owner i u nx ny n = d.off_run i u nx ny (λ m. n (on_from_in (next b) 384 (next b x) y met.steps i met.first few m))

  -- the labels once the ring is split
  lab : ℕ → ℕ
  lab i = ite (on_run? (next b) (next b x) (suc met.steps) i) l (owner b i)

  lab_on : (i : ℕ) → Through i → lab i ≡ l
  unfolding lab
  lab_on i o = if_pos (on_run? (next b) (next b x) (suc met.steps) i) o l (owner b i)

  lab_off : (i : ℕ) → (Through i → ⊥) → lab i ≡ owner b i
  unfolding lab
  lab_off i n = if_neg (on_run? (next b) (next b x) (suc met.steps) i) n l (owner b i)

  split : Split (next b) (swap (next b) x y) (Used b) (owner b) lab x y met.steps l
  split = record {
    swapped = swapped_by_put a.x_used y_used x_not_y;
    apart = x_not_y;
    together = a.together;
    to_y = met.first;
    fresh = fresh;
    run_label = lab_on;
    other_label = λ i u n. lab_off i n;
  }

  owner_is_lab : (i : ℕ) → Used b i → i ≢ x → i ≢ y → owner c i ≡ lab i
  owner_is_lab i u nx ny = elim (on_run? (next b) (next b x) (suc met.steps) i) [
    | yes o ↦ on_owner i u nx ny (through_on i o ny) ∙ sym (lab_on i o)
    | no n ↦ off_owner i u nx ny (λ o. n (on_through i o)) ∙ sym (lab_off i n)
  ]

  new_rings : Rings (next c) (Used c) (owner c)
  new_rings = loops_split (erased b c x y s d.gone) old_rings split owner_is_lab

  new_turns : Rings (turn c) (Used c) (start c)
  new_turns = turns_left b c x y s d.gone

  -- a half-edge that is left
  pub was_used : (i : ℕ) → Used c i → Used b i
  was_used i u = (d.gone.in_use i u).0

  pub not_x : (i : ℕ) → Used c i → i ≢ x
  not_x i u = (d.gone.in_use i u).1

  pub not_y : (i : ℕ) → Used c i → i ≢ y
  not_y i u = (d.gone.in_use i u).2

  start_was : (i : ℕ) → Used c i → start c i ≡ start b i
  start_was = erased-start-was b c x y s d.gone

  pub owner_was : (i : ℕ) → Used c i → (On i × (owner c i ≡ l)) ⊎ ((On i → ⊥) × (owner c i ≡ owner b i))
  owner_was i u = elim (on_run? (next b) (next b x) met.steps i) [
    | yes o ↦ inl (o, on_owner i (was_used i u) (not_x i u) (not_y i u) o)
    | no n ↦ inr (n, off_owner i (was_used i u) (not_x i u) (not_y i u) n)
  ]

  -- an empty run
  none_on : next b x ≡ y → (i : ℕ) → On i → ⊥
  none_on e i o = met.first.not_before 0 (omega (arith, o.within)) e

  -- and the whole ring on the run, where y leads back to x
  all_on : next b y ≡ x → (z : ℕ) → Used b z → owner b z ≡ ol → z ≢ x → z ≢ y → On z
  all_on e z u q nx ny =
      let way = old_rings.one_ring x z a.x_used u (sym q) in
      let n : ℕ = met.steps in
      let round : walk (next b) (suc (suc n)) x ≡ x = ap (next b) (sym (walk_first (next b) n x) ∙ met.first.arrives) ∙ e in
      let o = cycle_covers (next b) x (suc (suc n)) (omega arith) round way.steps in
      through_on z (past_first (next b) x (suc n) z o.place o.within (o.is ∙ way.arrives) nx) ny

  -- the half-edge after x is on the run unless the run is empty, and the one after y is not
  pub after_x_on : next b x ≢ y → On (next b x)
  after_x_on ne = record { place = 0; within = some; is = refl }
    where
      not_zero : met.steps ≢ 0
      not_zero e = ne (ap (λ n. walk (next b) n (next b x)) (sym e) ∙ met.first.arrives)

      some : 0 < met.steps
      some = let nz : met.steps ≢ 0 = not_zero in omega arith

  pub after_y_off : On (next b y) → ⊥
  after_y_off o = go o.place o.within o.is
    where
      go : (i : ℕ) → i < met.steps → walk (next b) i (next b x) ≡ next b y → ⊥
      go zero lt e = x_not_y (injective old_rings x y a.x_used y_used e)
      go (suc i) lt e = met.first.not_before i (omega arith) (injective old_rings (walk (next b) i (next b x)) y (walk_used old_rings i (next b x) after_x_used) y_used e)

  x_on : next b x ≢ y → Used c (next b x)
  x_on ne = d.gone.still_in_use (next b x) after_x_used x_not_self ne

  y_on : next b y ≢ x → Used c (next b y)
  y_on ne = d.gone.still_in_use (next b y) (s.named.next_used y y_used) ne y_not_self

  -- where a vertex is lone
  pub lone_other : (m : ℕ) → m ≢ l → m ≢ ol → lone c m ≡ lone b m
  lone_other m nl other = ap lone_of (d.old_loop m nl other)

  lone_was : (m v : ℕ) → lone c m ≡ Some v → LoneOn b x y l m v
  lone_was m v e = elim (ℕ_discrete m l) [
    | yes q ↦ elim (ℕ_discrete (next b x) y) [
      | yes t ↦ cut q t (some_same (ap (lone c) (sym q) ∙ e) (d.lone_cut t))
      | no n ↦ absurd (none_not_some (ap (lone c) q ∙ d.lone_uncut n) e)
    ]
    | no ne ↦ elim (ℕ_discrete m ol) [
      | no other ↦ old ne (sym (lone_other m ne other) ∙ e)
      | yes q ↦ elim (ℕ_discrete (next b y) x) [
        | yes t ↦ rest q t (some_same (ap (lone c) (sym q) ∙ e) (d.lone_emptied t))
        | no n ↦ old ne (ap (lone b) q ∙ sym (d.lone_kept n) ∙ ap (lone c) (sym q) ∙ e)
      ]
    ]
  ]

  new_sizes : Sizes c
  new_sizes = record {
    shells = ap length d.same_shells ∙ s.sizes.shells;
    faces = ap length d.same_faces ∙ s.sizes.faces;
    loops = d.loop_length ∙ s.sizes.loops;
    edges = d.edge_length ∙ s.sizes.edges;
    vertices = ap length d.same_vertices ∙ s.sizes.vertices;
  }

  vertex_in : (v : ℕ) → Has b.vertices v → Has c.vertices v
  vertex_in v u = subst (λ t. Has t v) (sym d.same_vertices) u

  face_in : (g : ℕ) → Has b.faces g → Has c.faces g
  face_in g u = subst (λ t. Has t g) (sym d.same_faces) u

  face_out : (g : ℕ) → Has c.faces g → Has b.faces g
  face_out g u = subst (λ t. Has t g) d.same_faces u

  shell_same : (g : ℕ) → face_shell c g ≡ face_shell b g
  shell_same g = ap (λ t. shell_of (row t g)) d.same_faces

  outer_same : (g : ℕ) → outer_of (row c.faces g) ≡ outer_of (row b.faces g)
  outer_same g = ap (λ t. outer_of (row t g)) d.same_faces

  lone_start : (m v : ℕ) → LoneOn b x y l m v → Has b.vertices v
  lone_start m v (cut q t e) = subst (Has b.vertices) (sym e) (s.named.start_used y y_used)
  lone_start m v (rest q t e) = subst (Has b.vertices) (sym e) (s.named.start_used x a.x_used)
  lone_start m v (old ne e) = s.named.lone_used m v e

  new_named : Named c
  new_named = record {
    start_used = λ i u. vertex_in (start c i) (subst (Has b.vertices) (sym (start_was i u)) (s.named.start_used i (was_used i u)));
    next_used = new_rings.closed;
    owner_used = λ i u. elim (owner_was i u) [
      | inl o ↦ subst (Has c.loops) (sym o.1) d.loop_l
      | inr o ↦ subst (Has c.loops) (sym o.1) (d.loop_in (owner b i) (s.named.owner_used i (was_used i u)))
    ];
    lone_used = λ m v e. vertex_in v (lone_start m v (lone_was m v e));
    face_used = λ m u. elim (ℕ_discrete m l) [
      | yes e ↦ subst (Has c.faces) (sym (ap (loop_face c) e ∙ d.new_loop_face)) (face_in (loop_face b ol) (s.named.face_used ol ol_used))
      | no ne ↦ subst (Has c.faces) (sym (d.old_loop_face m ne)) (face_in (loop_face b m) (s.named.face_used m (d.loop_out m u ne)))
    ];
    shell_used = λ g u. subst (λ t. Has t (face_shell c g)) (sym d.same_shells) (subst (Has b.shells) (sym (shell_same g)) (s.named.shell_used g (face_out g u)));
    outer_used = λ g u. subst (Has c.loops) (sym (outer_same g)) (d.loop_in (outer_of (row b.faces g)) (s.named.outer_used g (face_out g u)));
  }

  -- a vertex is a start or lone
  at_x : Placed c (start b x)
  at_x = elim (ℕ_discrete (next b y) x) [
    | yes e ↦ inr (ol, d.lone_emptied e)
    | no ne ↦ inl (next b y, y_on ne, start_was (next b y) (y_on ne) ∙ after_y b c x y s d.gone)
  ]

  at_y : Placed c (start b y)
  at_y = elim (ℕ_discrete (next b x) y) [
    | yes e ↦ inr (l, d.lone_cut e)
    | no ne ↦ inl (next b x, x_on ne, start_was (next b x) (x_on ne) ∙ after_x b c x y s d.gone)
  ]

  -- where a run is empty, no other half-edge starts at its vertex
  only_y : next b x ≡ y → (z : ℕ) → Used b z → start b z ≡ start b y → z ≡ y
  only_y e z u q = alone_in old_turns y z y_used u (ap (next b) d.gone.mate_y ∙ e) q

  only_x : next b y ≡ x → (z : ℕ) → Used b z → start b z ≡ start b x → z ≡ x
  only_x e z u q = alone_in old_turns x z a.x_used u (ap (next b) d.gone.mate_x ∙ e) q

  none_owned : (m v z : ℕ) → LoneOn b x y l m v → Used c z → owner c z ≢ m
  none_owned m v z (cut q t e) u r = elim (owner_was z u) [
    | inl o ↦ none_on t z o.0
    | inr o ↦ fresh z (was_used z u) (sym o.1 ∙ r ∙ q)
  ]
  none_owned m v z (rest q t e) u r = elim (owner_was z u) [
    | inl o ↦ not_l ol ol_used (sym q ∙ sym r ∙ o.1)
    | inr o ↦ o.0 (all_on t z (was_used z u) (sym o.1 ∙ r ∙ q) (not_x z u) (not_y z u))
  ]
  none_owned m v z (old ne e) u r = elim (owner_was z u) [
    | inl o ↦ ne (sym r ∙ o.1)
    | inr o ↦ s.lone.lone_alone m v z e (was_used z u) (sym o.1 ∙ r)
  ]

  none_starts : (m v z : ℕ) → LoneOn b x y l m v → Used c z → start b z ≢ v
  none_starts m v z (cut q t e) u r = not_y z u (only_y t z (was_used z u) (r ∙ e))
  none_starts m v z (rest q t e) u r = not_x z u (only_x t z (was_used z u) (r ∙ e))
  none_starts m v z (old ne e) u r = s.lone.not_both m v z e (was_used z u) r

  one_place : (m n v : ℕ) → LoneOn b x y l m v → LoneOn b x y l n v → m ≡ n
  one_place m n v (cut q t e) (cut p r w) = q ∙ sym p
  one_place m n v (cut q t e) (rest p r w) = absurd (x_not_y (only_y t x a.x_used (sym w ∙ e)))
  one_place m n v (cut q t e) (old p w) = absurd (s.lone.not_both n v y w y_used (sym e))
  one_place m n v (rest q t e) (cut p r w) = absurd (x_not_y (only_y r x a.x_used (sym e ∙ w)))
  one_place m n v (rest q t e) (rest p r w) = q ∙ sym p
  one_place m n v (rest q t e) (old p w) = absurd (s.lone.not_both n v x w a.x_used (sym e))
  one_place m n v (old q e) (cut p r w) = absurd (s.lone.not_both m v y e y_used (sym w))
  one_place m n v (old q e) (rest p r w) = absurd (s.lone.not_both m v x e a.x_used (sym w))
  one_place m n v (old q e) (old p w) = s.lone.one_loop m n v e w

  -- each loop without a lone vertex has a half-edge
  half_on_l : lone c l ≡ None → HasHalf c l
  half_on_l e = (next b x, x_on ne, on_owner (next b x) after_x_used x_not_self ne (after_x_on ne))
    where
      ne : next b x ≢ y
      ne t = none_not_some e (d.lone_cut t)

  half_on_ol : lone c ol ≡ None → HasHalf c ol
  half_on_ol e = (next b y, y_on ne, off_owner (next b y) (s.named.next_used y y_used) ne y_not_self after_y_off ∙ after_y_owner)
    where
      ne : next b y ≢ x
      ne t = none_not_some e (d.lone_emptied t)

  half_on_other : (m : ℕ) → m ≢ ol → HasHalf b m → HasHalf c m
  half_on_other m ne o =
      let nx : o.0 ≢ x = λ e. ne (sym o.2 ∙ ap (owner b) e) in
      let ny : o.0 ≢ y = λ e. ne (sym o.2 ∙ ap (owner b) e ∙ sym a.together) in
      (o.0, d.gone.still_in_use o.0 o.1 nx ny, off_owner o.0 o.1 nx ny (λ r. ne (sym o.2 ∙ was_owner o.0 r)) ∙ o.2)

  new_lone : LoneVertices c
  new_lone = record {
    lone_alone = λ m v z e u. none_owned m v z (lone_was m v e) u;
    else_half_edge = λ m u e. elim (ℕ_discrete m l) [
      | yes q ↦ let z = half_on_l (ap (lone c) (sym q) ∙ e) in (z.0, z.1, z.2 ∙ sym q)
      | no nl ↦ elim (ℕ_discrete m ol) [
        | yes q ↦ let z = half_on_ol (ap (lone c) (sym q) ∙ e) in (z.0, z.1, z.2 ∙ sym q)
        | no ne ↦ half_on_other m ne (s.lone.else_half_edge m (d.loop_out m u nl) (sym (lone_other m nl ne) ∙ e))
      ]
    ];
    start_or_lone = λ v u. elim (s.lone.start_or_lone v (subst (λ t. Has t v) d.same_vertices u)) [
      | inl z ↦ subst (Placed c) z.2 (starts_placed b c x y s d.gone at_x at_y z.0 z.1)
      | inr m ↦ inr (m.0, lone_other m.0 (not_l m.0 (lone_has b m.0 v m.1)) (lone_not_owner b s x a.x_used m.0 v m.1) ∙ m.1)
    ];
    one_loop = λ m n v e r. one_place m n v (lone_was m v e) (lone_was n v r);
    not_both = λ m v z e u t. none_starts m v z (lone_was m v e) u (sym (start_was z u) ∙ t);
  }

  new_outer : Outer c
  new_outer = record {
    lies_in = λ g u.
        let o : Has b.loops (outer_of (row b.faces g)) = s.named.outer_used g (face_out g u) in
        ap (loop_face c) (outer_same g) ∙ d.old_loop_face (outer_of (row b.faces g)) (not_l (outer_of (row b.faces g)) o) ∙ s.outer.lies_in g (face_out g u);
    some_face = λ i u.
        let g = s.outer.some_face i (subst (λ t. Has t i) d.same_shells u) in
        (g.0, face_in g.0 g.1, shell_same g.0 ∙ g.2);
  }

  -- every half-edge stays in its shell
  old_shell : (i : ℕ) → Used c i → loop_shell c (owner c i) ≡ loop_shell b (owner b i)
  old_shell i u = elim (owner_was i u) [
    | inl o ↦ ap (loop_shell c) o.1 ∙ ap (face_shell c) d.new_loop_face ∙ shell_same (loop_face b ol) ∙ ap (loop_shell b) (sym (was_owner i o.0))
    | inr o ↦ ap (loop_shell c) o.1 ∙ ap (face_shell c) (d.old_loop_face (owner b i) (fresh i (was_used i u))) ∙ shell_same (loop_face b (owner b i))
  ]

  new_one_shell : OneShell c
  new_one_shell i u = old_shell i u ∙ s.one_shell i (was_used i u) ∙ sym (old_shell (mate i) (used_mate c i u))

  new_balanced : Balanced c
  new_balanced = omega (arith, s.balanced, d.edge_count, d.loop_count, ap count d.same_faces, d.same_handles, ap count d.same_vertices, ap count d.same_shells)

  new_sound : Sound c
  new_sound = record {
    sizes = new_sizes;
    named = new_named;
    continues = continues_by c new_rings new_turns;
    loops = loop_rings_by c new_rings;
    vertices = vertex_rings_by c new_turns;
    lone = new_lone;
    outer = new_outer;
    one_shell = new_one_shell;
    balanced = new_balanced;
  }

-- the loops with the new one
abbrev new_loop : Boundary → ℕ → Loop
new_loop b x = record { face = loop_face b (owner b x); lone = cut_off b x }

abbrev with_new : Boundary → ℕ → ℕ → List (Option Loop)
with_new b x l = set b.loops l (Some (new_loop b x))

-- y leads back to x
abbrev back : Boundary → ℕ → ℕ → Bool
back b x y = eqb (next b y) x

abbrev run_edges : Boundary → ℕ → ℕ → ℕ → List (Option Edge)
run_edges b x y l = owned_in b.edges (run (next b) 384 (next b x) y) l

-- the operator with the change of the loops written out
abbrev pub plain : Boundary → ℕ → ℕ → ℕ → Boundary
plain b x y l = record {
  shells = b.shells;
  faces = b.faces;
  loops = lone_put (back b x y) (with_new b x l) (owner b x) (start b x);
  edges = erased_in (run_edges b x y l) y (next b x) x (next b y) x;
  vertices = b.vertices;
  handles = b.handles;
}

pub kemr_is : (b : Boundary) (h l : ℕ) → kemr b h l ≡ plain b h (mate h) l
kemr_is b h l =
    ap (λ w. clear_edge w (h / 2))
    (emptied_is (back b h (mate h)) (put_loop (led (led (owned b (run (next b) 384 (next b h) (mate h)) l) (mate h) (next b h)) h (next b (mate h))) l (new_loop b h)) (owner b h) (start b h))

-- the operator leaves that
module _ (b : Boundary) (h l : ℕ) (s : Sound b) (a : Asked b h (mate h) l) (ll : l < 96) where
  abbrev y : ℕ
  y = mate h

  abbrev es₁ : List (Option Edge)
  es₁ = run_edges b h y l

  alike : Alike b.edges es₁
  alike = owned_alike b.edges (run (next b) 384 (next b h) y) l

  mate_used_too : Used b y
  mate_used_too = used_mate b h a.x_used

  h_not_y : h ≢ y
  h_not_y e = mate_apart h (sym e)

  h_not_self : next b h ≢ h
  h_not_self = not_self b s h y a.x_used mate_used_too h_not_y a.together

  mate_not_self : next b y ≢ y
  mate_not_self = not_self b s y h mate_used_too a.x_used (mate_apart h) (sym a.together)

  is_gone : Gone b (plain b h y l) h y
  is_gone = record {
    x_used = a.x_used;
    y_used = mate_used_too;
    mate_x = refl;
    mate_y = mate_mate h;
    in_use = erased_in_use b.edges es₁ y (next b h) h (next b y) h alike;
    still_in_use = erased_still b.edges es₁ y (next b h) h (next b y) h alike;
    old_start = erased_start b.edges es₁ y (next b h) h (next b y) h alike;
    to_x = λ i u nx ny e. erased_second b.edges es₁ y (next b h) h (next b y) h alike i u nx ny h_not_y e ∙ sym (past_on b h y mate_not_self);
    to_y = λ i u nx ny e. erased_first b.edges es₁ y (next b h) h (next b y) h alike i u nx ny h_not_self e ∙ sym (past_on b y h h_not_self);
    elsewhere = λ i u nx ny mx my. erased_other b.edges es₁ y (next b h) h (next b y) h alike i u nx ny my mx;
  }

  own_used : Has b.loops (owner b h)
  own_used = s.named.owner_used h a.x_used

  own_not_l : owner b h ≢ l
  own_not_l = has_apart b.loops (owner b h) l own_used a.loop_free

  room : l < length b.loops
  room = omega (arith, s.sizes.loops)

  own_still : Has (with_new b h l) (owner b h)
  own_still = has_put_other_in b.loops l (owner b h) (new_loop b h) own_used

  row_l : row (with_new b h l) l ≡ Some (new_loop b h)
  row_l = row_put_same b.loops l (Some (new_loop b h)) room

  row_other : (m : ℕ) → m ≢ l → row (with_new b h l) m ≡ row b.loops m
  row_other m ne = row_put_other b.loops l m (Some (new_loop b h)) ne

  lone_new : lone (plain b h y l) l ≡ cut_off b h
  lone_new = ap lone_of (lone_put_other (back b h y) (with_new b h l) (owner b h) (start b h) l (λ e. own_not_l (sym e)) ∙ row_l)

  face_same : (m : ℕ) → loop_face (plain b h y l) m ≡ face_of (row (with_new b h l) m)
  face_same m = lone_put_face (back b h y) (with_new b h l) (owner b h) (start b h) m own_still

  out : (m : ℕ) → Has (plain b h y l).loops m → m ≢ l → Has b.loops m
  out m u ne = elim (has_put_cases b.loops l m (new_loop b h) (lone_put_has_out (back b h y) (with_new b h l) (owner b h) (start b h) m own_still u)) [
    | inl e ↦ absurd (ne e)
    | inr v ↦ v
  ]

  pub is_left : Left b (plain b h y l) h y l
  is_left = record {
    gone = is_gone;
    on_run = λ i u nx ny o. erased_owner b.edges es₁ y (next b h) h (next b y) h alike i u nx ny ∙ owned_hit b.edges (run (next b) 384 (next b h) y) l i u o;
    off_run = λ i u nx ny n. erased_owner b.edges es₁ y (next b h) h (next b y) h alike i u nx ny ∙ owned_miss b.edges (run (next b) 384 (next b h) y) l i n;
    loop_l = lone_put_has_in (back b h y) (with_new b h l) (owner b h) (start b h) l (has_put_same b.loops l (new_loop b h) room);
    loop_in = λ m u. lone_put_has_in (back b h y) (with_new b h l) (owner b h) (start b h) m (has_put_other_in b.loops l m (new_loop b h) u);
    loop_out = out;
    new_loop_face = face_same l ∙ ap face_of row_l;
    old_loop_face = λ m ne. face_same m ∙ ap face_of (row_other m ne);
    lone_cut = λ e. lone_new ∙ cond-true (eqb (next b h) y) (Some (start b y)) None (eq-eqb (next b h) y e);
    lone_uncut = λ ne. lone_new ∙ cond-false (eqb (next b h) y) (Some (start b y)) None (ne_eqb (next b h) y ne);
    lone_emptied = λ e. lone_put_true (back b h y) (with_new b h l) (owner b h) (start b h) own_still (eq-eqb (next b y) h e);
    lone_kept = λ ne. ap lone_of (lone_put_false (back b h y) (with_new b h l) (owner b h) (start b h) (owner b h) (ne_eqb (next b y) h ne) ∙ row_other (owner b h) own_not_l);
    old_loop = λ m nl no. lone_put_other (back b h y) (with_new b h l) (owner b h) (start b h) m no ∙ row_other m nl;
    same_faces = refl;
    same_vertices = refl;
    same_shells = refl;
    same_handles = refl;
    edge_count = erased_count b.edges es₁ y (next b h) h (next b y) h alike a.x_used;
    loop_count = lone_put_count (back b h y) (with_new b h l) (owner b h) (start b h) own_still ∙ count_put_free b.loops l (new_loop b h) room a.loop_free;
    edge_length = erased_length b.edges es₁ y (next b h) h (next b y) h alike;
    loop_length = lone_put_length (back b h y) (with_new b h l) (owner b h) (start b h) ∙ length_put b.loops l (Some (new_loop b h));
  }

pub kemr_keeps : (b : Boundary) (h l : ℕ) → Sound b → h < 384 → l < 96 → kemr_refusal b h l ≡ None → Sound (kemr b h l)
kemr_keeps b h l s lh ll q =
    let a = asked b h l q in
    subst Sound (sym (kemr_is b h l)) (new_sound b (plain b h (mate h) l) h (mate h) l s a (is_left b h l s a ll))
