-- An edge drawn across a loop keeps the rules: the run from h to just before j takes the new loop of the new face, and the rest stays.
use Rattle.std.proofs.Common.{◌≡◌, ℕ, suc, ◌+◌, ◌*◌, ◌/◌, ◌<◌, ◌≤◌, not, ◌&&◌, T, eqb, ◌≢◌, ◌⊎◌, List, length, is_some, Some, None, Option, sym, refl, ap, ◌∙◌, subst, inl, inr, arith}
use native.Mathlib.Decide.{ℕ_discrete}
use Rattle.std.specs.List.{ContainsAt as In}
use Rattle.std.proofs.lemmas.Bool.{eqb-true, and_parts}
use Rattle.boundary.specs.declared.Edge.{Edge}
use Rattle.boundary.specs.declared.Boundary.{Boundary}
use Rattle.boundary.specs.declared.Refusal.TheVariants.{Unused, Taken, Condition}
use Rattle.boundary.specs.Tables.{row, count, half, half_in, half_used, start, next, owner, mate, lone, lone_of, face_of, shell_of, outer_of, loop_face, face_shell, loop_shell, run}
use Rattle.boundary.specs.Changes.{owned_in}
use Rattle.boundary.specs.Operators.{half_edge, edge, mef}
use Rattle.boundary.specs.Refusals.{free, mef_refusal}
use Rattle.rings.specs.Rings.{Rings, First, OnRun}
use Rattle.rings.specs.Euler.{Drawn, LoopLabels, VertexLabels}
use Rattle.rings.proofs.Facts.{walk_label, before, injective}
use Rattle.rings.proofs.Walks.{on_run?}
use Rattle.rings.proofs.Euler.{loops_stay, vertices_stay}
use Rattle.rules.specs.Rules.{Has, Used, turn, Sizes, Named, LoneVertices, Outer, OneShell, Balanced, Sound}
use Rattle.rules.proofs.Rows.{true_T, not_eqb, unless_none, free_not_has, row_has, row_put_same, row_put_other, length_put, lone_has, none_not_some, some_same, has_apart}
use Rattle.rules.proofs.Counts.{count_put_free}
use Rattle.rules.proofs.Halves.{mate_of_even, mate_of_odd, new_edge, new_even, put_even, put_odd, half_put_other, put_used_even, put_used_odd, put_used_in, put_used_cases, owned_hit, owned_miss, used_mate}
use Rattle.rules.proofs.RulesAsRings.{paired, loop_rings, vertex_rings, loop_rings_by, vertex_rings_by, continues_by, HasHalf, owner_not_free}
use Rattle.rules.proofs.Runs.{Met, loop_meets, in_from_on, on_from_in, last_step}
use Rattle.rules.proofs.LedEdges.{Alike, owned_alike, led_twice, twice_has_in, twice_has_out, twice_length, twice_count, twice_start, twice_owner, twice_first, twice_second, twice_other}

-- what an accepted edit says
pub record Asked (b : Boundary) (h j k f l : ℕ) : Type 0 where
  pub h_used : Used b h
  pub j_used : Used b j
  pub edge_free : Has b.edges k → ⊥
  pub face_free : Has b.faces f → ⊥
  pub loop_free : Has b.loops l → ⊥
  pub apart : h ≢ j
  pub together : owner b h ≡ owner b j

pub asked : (b : Boundary) (h j k f l : ℕ) → mef_refusal b h j k f l ≡ None → Asked b h j k f l
asked b h j k f l q =
    let r = unless_none (half_used b h && half_used b j) Unused _ q in
    let t = unless_none (free b.edges k && (free b.faces f && free b.loops l)) Taken _ r.1 in
    let w = unless_none (not (eqb h j) && eqb (owner b h) (owner b j)) Condition None t.1 in
    let halves = and_parts (half_used b h) (half_used b j) r.0 in
    let frees = and_parts (free b.edges k) (free b.faces f && free b.loops l) t.0 in
    let others = and_parts (free b.faces f) (free b.loops l) frees.1 in
    let rest = and_parts (not (eqb h j)) (eqb (owner b h) (owner b j)) w.0 in
    record {
      h_used = true_T (half_used b h) halves.0;
      j_used = true_T (half_used b j) halves.1;
      edge_free = free_not_has b.edges k frees.0;
      face_free = free_not_has b.faces f others.0;
      loop_free = free_not_has b.loops l others.1;
      apart = not_eqb h j rest.0;
      together = eqb-true (owner b h) (owner b j) rest.1;
    }

-- the boundary c has of b what a drawn edge leaves: x follows what led to h, and y what led to j
pub record Made (b c : Boundary) (h j x y f l : ℕ) : Type 0 where
  pub mate_x : mate x ≡ y
  pub mate_y : mate y ≡ x
  pub x_new : Used b x → ⊥
  pub in_use : (i : ℕ) → Used c i → (i ≡ x) ⊎ ((i ≡ y) ⊎ Used b i)
  pub x_in_use : Used c x
  pub y_in_use : Used c y
  pub still_in_use : (i : ℕ) → Used b i → Used c i
  pub x_half : half c x ≡ half_edge (start b h) j (owner b h)
  pub y_half : half c y ≡ half_edge (start b j) h l
  pub old_start : (i : ℕ) → Used b i → start c i ≡ start b i
  pub to_h : (i : ℕ) → Used b i → next b i ≡ h → next c i ≡ x
  pub to_j : (i : ℕ) → Used b i → next b i ≡ j → next c i ≡ y
  pub elsewhere : (i : ℕ) → Used b i → next b i ≢ h → next b i ≢ j → next c i ≡ next b i
  pub on_run : (i : ℕ) → Used b i → In (run (next b) 384 h j) i → owner c i ≡ l
  pub off_run : (i : ℕ) → Used b i → (In (run (next b) 384 h j) i → ⊥) → owner c i ≡ owner b i
  pub new_loop : row c.loops l ≡ Some (record { face = f; lone = None })
  pub old_loop : (i : ℕ) → i ≢ l → row c.loops i ≡ row b.loops i
  pub new_face : row c.faces f ≡ Some (record { shell = loop_shell b (owner b h); outer = l })
  pub old_face : (i : ℕ) → i ≢ f → row c.faces i ≡ row b.faces i
  pub same_vertices : c.vertices ≡ b.vertices
  pub same_shells : c.shells ≡ b.shells
  pub same_handles : c.handles ≡ b.handles
  pub edge_count : count c.edges ≡ count b.edges + 1
  pub loop_count : count c.loops ≡ count b.loops + 1
  pub face_count : count c.faces ≡ count b.faces + 1
  pub edge_length : length c.edges ≡ length b.edges
  pub loop_length : length c.loops ≡ length b.loops
  pub face_length : length c.faces ≡ length b.faces

module _ (b c : Boundary) (h j k x y f l : ℕ) (s : Sound b) (a : Asked b h j k f l) (d : Made b c h j x y f l) where
  old_rings : Rings (next b) (Used b) (owner b)
  old_rings = loop_rings b s

  -- the half-edges before h and before j
  before_h : (p : ℕ) × Used b p × (next b p ≡ h)
  before_h = before old_rings h a.h_used

  before_j : (q : ℕ) × Used b q × (next b q ≡ j)
  before_j = before old_rings j a.j_used

  abbrev p : ℕ
  p = before_h.0

  abbrev q : ℕ
  q = before_j.0

  drawn : Drawn (next b) (next c) mate mate (Used b) (Used c) p q x y
  drawn = record {
    p_used = before_h.1;
    q_used = before_j.1;
    p_not_q = λ e. a.apart (sym before_h.2 ∙ ap (next b) e ∙ before_j.2);
    x_new = d.x_new;
    next_p = d.to_h p before_h.1 before_h.2;
    next_x = ap (λ e. e.next) d.x_half ∙ sym before_j.2;
    next_q = d.to_j q before_j.1 before_j.2;
    next_y = ap (λ e. e.next) d.y_half ∙ sym before_h.2;
    next_other = λ i u np nq. d.elsewhere i u (λ e. np (injective old_rings i p u before_h.1 (e ∙ sym before_h.2))) (λ e. nq (injective old_rings i q u before_j.1 (e ∙ sym before_j.2)));
    mate_x = d.mate_x;
    mate_y = d.mate_y;
    mate_other = λ i u. refl;
    in_use = d.in_use;
    x_in_use = d.x_in_use;
    y_in_use = d.y_in_use;
    still_in_use = d.still_in_use;
  }

  -- the run
  pub met : Met (next b) 384 h j
  met = loop_meets b s h j a.h_used a.j_used a.together

  few : met.steps ≤ 384
  few = omega (arith, met.few)

  abbrev On : ℕ → Type 0
  On = OnRun (next b) h met.steps

  pub on? : (i : ℕ) → Dec (On i)
  on? = on_run? (next b) h met.steps

  pub on_owner : (i : ℕ) → Used b i → On i → owner c i ≡ l
  on_owner i u o = d.on_run i u (in_from_on (next b) 384 h j met.steps i met.first few o)

  pub off_owner : (i : ℕ) → Used b i → (On i → ⊥) → owner c i ≡ owner b i
  off_owner i u n = d.off_run i u (λ m. n (on_from_in (next b) 384 h j met.steps i met.first few m))

  pub was_owner : (i : ℕ) → On i → owner b i ≡ owner b h
  was_owner i o = ap (owner b) (sym o.is) ∙ walk_label old_rings o.place h a.h_used

  sooner : (n : ℕ) × (met.steps ≡ suc n) × First (next b) h q n
  sooner = last_step old_rings h j q met.steps a.h_used before_j.1 before_j.2 a.apart met.first

  loop_labels : LoopLabels (next b) (Used b) (owner b) (owner c) p q x y sooner.0 l
  loop_labels = record {
    together = sym (old_rings.label p before_h.1) ∙ ap (owner b) before_h.2 ∙ a.together ∙ ap (owner b) (sym before_j.2) ∙ old_rings.label q before_j.1;
    to_q = subst (λ z. First (next b) z q sooner.0) (sym before_h.2) sooner.2;
    fresh = owner_not_free b s l a.loop_free;
    x_label = ap (λ e. e.owner) d.x_half ∙ ap (owner b) (sym before_h.2) ∙ old_rings.label p before_h.1;
    y_label = ap (λ e. e.owner) d.y_half;
    run_label = λ i u o. on_owner i u (subst (λ m. OnRun (next b) h m i) (sym sooner.1) (subst (λ z. OnRun (next b) z (suc sooner.0) i) before_h.2 o));
    other_label = λ i u n. off_owner i u (λ o. n (subst (λ z. OnRun (next b) z (suc sooner.0) i) (sym before_h.2) (subst (λ m. OnRun (next b) h m i) sooner.1 o)));
  }

  vertex_labels : VertexLabels (Used b) mate (start b) (start c) p q x y
  vertex_labels = record {
    x_label = ap (λ e. e.start) d.x_half ∙ ap (start b) (sym before_h.2) ∙ s.continues.goes_on p before_h.1;
    y_label = ap (λ e. e.start) d.y_half ∙ ap (start b) (sym before_j.2) ∙ s.continues.goes_on q before_j.1;
    other_label = d.old_start;
  }

  new_rings : Rings (next c) (Used c) (owner c)
  new_rings = loops_stay drawn old_rings loop_labels

  new_turns : Rings (turn c) (Used c) (start c)
  new_turns = vertices_stay drawn (paired b) (vertex_rings b s) vertex_labels

  -- each half-edge starts where an old one does, and lies on the new loop or where an old one lay
  start_of : (i : ℕ) → Used c i → (z : ℕ) × Used b z × (start c i ≡ start b z)
  start_of i u = elim (d.in_use i u) [
    | inl e ↦ (h, a.h_used, ap (start c) e ∙ ap (λ r. r.start) d.x_half)
    | inr more ↦ elim more [
      | inl e ↦ (j, a.j_used, ap (start c) e ∙ ap (λ r. r.start) d.y_half)
      | inr v ↦ (i, v, d.old_start i v)
    ]
  ]

  owner_of : (i : ℕ) → Used c i → (owner c i ≡ l) ⊎ ((z : ℕ) × Used b z × (owner c i ≡ owner b z))
  owner_of i u = elim (d.in_use i u) [
    | inl e ↦ inr (h, a.h_used, ap (owner c) e ∙ ap (λ r. r.owner) d.x_half)
    | inr more ↦ elim more [
      | inl e ↦ inl (ap (owner c) e ∙ ap (λ r. r.owner) d.y_half)
      | inr v ↦ elim (on? i) [ yes o ↦ inl (on_owner i v o) | no n ↦ inr (i, v, off_owner i v n) ]
    ]
  ]

  -- loops and faces: the old ones as they were, and the new ones
  not_l : (i : ℕ) → Has b.loops i → i ≢ l
  not_l i u = has_apart b.loops i l u a.loop_free

  not_f : (i : ℕ) → Has b.faces i → i ≢ f
  not_f i u = has_apart b.faces i f u a.face_free

  loop_in : (i : ℕ) → Has b.loops i → Has c.loops i
  loop_in i u = subst (λ r. T (is_some r)) (sym (d.old_loop i (not_l i u))) u

  loop_l : Has c.loops l
  loop_l = row_has c.loops l _ d.new_loop

  loop_out : (i : ℕ) → Has c.loops i → i ≢ l → Has b.loops i
  loop_out i u ne = subst (λ r. T (is_some r)) (d.old_loop i ne) u

  face_in : (i : ℕ) → Has b.faces i → Has c.faces i
  face_in i u = subst (λ r. T (is_some r)) (sym (d.old_face i (not_f i u))) u

  face_f : Has c.faces f
  face_f = row_has c.faces f _ d.new_face

  face_out : (i : ℕ) → Has c.faces i → i ≢ f → Has b.faces i
  face_out i u ne = subst (λ r. T (is_some r)) (d.old_face i ne) u

  lone_l : lone c l ≡ None
  lone_l = ap lone_of d.new_loop

  pub lone_same : (i : ℕ) → i ≢ l → lone c i ≡ lone b i
  lone_same i ne = ap lone_of (d.old_loop i ne)

  lone_was : (i v : ℕ) → lone c i ≡ Some v → (i ≢ l) × (lone b i ≡ Some v)
  lone_was i v e = elim (ℕ_discrete i l) [
    | yes q ↦ absurd (none_not_some (ap (lone c) q ∙ lone_l) e)
    | no ne ↦ (ne, sym (lone_same i ne) ∙ e)
  ]

  loop_face_l : loop_face c l ≡ f
  loop_face_l = ap face_of d.new_loop

  loop_face_same : (i : ℕ) → i ≢ l → loop_face c i ≡ loop_face b i
  loop_face_same i ne = ap face_of (d.old_loop i ne)

  face_shell_f : face_shell c f ≡ loop_shell b (owner b h)
  face_shell_f = ap shell_of d.new_face

  face_shell_same : (i : ℕ) → i ≢ f → face_shell c i ≡ face_shell b i
  face_shell_same i ne = ap shell_of (d.old_face i ne)

  outer_f : outer_of (row c.faces f) ≡ l
  outer_f = ap outer_of d.new_face

  outer_same : (i : ℕ) → i ≢ f → outer_of (row c.faces i) ≡ outer_of (row b.faces i)
  outer_same i ne = ap outer_of (d.old_face i ne)

  shell_of_l : loop_shell c l ≡ loop_shell b (owner b h)
  shell_of_l = ap (face_shell c) loop_face_l ∙ face_shell_f

  shell_of_old : (i : ℕ) → Has b.loops i → loop_shell c i ≡ loop_shell b i
  shell_of_old i u = ap (face_shell c) (loop_face_same i (not_l i u)) ∙ face_shell_same (loop_face b i) (not_f (loop_face b i) (s.named.face_used i u))

  new_sizes : Sizes c
  new_sizes = record {
    shells = ap length d.same_shells ∙ s.sizes.shells;
    faces = d.face_length ∙ s.sizes.faces;
    loops = d.loop_length ∙ s.sizes.loops;
    edges = d.edge_length ∙ s.sizes.edges;
    vertices = ap length d.same_vertices ∙ s.sizes.vertices;
  }

  vertex_in : (v : ℕ) → Has b.vertices v → Has c.vertices v
  vertex_in v u = subst (λ t. Has t v) (sym d.same_vertices) u

  new_named : Named c
  new_named = record {
    start_used = λ i u. let z = start_of i u in vertex_in (start c i) (subst (Has b.vertices) (sym z.2) (s.named.start_used z.0 z.1));
    next_used = new_rings.closed;
    owner_used = λ i u. elim (owner_of i u) [
      | inl e ↦ subst (Has c.loops) (sym e) loop_l
      | inr z ↦ subst (Has c.loops) (sym z.2) (loop_in (owner b z.0) (s.named.owner_used z.0 z.1))
    ];
    lone_used = λ i v e. vertex_in v (s.named.lone_used i v (lone_was i v e).1);
    face_used = λ i u. elim (ℕ_discrete i l) [
      | yes e ↦ subst (Has c.faces) (sym (ap (loop_face c) e ∙ loop_face_l)) face_f
      | no ne ↦ subst (Has c.faces) (sym (loop_face_same i ne)) (face_in (loop_face b i) (s.named.face_used i (loop_out i u ne)))
    ];
    shell_used = λ i u. subst (λ t. Has t (face_shell c i)) (sym d.same_shells) (elim (ℕ_discrete i f) [
      | yes e ↦ subst (Has b.shells) (sym (ap (face_shell c) e ∙ face_shell_f)) (s.named.shell_used (loop_face b (owner b h)) (s.named.face_used (owner b h) (s.named.owner_used h a.h_used)))
      | no ne ↦ subst (Has b.shells) (sym (face_shell_same i ne)) (s.named.shell_used i (face_out i u ne))
    ]);
    outer_used = λ i u. elim (ℕ_discrete i f) [
      | yes e ↦ subst (Has c.loops) (sym (ap (λ z. outer_of (row c.faces z)) e ∙ outer_f)) loop_l
      | no ne ↦ subst (Has c.loops) (sym (outer_same i ne)) (loop_in (outer_of (row b.faces i)) (s.named.outer_used i (face_out i u ne)))
    ];
  }

  -- a loop that had half-edges has some still: x on the loop of h, and any other loop all of its own
  has_half : (i : ℕ) → i ≢ l → HasHalf b i → HasHalf c i
  has_half i ne o = elim (ℕ_discrete i (owner b h)) [
    | yes e ↦ (x, d.x_in_use, ap (λ r. r.owner) d.x_half ∙ sym e)
    | no apart ↦ (o.0, d.still_in_use o.0 o.1, off_owner o.0 o.1 (λ r. apart (sym o.2 ∙ was_owner o.0 r)) ∙ o.2)
  ]

  new_lone : LoneVertices c
  new_lone = record {
    lone_alone = λ i v z e u t. elim (owner_of z u) [
      | inl q ↦ (lone_was i v e).0 (sym t ∙ q)
      | inr o ↦ s.lone.lone_alone i v o.0 (lone_was i v e).1 o.1 (sym o.2 ∙ t)
    ];
    else_half_edge = λ i u e. elim (ℕ_discrete i l) [
      | yes q ↦ (y, d.y_in_use, ap (λ r. r.owner) d.y_half ∙ sym q)
      | no ne ↦ has_half i ne (s.lone.else_half_edge i (loop_out i u ne) (sym (lone_same i ne) ∙ e))
    ];
    start_or_lone = λ v u. elim (s.lone.start_or_lone v (subst (λ t. Has t v) d.same_vertices u)) [
      | inl z ↦ inl (z.0, d.still_in_use z.0 z.1, d.old_start z.0 z.1 ∙ z.2)
      | inr m ↦ inr (m.0, lone_same m.0 (not_l m.0 (lone_has b m.0 v m.1)) ∙ m.1)
    ];
    one_loop = λ i m v e r. s.lone.one_loop i m v (lone_was i v e).1 (lone_was m v r).1;
    not_both = λ i v z e u t. let o = start_of z u in s.lone.not_both i v o.0 (lone_was i v e).1 o.1 (sym o.2 ∙ t);
  }

  new_outer : Outer c
  new_outer = record {
    lies_in = λ i u. elim (ℕ_discrete i f) [
      | yes e ↦ ap (λ z. loop_face c (outer_of (row c.faces z))) e ∙ ap (loop_face c) outer_f ∙ loop_face_l ∙ sym e
      | no ne ↦
          let w = face_out i u ne in
          ap (loop_face c) (outer_same i ne) ∙ loop_face_same (outer_of (row b.faces i)) (not_l (outer_of (row b.faces i)) (s.named.outer_used i w)) ∙ s.outer.lies_in i w
    ];
    some_face = λ i u.
        let g = s.outer.some_face i (subst (λ t. Has t i) d.same_shells u) in
        (g.0, face_in g.0 g.1, face_shell_same g.0 (not_f g.0 g.1) ∙ g.2);
  }

  -- every half-edge stays in its shell, and the new ones come into that of h
  old_shell : (i : ℕ) → Used b i → loop_shell c (owner c i) ≡ loop_shell b (owner b i)
  old_shell i u = elim (on? i) [
    | yes o ↦ ap (loop_shell c) (on_owner i u o) ∙ shell_of_l ∙ ap (loop_shell b) (sym (was_owner i o))
    | no n ↦ ap (loop_shell c) (off_owner i u n) ∙ shell_of_old (owner b i) (s.named.owner_used i u)
  ]

  x_shell : loop_shell c (owner c x) ≡ loop_shell b (owner b h)
  x_shell = ap (λ r. loop_shell c r.owner) d.x_half ∙ shell_of_old (owner b h) (s.named.owner_used h a.h_used)

  y_shell : loop_shell c (owner c y) ≡ loop_shell b (owner b h)
  y_shell = ap (λ r. loop_shell c r.owner) d.y_half ∙ shell_of_l

  new_one_shell : OneShell c
  new_one_shell i u = elim (d.in_use i u) [
    | inl e ↦ ap (λ z. loop_shell c (owner c z)) e ∙ x_shell ∙ sym (ap (λ z. loop_shell c (owner c z)) (ap mate e ∙ d.mate_x) ∙ y_shell)
    | inr more ↦ elim more [
      | inl e ↦ ap (λ z. loop_shell c (owner c z)) e ∙ y_shell ∙ sym (ap (λ z. loop_shell c (owner c z)) (ap mate e ∙ d.mate_y) ∙ x_shell)
      | inr v ↦ old_shell i v ∙ s.one_shell i v ∙ sym (old_shell (mate i) (used_mate b i v))
    ]
  ]

  new_balanced : Balanced c
  new_balanced = omega (arith, s.balanced, d.edge_count, d.loop_count, d.face_count, d.same_handles, ap count d.same_vertices, ap count d.same_shells)

  new_sound : Sound c
  new_sound = record {
    sizes = new_sizes;
    named = new_named;
    continues = continues_by c new_rings new_turns;
    loops = loop_rings_by c new_rings;
    vertices = vertex_rings_by c new_turns;
    lone = new_lone;
    outer = new_outer;
    one_shell = new_one_shell;
    balanced = new_balanced;
  }

-- the operator leaves what such an edge leaves
module _ (b : Boundary) (h j k f l : ℕ) (z : Sizes b) (a : Asked b h j k f l) (lk : k < 192) (lf : f < 96) (ll : l < 96) where
  abbrev es : List (Option Edge)
  es = b.edges

  abbrev es₁ : List (Option Edge)
  es₁ = owned_in es (run (next b) 384 h j) l

  abbrev es₃ : List (Option Edge)
  es₃ = led_twice es₁ (Some h) (2 * k) (Some j) (2 * k + 1)

  alike : Alike es es₁
  alike = owned_alike es (run (next b) 384 h j) l

  abbrev drawn_edge : Edge
  drawn_edge = edge (half_edge (start b h) j (owner b h)) (half_edge (start b j) h l)

  abbrev made : Boundary
  made = mef b h j k f l

  length₃ : length es₃ ≡ length es
  length₃ = twice_length es es₁ (Some h) (2 * k) (Some j) (2 * k + 1) alike

  out₃ : (i : ℕ) → Has es₃ i → Has es i
  out₃ = twice_has_out es es₁ (Some h) (2 * k) (Some j) (2 * k + 1) alike

  room : k < length es₃
  room = omega (arith, length₃, z.edges)

  -- an old half-edge is as it is without the new edge
  old_half : (i : ℕ) → Used b i → half made i ≡ half_in es₃ i
  old_half i u = half_put_other es₃ k i (Some drawn_edge) (new_edge es k i a.edge_free u)

  old_owner : (i : ℕ) → Used b i → owner made i ≡ (half_in es₁ i).owner
  old_owner i u = ap (λ r. r.owner) (old_half i u) ∙ twice_owner es es₁ (Some h) (2 * k) (Some j) (2 * k + 1) alike i

  leads_h : (i : ℕ) → Used b i → next b i ≡ h → next made i ≡ 2 * k
  leads_h i u e =
      ap (λ r. r.next) (old_half i u) ∙ twice_first es es₁ (Some h) (2 * k) (Some j) (2 * k + 1) alike i u (λ q. new_even es k j a.edge_free a.j_used (some_same refl q)) (ap Some (sym e))

  leads_j : (i : ℕ) → Used b i → next b i ≡ j → next made i ≡ 2 * k + 1
  leads_j i u e = ap (λ r. r.next) (old_half i u) ∙ twice_second es es₁ (Some h) (2 * k) (Some j) (2 * k + 1) alike i u (λ q. a.apart (some_same refl q ∙ e)) (ap Some (sym e))

  leads_on : (i : ℕ) → Used b i → next b i ≢ h → next b i ≢ j → next made i ≡ next b i
  leads_on i u nh nj = ap (λ r. r.next) (old_half i u) ∙ twice_other es es₁ (Some h) (2 * k) (Some j) (2 * k + 1) alike i u (λ q. nh (sym (some_same refl q))) (λ q. nj (sym (some_same refl q)))

  uses : (i : ℕ) → Used made i → (i ≡ 2 * k) ⊎ ((i ≡ 2 * k + 1) ⊎ Used b i)
  uses i u = elim (put_used_cases es₃ k i drawn_edge u) [
    | inl e ↦ inl e
    | inr more ↦ elim more [ inl e ↦ inr (inl e) | inr v ↦ inr (inr (out₃ (i / 2) v)) ]
  ]

  pub has_made : Made b made h j (2 * k) (2 * k + 1) f l
  has_made = record {
    mate_x = mate_of_even k;
    mate_y = mate_of_odd k;
    x_new = λ u. new_even es k (2 * k) a.edge_free u refl;
    in_use = uses;
    x_in_use = put_used_even es₃ k drawn_edge room;
    y_in_use = put_used_odd es₃ k drawn_edge room;
    still_in_use = λ i u. put_used_in es₃ k i drawn_edge (twice_has_in es es₁ (Some h) (2 * k) (Some j) (2 * k + 1) alike (i / 2) u);
    x_half = put_even es₃ k drawn_edge room;
    y_half = put_odd es₃ k drawn_edge room;
    old_start = λ i u. ap (λ r. r.start) (old_half i u) ∙ twice_start es es₁ (Some h) (2 * k) (Some j) (2 * k + 1) alike i;
    to_h = leads_h;
    to_j = leads_j;
    elsewhere = leads_on;
    on_run = λ i u o. old_owner i u ∙ owned_hit es (run (next b) 384 h j) l i u o;
    off_run = λ i u n. old_owner i u ∙ owned_miss es (run (next b) 384 h j) l i n;
    new_loop = row_put_same b.loops l (Some (record { face = f; lone = None })) (omega (arith, z.loops));
    old_loop = λ i ne. row_put_other b.loops l i (Some (record { face = f; lone = None })) ne;
    new_face = row_put_same b.faces f (Some (record { shell = loop_shell b (owner b h); outer = l })) (omega (arith, z.faces));
    old_face = λ i ne. row_put_other b.faces f i (Some (record { shell = loop_shell b (owner b h); outer = l })) ne;
    same_vertices = refl;
    same_shells = refl;
    same_handles = refl;
    edge_count = count_put_free es₃ k drawn_edge room (λ u. a.edge_free (out₃ k u)) ∙ ap (λ n. n + 1) (twice_count es es₁ (Some h) (2 * k) (Some j) (2 * k + 1) alike);
    loop_count = count_put_free b.loops l (record { face = f; lone = None }) (omega (arith, z.loops)) a.loop_free;
    face_count = count_put_free b.faces f (record { shell = loop_shell b (owner b h); outer = l }) (omega (arith, z.faces)) a.face_free;
    edge_length = length_put es₃ k (Some drawn_edge) ∙ length₃;
    loop_length = length_put b.loops l (Some (record { face = f; lone = None }));
    face_length = length_put b.faces f (Some (record { shell = loop_shell b (owner b h); outer = l }));
  }

pub mef_keeps : (b : Boundary) (h j k f l : ℕ) → Sound b → h < 384 → j < 384 → k < 192 → f < 96 → l < 96 → mef_refusal b h j k f l ≡ None → Sound (mef b h j k f l)
mef_keeps b h j k f l s lh lj lk lf ll q =
    let a = asked b h j k f l q in
    new_sound b (mef b h j k f l) h j k (2 * k) (2 * k + 1) f l s a (has_made b h j k f l s.sizes a lk lf ll)
