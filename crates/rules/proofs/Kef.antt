-- An edge erased between two loops keeps the rules: the loop of h goes with its face, and the rest of its ring joins the loop of its mate.
use Rattle.std.proofs.Common.{◌≡◌, ℕ, ◌+◌, ◌/◌, ◌<◌, Bool, true, false, cond, not, ◌&&◌, eqb, ◌≢◌, ◌⊎◌, List, length, set, Some, None, Option, sym, refl, ap, ◌∙◌, subst, inl, inr, arith}
use native.Mathlib.Decide.{ℕ_discrete}
use Rattle.std.proofs.lemmas.Bool.{eqb-true, eq-eqb, ne_eqb, cond-true, cond-false, and_from, and_left, and_right, and_parts}
use Rattle.boundary.specs.declared.Edge.{Edge}
use Rattle.boundary.specs.declared.Loop.{Loop}
use Rattle.boundary.specs.declared.Boundary.{Boundary}
use Rattle.boundary.specs.declared.Refusal.TheVariants.{Unused, Condition}
use Rattle.boundary.specs.Tables.{row, count, half_used, start, next, owner, mate, lone, lone_of, face_of, shell_of, outer_of, loop_face, face_shell, loop_shell, loops_in}
use Rattle.boundary.specs.Changes.{clear_edge, clear_loop, clear_face, led, joined, joined_in}
use Rattle.boundary.specs.Operators.{past, kef}
use Rattle.boundary.specs.Refusals.{kef_refusal}
use Rattle.rings.specs.Rings.{Rings}
use Rattle.rings.specs.Changes.{Joined}
use Rattle.rings.specs.Euler.{swap}
use Rattle.rings.proofs.Facts.{injective, alone_in, pair_in}
use Rattle.rings.proofs.Put.{swapped_by_put}
use Rattle.rings.proofs.Euler.{loops_joined}
use Rattle.rules.specs.Rules.{Has, Used, turn, Sizes, Named, LoneVertices, Outer, OneShell, Balanced, Sound}
use Rattle.rules.proofs.Rows.{true_T, not_eqb, unless_none, row_put_other, length_put, has_clear_in, has_clear_out, lone_has, none_not_some, some_same}
use Rattle.rules.proofs.Counts.{count_clear}
use Rattle.rules.proofs.Fields.{one_loop_in}
use Rattle.rules.proofs.Halves.{mate_mate, mate_apart, used_mate, joined_owner}
use Rattle.rules.proofs.RulesAsRings.{loop_rings, vertex_rings, loop_rings_by, vertex_rings_by, continues_by, HasHalf, Placed, lone_not_owner}
use Rattle.rules.proofs.LedEdges.{Alike, joined_alike}
use Rattle.rules.proofs.ErasedEdge.{start_was as erased-start-was, starts_placed, past_on, past_over, Gone, halves_apart, erased, turns_left, after_x, after_y, erased_in, erased_in_use, erased_length, erased_count, erased_still, erased_start, erased_owner, erased_first, erased_second, erased_other, lone_put, emptied_is, lone_put_has_in, lone_put_has_out, lone_put_other, lone_put_face, lone_put_true, lone_put_false, lone_put_length, lone_put_count}

-- what an accepted edit says of the half-edge x and its mate y
pub record Asked (b : Boundary) (x y : ℕ) : Type 0 where
  pub x_used : Used b x
  pub apart : owner b x ≢ owner b y
  pub only : loops_in b (loop_face b (owner b x)) ≡ 1

pub asked : (b : Boundary) (h : ℕ) → kef_refusal b h ≡ None → Asked b h (mate h)
asked b h q =
    let r = unless_none (half_used b h) Unused _ q in
    let t = unless_none (not (eqb (owner b h) (owner b (mate h))) && eqb (loops_in b (loop_face b (owner b h))) 1) Condition None r.1 in
    let both = and_parts (not (eqb (owner b h) (owner b (mate h)))) (eqb (loops_in b (loop_face b (owner b h))) 1) t.0 in
    record {
      x_used = true_T (half_used b h) r.0;
      apart = not_eqb (owner b h) (owner b (mate h)) both.0;
      only = eqb-true (loops_in b (loop_face b (owner b h))) 1 both.1;
    }

-- x and y are each alone on their loops
abbrev Alone : Boundary → ℕ → ℕ → Type 0
Alone b x y = (next b x ≡ x) × (next b y ≡ y)

-- the boundary c has of b what is left without the edge of x and y, the loop of x and its face
pub record Left (b c : Boundary) (x y : ℕ) : Type 0 where
  pub gone : Gone b c y x
  pub joins : (i : ℕ) → Used b i → i ≢ x → i ≢ y → owner c i ≡ cond (eqb (owner b i) (owner b x)) (owner b y) (owner b i)
  pub loop_in : (m : ℕ) → Has b.loops m → m ≢ owner b x → Has c.loops m
  pub loop_out : (m : ℕ) → Has c.loops m → Has b.loops m × (m ≢ owner b x)
  pub old_loop_face : (m : ℕ) → m ≢ owner b x → loop_face c m ≡ loop_face b m
  pub lone_other : (m : ℕ) → m ≢ owner b x → m ≢ owner b y → lone c m ≡ lone b m
  pub lone_alone : Alone b x y → lone c (owner b y) ≡ Some (start b x)
  pub lone_else : (Alone b x y → ⊥) → lone c (owner b y) ≡ lone b (owner b y)
  pub face_in : (g : ℕ) → Has b.faces g → g ≢ loop_face b (owner b x) → Has c.faces g
  pub face_out : (g : ℕ) → Has c.faces g → Has b.faces g × (g ≢ loop_face b (owner b x))
  pub old_face : (g : ℕ) → g ≢ loop_face b (owner b x) → row c.faces g ≡ row b.faces g
  pub same_vertices : c.vertices ≡ b.vertices
  pub same_shells : c.shells ≡ b.shells
  pub same_handles : c.handles ≡ b.handles
  pub edge_count : count c.edges + 1 ≡ count b.edges
  pub loop_count : count c.loops + 1 ≡ count b.loops
  pub face_count : count c.faces + 1 ≡ count b.faces
  pub edge_length : length c.edges ≡ length b.edges
  pub loop_length : length c.loops ≡ length b.loops
  pub face_length : length c.faces ≡ length b.faces

alone? : (b : Boundary) (x y : ℕ) → Dec (Alone b x y)
alone? b x y = elim (ℕ_discrete (next b x) x) [
  | yes p ↦ elim (ℕ_discrete (next b y) y) [ yes q ↦ yes (p, q) | no n ↦ no (λ t. n t.1) ]
  | no n ↦ no (λ t. n t.0)
]

module _ (b c : Boundary) (x y : ℕ) (s : Sound b) (a : Asked b x y) (d : Left b c x y) where
  abbrev lx : ℕ
  lx = owner b x

  abbrev ly : ℕ
  ly = owner b y

  abbrev fx : ℕ
  fx = loop_face b lx

  y_used : Used b y
  y_used = d.gone.x_used

  old_rings : Rings (next b) (Used b) (owner b)
  old_rings = loop_rings b s

  lx_used : Has b.loops lx
  lx_used = s.named.owner_used x a.x_used

  ly_used : Has b.loops ly
  ly_used = s.named.owner_used y y_used

  ly_not_lx : ly ≢ lx
  ly_not_lx e = a.apart (sym e)

  -- the labels once the ring of x has joined that of y
  abbrev lab : ℕ → ℕ
  lab i = cond (eqb (owner b i) lx) ly (owner b i)

  lab_x : (i : ℕ) → owner b i ≡ lx → lab i ≡ ly
  lab_x i e = cond-true (eqb (owner b i) lx) ly (owner b i) (eq-eqb (owner b i) lx e)

  lab_other : (i : ℕ) → owner b i ≢ lx → lab i ≡ owner b i
  lab_other i ne = cond-false (eqb (owner b i) lx) ly (owner b i) (ne_eqb (owner b i) lx ne)

  join : Joined (next b) (swap (next b) y x) (Used b) (owner b) lab y x
  join = record {
    swapped = swapped_by_put y_used a.x_used (halves_apart b c y x s d.gone);
    apart = ly_not_lx;
    y_label = λ i u e. lab_x i e;
    other_label = λ i u ne. lab_other i ne;
  }

  new_rings : Rings (next c) (Used c) (owner c)
  new_rings = loops_joined (erased b c y x s d.gone) old_rings join (λ i u ny nx. d.joins i u nx ny)

  new_turns : Rings (turn c) (Used c) (start c)
  new_turns = turns_left b c y x s d.gone

  -- a half-edge that is left
  pub was_used : (i : ℕ) → Used c i → Used b i
  was_used i u = (d.gone.in_use i u).0

  pub not_y : (i : ℕ) → Used c i → i ≢ y
  not_y i u = (d.gone.in_use i u).1

  pub not_x : (i : ℕ) → Used c i → i ≢ x
  not_x i u = (d.gone.in_use i u).2

  pub stays : (i : ℕ) → Used b i → i ≢ x → i ≢ y → Used c i
  stays i u nx ny = d.gone.still_in_use i u ny nx

  start_was : (i : ℕ) → Used c i → start c i ≡ start b i
  start_was = erased-start-was b c y x s d.gone

  pub owner_was : (i : ℕ) → Used c i → ((owner b i ≡ lx) × (owner c i ≡ ly)) ⊎ ((owner b i ≢ lx) × (owner c i ≡ owner b i))
  owner_was i u = elim (ℕ_discrete (owner b i) lx) [
    | yes e ↦ inl (e, joins ∙ lab_x i e)
    | no ne ↦ inr (ne, joins ∙ lab_other i ne)
  ]
    where
      joins : owner c i ≡ lab i
      joins = d.joins i (was_used i u) (not_x i u) (not_y i u)

  -- loops and faces
  not_fx : (m : ℕ) → Has b.loops m → m ≢ lx → loop_face b m ≢ fx
  not_fx m u ne e = ne (one_loop_in b fx m lx a.only u e lx_used refl)

  shell_same : (g : ℕ) → g ≢ fx → face_shell c g ≡ face_shell b g
  shell_same g ne = ap shell_of (d.old_face g ne)

  outer_same : (g : ℕ) → g ≢ fx → outer_of (row c.faces g) ≡ outer_of (row b.faces g)
  outer_same g ne = ap outer_of (d.old_face g ne)

  loop_shell_same : (m : ℕ) → Has b.loops m → m ≢ lx → loop_shell c m ≡ loop_shell b m
  loop_shell_same m u ne = ap (face_shell c) (d.old_loop_face m ne) ∙ shell_same (loop_face b m) (not_fx m u ne)

  -- the outer loop of a face that is left is left too
  outer_left : (g : ℕ) → Has b.faces g → g ≢ fx → outer_of (row b.faces g) ≢ lx
  outer_left g u ne e = ne (sym (s.outer.lies_in g u) ∙ ap (loop_face b) e)

  -- the two mates' loops lie in one shell
  mates_shell : loop_shell b lx ≡ loop_shell b ly
  mates_shell = s.one_shell x a.x_used ∙ ap (λ i. loop_shell b (owner b i)) d.gone.mate_y

  -- where a vertex is lone: as it was, or where both rings were emptied
  lone_was : (m v : ℕ) → lone c m ≡ Some v → (m ≢ lx) × ((lone b m ≡ Some v) ⊎ (Alone b x y × (m ≡ ly) × (v ≡ start b x)))
  lone_was m v e = (
    left,
    elim (ℕ_discrete m ly) [
      | no ne ↦ inl (sym (d.lone_other m left ne) ∙ e)
      | yes q ↦ elim (alone? b x y) [
        | yes al ↦ inr (al, q, some_same (ap (lone c) (sym q) ∙ e) (d.lone_alone al))
        | no n ↦ inl (ap (lone b) q ∙ sym (d.lone_else n) ∙ ap (lone c) (sym q) ∙ e)
      ]
    ],
  )
    where
      left : m ≢ lx
      left = (d.loop_out m (lone_has c m v e)).1

  -- no lone vertex was on either loop
  not_on_lx : (m v : ℕ) → lone b m ≡ Some v → m ≢ lx
  not_on_lx = lone_not_owner b s x a.x_used

  not_on_ly : (m v : ℕ) → lone b m ≡ Some v → m ≢ ly
  not_on_ly = lone_not_owner b s y y_used

  new_sizes : Sizes c
  new_sizes = record {
    shells = ap length d.same_shells ∙ s.sizes.shells;
    faces = d.face_length ∙ s.sizes.faces;
    loops = d.loop_length ∙ s.sizes.loops;
    edges = d.edge_length ∙ s.sizes.edges;
    vertices = ap length d.same_vertices ∙ s.sizes.vertices;
  }

  vertex_in : (v : ℕ) → Has b.vertices v → Has c.vertices v
  vertex_in v u = subst (λ t. Has t v) (sym d.same_vertices) u

  new_named : Named c
  new_named = record {
    start_used = λ i u. vertex_in (start c i) (subst (Has b.vertices) (sym (start_was i u)) (s.named.start_used i (was_used i u)));
    next_used = new_rings.closed;
    owner_used = λ i u. elim (owner_was i u) [
      | inl o ↦ subst (Has c.loops) (sym o.1) (d.loop_in ly ly_used ly_not_lx)
      | inr o ↦ subst (Has c.loops) (sym o.1) (d.loop_in (owner b i) (s.named.owner_used i (was_used i u)) o.0)
    ];
    lone_used = λ m v e. vertex_in v (elim (lone_was m v e).1 [
      | inl old ↦ s.named.lone_used m v old
      | inr new ↦ subst (Has b.vertices) (sym new.2) (s.named.start_used x a.x_used)
    ]);
    face_used = λ m u.
        let o = d.loop_out m u in
        subst (Has c.faces) (sym (d.old_loop_face m o.1)) (d.face_in (loop_face b m) (s.named.face_used m o.0) (not_fx m o.0 o.1));
    shell_used = λ g u.
        let o = d.face_out g u in
        subst (λ t. Has t (face_shell c g)) (sym d.same_shells) (subst (Has b.shells) (sym (shell_same g o.1)) (s.named.shell_used g o.0));
    outer_used = λ g u.
        let o = d.face_out g u in
        subst (Has c.loops) (sym (outer_same g o.1)) (d.loop_in (outer_of (row b.faces g)) (s.named.outer_used g o.0) (outer_left g o.0 o.1));
  }

  -- the half-edges after x and after y, where they are not x or y themselves, are left
  after_x_owner : owner b (next b x) ≡ lx
  after_x_owner = old_rings.label x a.x_used

  after_y_owner : owner b (next b y) ≡ ly
  after_y_owner = old_rings.label y y_used

  x_on : next b x ≢ x → Used c (next b x)
  x_on ne = stays (next b x) (s.named.next_used x a.x_used) ne (λ e. a.apart (sym after_x_owner ∙ ap (owner b) e))

  y_on : next b y ≢ y → Used c (next b y)
  y_on ne = stays (next b y) (s.named.next_used y y_used) (λ e. a.apart (ap (owner b) (sym e) ∙ after_y_owner)) ne

  pub owner_lx : (i : ℕ) → Used c i → owner b i ≡ lx → owner c i ≡ ly
  owner_lx i u e = d.joins i (was_used i u) (not_x i u) (not_y i u) ∙ lab_x i e

  pub owner_other : (i : ℕ) → Used c i → owner b i ≢ lx → owner c i ≡ owner b i
  owner_other i u ne = d.joins i (was_used i u) (not_x i u) (not_y i u) ∙ lab_other i ne

  -- the loop of y has a half-edge, unless both rings were emptied
  half_on_ly : (Alone b x y → ⊥) → HasHalf c ly
  half_on_ly n = elim (ℕ_discrete (next b x) x) [
    | no ne ↦ (next b x, x_on ne, owner_lx (next b x) (x_on ne) after_x_owner)
    | yes p ↦ elim (ℕ_discrete (next b y) y) [
      | no ne ↦ (next b y, y_on ne, owner_other (next b y) (y_on ne) (λ e. ly_not_lx (sym after_y_owner ∙ e)) ∙ after_y_owner)
      | yes q ↦ absurd (n (p, q))
    ]
  ]

  half_on : (m : ℕ) → m ≢ lx → m ≢ ly → HasHalf b m → HasHalf c m
  half_on m nx ny o =
      let u : Used c o.0 = stays o.0 o.1 (λ e. nx (sym o.2 ∙ ap (owner b) e)) (λ e. ny (sym o.2 ∙ ap (owner b) e)) in
      (o.0, u, owner_other o.0 u (λ e. nx (sym o.2 ∙ e)) ∙ o.2)

  -- a vertex is a start or lone
  end_of_x : start b (next b x) ≡ start b y
  end_of_x = after_y b c y x s d.gone

  end_of_y : start b (next b y) ≡ start b x
  end_of_y = after_x b c y x s d.gone

  at_x : Placed c (start b x)
  at_x = elim (ℕ_discrete (next b y) y) [
    | no ne ↦ inl (next b y, y_on ne, start_was (next b y) (y_on ne) ∙ end_of_y)
    | yes q ↦ elim (ℕ_discrete (next b x) x) [
      | no ne ↦ inl (next b x, x_on ne, start_was (next b x) (x_on ne) ∙ end_of_x ∙ ap (start b) (sym q) ∙ end_of_y)
      | yes p ↦ inr (ly, d.lone_alone (p, q))
    ]
  ]

  at_y : Placed c (start b y)
  at_y = elim (ℕ_discrete (next b x) x) [
    | no ne ↦ inl (next b x, x_on ne, start_was (next b x) (x_on ne) ∙ end_of_x)
    | yes p ↦ subst (Placed c) (ap (start b) (sym p) ∙ end_of_x) at_x
  ]

  -- where both rings were emptied, no other half-edge starts where x does
  none_starts : (z : ℕ) → Used c z → Alone b x y → start b z ≢ start b x
  none_starts z u al e = elim (pair_in (vertex_rings b s) x y z a.x_used (was_used z u) (ap (next b) d.gone.mate_y ∙ al.1) (ap (next b) d.gone.mate_x ∙ al.0) e) [
    | inl p ↦ not_x z u p
    | inr p ↦ not_y z u p
  ]

  new_lone : LoneVertices c
  new_lone = record {
    lone_alone = λ m v z e u t. elim (lone_was m v e).1 [
      | inl old ↦ elim (owner_was z u) [
        | inl o ↦ not_on_ly m v old (sym t ∙ o.1)
        | inr o ↦ s.lone.lone_alone m v z old (was_used z u) (sym o.1 ∙ t)
      ]
      | inr new ↦ elim (owner_was z u) [
        | inl o ↦ not_x z u (alone_in old_rings x z a.x_used (was_used z u) new.0.0 o.0)
        | inr o ↦ not_y z u (alone_in old_rings y z y_used (was_used z u) new.0.1 (sym o.1 ∙ t ∙ new.1))
      ]
    ];
    else_half_edge = λ m u e. let o = d.loop_out m u in elim (ℕ_discrete m ly) [
      | no ne ↦ half_on m o.1 ne (s.lone.else_half_edge m o.0 (sym (d.lone_other m o.1 ne) ∙ e))
      | yes q ↦
          let z = half_on_ly (λ al. none_not_some (ap (lone c) (sym q) ∙ e) (d.lone_alone al)) in
          (z.0, z.1, z.2 ∙ sym q)
    ];
    start_or_lone = λ v u. elim (s.lone.start_or_lone v (subst (λ t. Has t v) d.same_vertices u)) [
      | inl z ↦ subst (Placed c) z.2 (starts_placed b c y x s d.gone at_y at_x z.0 z.1)
      | inr m ↦ inr (m.0, d.lone_other m.0 (not_on_lx m.0 v m.1) (not_on_ly m.0 v m.1) ∙ m.1)
    ];
    one_loop = λ m n v e r. elim (lone_was m v e).1 [
      | inl old ↦ elim (lone_was n v r).1 [
        | inl also ↦ s.lone.one_loop m n v old also
        | inr new ↦ absurd (s.lone.not_both m v x old a.x_used (sym new.2))
      ]
      | inr new ↦ elim (lone_was n v r).1 [
        | inl old ↦ absurd (s.lone.not_both n v x old a.x_used (sym new.2))
        | inr also ↦ new.1 ∙ sym also.1
      ]
    ];
    not_both = λ m v z e u t. elim (lone_was m v e).1 [
      | inl old ↦ s.lone.not_both m v z old (was_used z u) (sym (start_was z u) ∙ t)
      | inr new ↦ none_starts z u new.0 (sym (start_was z u) ∙ t ∙ new.2)
    ];
  }

  -- a shell that had the face of x has that of y
  face_left : (g : ℕ) → Has b.faces g → (k : ℕ) × Has c.faces k × (face_shell c k ≡ face_shell b g)
  face_left g u = elim (ℕ_discrete g fx) [
    | no ne ↦ (g, d.face_in g u ne, shell_same g ne)
    | yes e ↦
        let fy = s.named.face_used ly ly_used in
        let ne = not_fx ly ly_used ly_not_lx in
        (loop_face b ly, d.face_in (loop_face b ly) fy ne, shell_same (loop_face b ly) ne ∙ sym mates_shell ∙ ap (face_shell b) (sym e))
  ]

  new_outer : Outer c
  new_outer = record {
    lies_in = λ g u.
        let o = d.face_out g u in
        ap (loop_face c) (outer_same g o.1) ∙ d.old_loop_face (outer_of (row b.faces g)) (outer_left g o.0 o.1) ∙ s.outer.lies_in g o.0;
    some_face = λ i u.
        let g = s.outer.some_face i (subst (λ t. Has t i) d.same_shells u) in
        let k = face_left g.0 g.1 in
        (k.0, k.1, k.2 ∙ g.2);
  }

  -- every half-edge stays in its shell
  old_shell : (i : ℕ) → Used c i → loop_shell c (owner c i) ≡ loop_shell b (owner b i)
  old_shell i u = elim (owner_was i u) [
    | inl o ↦ ap (loop_shell c) o.1 ∙ loop_shell_same ly ly_used ly_not_lx ∙ sym mates_shell ∙ ap (loop_shell b) (sym o.0)
    | inr o ↦ ap (loop_shell c) o.1 ∙ loop_shell_same (owner b i) (s.named.owner_used i (was_used i u)) o.0
  ]

  new_one_shell : OneShell c
  new_one_shell i u = old_shell i u ∙ s.one_shell i (was_used i u) ∙ sym (old_shell (mate i) (used_mate c i u))

  new_balanced : Balanced c
  new_balanced = omega (arith, s.balanced, d.edge_count, d.loop_count, d.face_count, d.same_handles, ap count d.same_vertices, ap count d.same_shells)

  new_sound : Sound c
  new_sound = record {
    sizes = new_sizes;
    named = new_named;
    continues = continues_by c new_rings new_turns;
    loops = loop_rings_by c new_rings;
    vertices = vertex_rings_by c new_turns;
    lone = new_lone;
    outer = new_outer;
    one_shell = new_one_shell;
    balanced = new_balanced;
  }

-- both halves are alone on their loops
abbrev both : Boundary → ℕ → ℕ → Bool
both b x y = eqb (next b x) x && eqb (next b y) y

abbrev loops_left : Boundary → ℕ → ℕ → List (Option Loop)
loops_left b x y = lone_put (both b x y) b.loops (owner b y) (start b x)

-- the operator with the change of the loops written out
abbrev pub plain : Boundary → ℕ → ℕ → Boundary
plain b x y = record {
  shells = b.shells;
  faces = set b.faces (loop_face b (owner b x)) None;
  loops = set (loops_left b x y) (owner b x) None;
  edges = erased_in (joined_in b.edges (owner b x) (owner b y)) x (past b x y) y (past b y x) x;
  vertices = b.vertices;
  handles = b.handles;
}

pub kef_is : (b : Boundary) (h : ℕ) → kef b h ≡ plain b h (mate h)
kef_is b h =
    ap (λ w. clear_face (clear_loop (clear_edge w (h / 2)) (owner b h)) (loop_face b (owner b h)))
    (emptied_is (both b h (mate h)) (led (led (joined b (owner b h) (owner b (mate h))) h (past b h (mate h))) (mate h) (past b (mate h) h)) (owner b (mate h)) (start b h))

-- the operator leaves that
module _ (b : Boundary) (h : ℕ) (s : Sound b) (a : Asked b h (mate h)) where
  abbrev y : ℕ
  y = mate h

  abbrev es₁ : List (Option Edge)
  es₁ = joined_in b.edges (owner b h) (owner b y)

  alike : Alike b.edges es₁
  alike = joined_alike b.edges (owner b h) (owner b y)

  mate_used_too : Used b y
  mate_used_too = used_mate b h a.x_used

  -- what led to h does not lead to the mate
  past_not_y : past b h y ≢ y
  past_not_y e = elim (ℕ_discrete (next b y) y) [
    | yes q ↦ mate_apart h (injective (loop_rings b s) y h mate_used_too a.x_used (q ∙ sym e ∙ past_over b h y q))
    | no nq ↦ nq (sym (past_on b h y nq) ∙ e)
  ]

  is_gone : Gone b (plain b h y) y h
  is_gone = record {
    x_used = mate_used_too;
    y_used = a.x_used;
    mate_x = mate_mate h;
    mate_y = refl;
    in_use = λ i u. let o = erased_in_use b.edges es₁ h (past b h y) y (past b y h) h alike i u in (o.0, o.2, o.1);
    still_in_use = λ i u ny nx. erased_still b.edges es₁ h (past b h y) y (past b y h) h alike i u nx ny;
    old_start = λ i u ny nx. erased_start b.edges es₁ h (past b h y) y (past b y h) h alike i u nx ny;
    to_x = λ i u ny nx. erased_second b.edges es₁ h (past b h y) y (past b y h) h alike i u nx ny (mate_apart h);
    to_y = λ i u ny nx. erased_first b.edges es₁ h (past b h y) y (past b y h) h alike i u nx ny past_not_y;
    elsewhere = λ i u ny nx my mx. erased_other b.edges es₁ h (past b h y) y (past b y h) h alike i u nx ny mx my;
  }

  own_used : Has b.loops (owner b h)
  own_used = s.named.owner_used h a.x_used

  other_used : Has b.loops (owner b y)
  other_used = s.named.owner_used y mate_used_too

  loops_in_left : (m : ℕ) → m ≢ owner b h → row (set (loops_left b h y) (owner b h) None) m ≡ row (loops_left b h y) m
  loops_in_left m ne = row_put_other (loops_left b h y) (owner b h) m None ne

  both_true : Alone b h y → both b h y ≡ true
  both_true al = and_from (eqb (next b h) h) (eqb (next b y) y) (eq-eqb (next b h) h al.0) (eq-eqb (next b y) y al.1)

  both_false : (Alone b h y → ⊥) → both b h y ≡ false
  both_false n = elim (ℕ_discrete (next b h) h) [
    | no ne ↦ and_left (eqb (next b h) h) (eqb (next b y) y) (ne_eqb (next b h) h ne)
    | yes p ↦ and_right (eqb (next b h) h) (eqb (next b y) y) (ne_eqb (next b y) y (λ q. n (p, q)))
  ]

  pub is_left : Left b (plain b h y) h y
  is_left = record {
    gone = is_gone;
    joins = λ i u nx ny. erased_owner b.edges es₁ h (past b h y) y (past b y h) h alike i u nx ny ∙ joined_owner b.edges (owner b h) (owner b y) i u;
    loop_in = λ m u ne. has_clear_in (loops_left b h y) (owner b h) m ne (lone_put_has_in (both b h y) b.loops (owner b y) (start b h) m u);
    loop_out = λ m u.
        let o = has_clear_out (loops_left b h y) (owner b h) m u in
        (lone_put_has_out (both b h y) b.loops (owner b y) (start b h) m other_used o.0, o.1);
    old_loop_face = λ m ne. ap face_of (loops_in_left m ne) ∙ lone_put_face (both b h y) b.loops (owner b y) (start b h) m other_used;
    lone_other = λ m nx ny. ap lone_of (loops_in_left m nx ∙ lone_put_other (both b h y) b.loops (owner b y) (start b h) m ny);
    lone_alone = λ al. ap lone_of (loops_in_left (owner b y) (λ e. a.apart (sym e))) ∙ lone_put_true (both b h y) b.loops (owner b y) (start b h) other_used (both_true al);
    lone_else = λ n. ap lone_of (loops_in_left (owner b y) (λ e. a.apart (sym e)) ∙ lone_put_false (both b h y) b.loops (owner b y) (start b h) (owner b y) (both_false n));
    face_in = λ g u ne. has_clear_in b.faces (loop_face b (owner b h)) g ne u;
    face_out = λ g u. has_clear_out b.faces (loop_face b (owner b h)) g u;
    old_face = λ g ne. row_put_other b.faces (loop_face b (owner b h)) g None ne;
    same_vertices = refl;
    same_shells = refl;
    same_handles = refl;
    edge_count = erased_count b.edges es₁ h (past b h y) y (past b y h) h alike a.x_used;
    loop_count = count_clear (loops_left b h y) (owner b h) (lone_put_has_in (both b h y) b.loops (owner b y) (start b h) (owner b h) own_used) ∙ lone_put_count (both b h y) b.loops (owner b y) (start b h) other_used;
    face_count = count_clear b.faces (loop_face b (owner b h)) (s.named.face_used (owner b h) own_used);
    edge_length = erased_length b.edges es₁ h (past b h y) y (past b y h) h alike;
    loop_length = length_put (loops_left b h y) (owner b h) None ∙ lone_put_length (both b h y) b.loops (owner b y) (start b h);
    face_length = length_put b.faces (loop_face b (owner b h)) None;
  }

pub kef_keeps : (b : Boundary) (h : ℕ) → Sound b → h < 384 → kef_refusal b h ≡ None → Sound (kef b h)
kef_keeps b h s lh q =
    let a = asked b h q in
    subst Sound (sym (kef_is b h)) (new_sound b (plain b h (mate h)) h (mate h) s a (is_left b h s a))
