-- A boundary with one edge and one vertex more keeps the rules, if its half-edges make rings.
--     grown b ls es v p     b with the loops ls, the edges es and the new vertex v at p
--     NewEdge               es is that of b with the edge k from w to v, both halves on the loop l
--     LoopsFor              ls is that of b, but that l has no lone vertex, and w is lone on no loop
use Rattle.std.proofs.Common.{◌≡◌, ℕ, ◌+◌, ◌*◌, ◌/◌, ◌<◌, T, ◌≢◌, ◌⊎◌, List, length, set, Some, None, Option, unwrap_or, sym, refl, ap, ◌∙◌, subst, inl, inr, arith}
use Rattle.boundary.specs.declared.Point.{Point}
use Rattle.boundary.specs.declared.Edge.{Edge}
use Rattle.boundary.specs.declared.Loop.{Loop}
use Rattle.boundary.specs.declared.Boundary.{Boundary}
use Rattle.boundary.specs.Tables.{row, count, half_in, start, next, owner, mate, lone, lone_of, face_of, outer_of, loop_face, face_shell, loop_shell}
use Rattle.rings.specs.Rings.{Rings}
use Rattle.rules.specs.Rules.{Has, Used, turn, Sizes, Named, LoneVertices, Outer, OneShell, Balanced, Sound}
use Rattle.rules.proofs.Rows.{has_apart, has_put_same, has_put_other_in, has_put_cases, length_put, none_not_some}
use Rattle.rules.proofs.Counts.{count_put_free}
use Rattle.rules.proofs.Halves.{mate_of_even, mate_of_odd, used_mate, new_odd, new_even, new_edge, put_even, put_odd, half_put_other, put_used_even, put_used_odd, put_used_in, put_used_cases}
use Rattle.rules.proofs.RulesAsRings.{loop_rings_by, vertex_rings_by, continues_by, HasHalf, Placed, loop_rings, vertex_rings}
use Rattle.rules.proofs.RingsEntered.{enter_pair_keeps, enter_two_keeps}
use Rattle.boundary.specs.Operators.{half_edge, edge}
use Rattle.rules.proofs.LedEdges.{led_to, led_to_used, led_to_length, led_to_count, led_to_start, led_to_owner, led_to_hit, led_to_miss}
use Rattle.rules.proofs.Places.{Place, fresh_loop, fresh_vertex}

abbrev pub grown : Boundary → List (Option Loop) → List (Option Edge) → ℕ → Point → Boundary
grown b ls es v p = record { shells = b.shells; faces = b.faces; loops = ls; edges = es; vertices = set b.vertices v (Some p); handles = b.handles }

pub record NewEdge (b : Boundary) (es : List (Option Edge)) (k w v l : ℕ) : Type 0 where
  pub size : length es ≡ length b.edges
  pub counted : count es ≡ count b.edges + 1
  pub used_in : (j : ℕ) → Used b j → Has es (j / 2)
  pub used_cases : (j : ℕ) → Has es (j / 2) → (j ≡ 2 * k) ⊎ ((j ≡ 2 * k + 1) ⊎ Used b j)
  pub used_even : Has es (2 * k / 2)
  pub used_odd : Has es ((2 * k + 1) / 2)
  pub start_old : (j : ℕ) → Used b j → (half_in es j).start ≡ start b j
  pub start_even : (half_in es (2 * k)).start ≡ w
  pub start_odd : (half_in es (2 * k + 1)).start ≡ v
  pub owner_old : (j : ℕ) → Used b j → (half_in es j).owner ≡ owner b j
  pub owner_even : (half_in es (2 * k)).owner ≡ l
  pub owner_odd : (half_in es (2 * k + 1)).owner ≡ l

pub record LoopsFor (b : Boundary) (ls : List (Option Loop)) (w l : ℕ) : Type 0 where
  pub size : length ls ≡ length b.loops
  pub counted : count ls ≡ count b.loops
  pub has_in : (m : ℕ) → Has b.loops m → Has ls m
  pub has_out : (m : ℕ) → Has ls m → Has b.loops m
  pub face_same : (m : ℕ) → face_of (row ls m) ≡ loop_face b m
  pub lone_out : (m u : ℕ) → lone_of (row ls m) ≡ Some u → lone b m ≡ Some u
  pub lone_not_w : (m u : ℕ) → lone_of (row ls m) ≡ Some u → u ≢ w
  pub lone_not_l : (m u : ℕ) → lone_of (row ls m) ≡ Some u → m ≢ l
  pub lone_none : (m : ℕ) → lone_of (row ls m) ≡ None → (m ≡ l) ⊎ (lone b m ≡ None)
  pub lone_still : (m u : ℕ) → lone b m ≡ Some u → (u ≡ w) ⊎ (lone_of (row ls m) ≡ Some u)

module _ (b : Boundary) (ls : List (Option Loop)) (es : List (Option Edge)) (k w v l : ℕ) (p : Point) (s : Sound b) (e : NewEdge b es k w v l) (o : LoopsFor b ls w l) (w-used : Has b.vertices w) (v-free : Has b.vertices v → ⊥) (v-small : v < 128) (l_used : Has b.loops l) where
  abbrev c : Boundary
  c = grown b ls es v p

  v_below : v < length b.vertices
  v_below = let z = s.sizes.vertices in omega arith

  v_now : Has c.vertices v
  v_now = has_put_same b.vertices v p v_below

  still_vertex : (u : ℕ) → Has b.vertices u → Has c.vertices u
  still_vertex u h = has_put_other_in b.vertices v u p h

  grown_sizes : Sizes c
  grown_sizes = record {
    shells = s.sizes.shells;
    faces = s.sizes.faces;
    loops = o.size ∙ s.sizes.loops;
    edges = e.size ∙ s.sizes.edges;
    vertices = length_put b.vertices v (Some p) ∙ s.sizes.vertices;
  }

  start_now : (j : ℕ) → Used c j → Has c.vertices (start c j)
  start_now j u = elim (e.used_cases j u) [
    | inl q ↦ subst (Has c.vertices) (sym (ap (start c) q ∙ e.start_even)) (still_vertex w w-used)
    | inr more ↦ elim more [
      | inl q ↦ subst (Has c.vertices) (sym (ap (start c) q ∙ e.start_odd)) v_now
      | inr x ↦ subst (Has c.vertices) (sym (e.start_old j x)) (still_vertex (start b j) (s.named.start_used j x))
    ]
  ]

  owner_now : (j : ℕ) → Used c j → Has ls (owner c j)
  owner_now j u = elim (e.used_cases j u) [
    | inl q ↦ subst (Has ls) (sym (ap (owner c) q ∙ e.owner_even)) (o.has_in l l_used)
    | inr more ↦ elim more [
      | inl q ↦ subst (Has ls) (sym (ap (owner c) q ∙ e.owner_odd)) (o.has_in l l_used)
      | inr x ↦ subst (Has ls) (sym (e.owner_old j x)) (o.has_in (owner b j) (s.named.owner_used j x))
    ]
  ]

  lone_old_used : (m u : ℕ) → lone c m ≡ Some u → Has b.vertices u
  lone_old_used m u q = s.named.lone_used m u (o.lone_out m u q)

  grown_named : ((j : ℕ) → Used c j → Used c (next c j)) → Named c
  grown_named closed = record {
    start_used = start_now;
    next_used = closed;
    owner_used = owner_now;
    lone_used = λ m u q. still_vertex u (lone_old_used m u q);
    face_used = λ m h. subst (Has b.faces) (sym (o.face_same m)) (s.named.face_used m (o.has_out m h));
    shell_used = s.named.shell_used;
    outer_used = λ f h. o.has_in (outer_of (row b.faces f)) (s.named.outer_used f h);
  }

  lone_alone_now : (m u j : ℕ) → lone c m ≡ Some u → Used c j → owner c j ≢ m
  lone_alone_now m u j q x at = elim (e.used_cases j x) [
    | inl a ↦ o.lone_not_l m u q (sym at ∙ ap (owner c) a ∙ e.owner_even)
    | inr more ↦ elim more [
      | inl a ↦ o.lone_not_l m u q (sym at ∙ ap (owner c) a ∙ e.owner_odd)
      | inr y ↦ s.lone.lone_alone m u j (o.lone_out m u q) y (sym (e.owner_old j y) ∙ at)
    ]
  ]

  else_half_now : (m : ℕ) → Has ls m → lone c m ≡ None → HasHalf c m
  else_half_now m h q = elim (o.lone_none m q) [
    | inl a ↦ (2 * k, e.used_even, e.owner_even ∙ sym a)
    | inr a ↦
        let x = s.lone.else_half_edge m (o.has_out m h) a in
        (x.0, e.used_in x.0 x.1, e.owner_old x.0 x.1 ∙ x.2)
  ]

  lone_placed : (m u : ℕ) → lone b m ≡ Some u → Placed c u
  lone_placed m u q = elim (o.lone_still m u q) [
    | inl a ↦ inl (2 * k, e.used_even, e.start_even ∙ sym a)
    | inr a ↦ inr (m, a)
  ]

  placed : (u : ℕ) → Has c.vertices u → Placed c u
  placed u h = elim (has_put_cases b.vertices v u p h) [
    | inl a ↦ inl (2 * k + 1, e.used_odd, e.start_odd ∙ sym a)
    | inr old ↦ elim (s.lone.start_or_lone u old) [
      | inl x ↦ inl (x.0, e.used_in x.0 x.1, e.start_old x.0 x.1 ∙ x.2)
      | inr x ↦ lone_placed x.0 u x.1
    ]
  ]

  not_both_now : (m u j : ℕ) → lone c m ≡ Some u → Used c j → start c j ≢ u
  not_both_now m u j q x at = elim (e.used_cases j x) [
    | inl a ↦ o.lone_not_w m u q (sym at ∙ ap (start c) a ∙ e.start_even)
    | inr more ↦ elim more [
      | inl a ↦ has_apart b.vertices u v (lone_old_used m u q) v-free (sym at ∙ ap (start c) a ∙ e.start_odd)
      | inr y ↦ s.lone.not_both m u j (o.lone_out m u q) y (sym (e.start_old j y) ∙ at)
    ]
  ]

  grown_lone : LoneVertices c
  grown_lone = record {
    lone_alone = lone_alone_now;
    else_half_edge = else_half_now;
    start_or_lone = placed;
    one_loop = λ m n u q t. s.lone.one_loop m n u (o.lone_out m u q) (o.lone_out n u t);
    not_both = not_both_now;
  }

  grown_outer : Outer c
  grown_outer = record {
    lies_in = λ f h. o.face_same (outer_of (row b.faces f)) ∙ s.outer.lies_in f h;
    some_face = s.outer.some_face;
  }

  shell_same : (m : ℕ) → loop_shell c m ≡ loop_shell b m
  shell_same m = ap (face_shell b) (o.face_same m)

  grown_shell : OneShell c
  grown_shell j x = elim (e.used_cases j x) [
    | inl a ↦ ap (loop_shell c) (ap (owner c) a ∙ e.owner_even ∙ sym e.owner_odd ∙ ap (owner c) (sym (ap mate a ∙ mate_of_even k)))
    | inr more ↦ elim more [
      | inl a ↦ ap (loop_shell c) (ap (owner c) a ∙ e.owner_odd ∙ sym e.owner_even ∙ ap (owner c) (sym (ap mate a ∙ mate_of_odd k)))
      | inr y ↦ ap (loop_shell c) (e.owner_old j y) ∙ shell_same (owner b j) ∙ s.one_shell j y ∙ sym (ap (loop_shell c) (e.owner_old (mate j) (used_mate b j y)) ∙ shell_same (owner b (mate j)))
    ]
  ]

  grown_balanced : Balanced c
  grown_balanced = omega (arith, s.balanced, e.counted, o.counted, count_put_free b.vertices v p v_below v-free)

  pub grown_sound : Rings (next c) (Used c) (owner c) → Rings (turn c) (Used c) (start c) → Sound c
  grown_sound r t = record {
    sizes = grown_sizes;
    named = grown_named r.closed;
    continues = continues_by c r t;
    loops = loop_rings_by c r;
    vertices = vertex_rings_by c t;
    lone = grown_lone;
    outer = grown_outer;
    one_shell = grown_shell;
    balanced = grown_balanced;
  }

-- the edge k from w to the new vertex v, which comes in just before the target t on the loop l, or is the ring of l
abbrev pub edge_more : ℕ → ℕ → ℕ → ℕ → Option ℕ → Edge
edge_more k w v l t = edge (half_edge w (2 * k + 1) l) (half_edge v (unwrap_or t (2 * k)) l)

abbrev pub edges_more : Boundary → ℕ → ℕ → ℕ → ℕ → Option ℕ → List (Option Edge)
edges_more b k w v l t = set (led_to b.edges t (2 * k)) k (Some (edge_more k w v l t))

module _ (b : Boundary) (k w v l : ℕ) (t : Option ℕ) (s : Sound b) (k-small : k < 192) (k-free : Has b.edges k → ⊥) where
  abbrev led_es : List (Option Edge)
  led_es = led_to b.edges t (2 * k)

  abbrev es : List (Option Edge)
  es = edges_more b k w v l t

  k_below : k < length led_es
  k_below = let z = s.sizes.edges in omega (arith, led_to_length b.edges t (2 * k))

  was_edge : (m : ℕ) → Has led_es m → Has b.edges m
  was_edge m u = subst T (led_to_used b.edges t (2 * k) m) u

  old_half : (j : ℕ) → Used b j → half_in es j ≡ half_in led_es j
  old_half j u = half_put_other led_es k j _ (new_edge b.edges k j k-free u)

  even_half : half_in es (2 * k) ≡ half_edge w (2 * k + 1) l
  even_half = put_even led_es k (edge_more k w v l t) k_below

  odd_half : half_in es (2 * k + 1) ≡ half_edge v (unwrap_or t (2 * k)) l
  odd_half = put_odd led_es k (edge_more k w v l t) k_below

  pub next_even : (half_in es (2 * k)).next ≡ 2 * k + 1
  next_even = ap (λ x. x.next) even_half

  pub next_odd : (half_in es (2 * k + 1)).next ≡ unwrap_or t (2 * k)
  next_odd = ap (λ x. x.next) odd_half

  pub next_hit : (j : ℕ) → Used b j → t ≡ Some (next b j) → (half_in es j).next ≡ 2 * k
  next_hit j u e = ap (λ x. x.next) (old_half j u) ∙ led_to_hit b.edges t (2 * k) j u e

  pub next_miss : (j : ℕ) → Used b j → t ≢ Some (next b j) → (half_in es j).next ≡ next b j
  next_miss j u n = ap (λ x. x.next) (old_half j u) ∙ led_to_miss b.edges t (2 * k) j u n

  pub new_edge_is : NewEdge b es k w v l
  new_edge_is = record {
    size = length_put led_es k _ ∙ led_to_length b.edges t (2 * k);
    counted = count_put_free led_es k (edge_more k w v l t) k_below (λ u. k-free (was_edge k u)) ∙ ap (λ n. n + 1) (led_to_count b.edges t (2 * k));
    used_in = λ j u. put_used_in led_es k j (edge_more k w v l t) (subst T (sym (led_to_used b.edges t (2 * k) (j / 2))) u);
    used_cases = λ j u. elim (put_used_cases led_es k j (edge_more k w v l t) u) [
      | inl e ↦ inl e
      | inr more ↦ elim more [ inl e ↦ inr (inl e) | inr x ↦ inr (inr (was_edge (j / 2) x)) ]
    ];
    used_even = put_used_even led_es k (edge_more k w v l t) k_below;
    used_odd = put_used_odd led_es k (edge_more k w v l t) k_below;
    start_old = λ j u. ap (λ x. x.start) (old_half j u) ∙ led_to_start b.edges t (2 * k) j;
    start_even = ap (λ x. x.start) even_half;
    start_odd = ap (λ x. x.start) odd_half;
    owner_old = λ j u. ap (λ x. x.owner) (old_half j u) ∙ led_to_owner b.edges t (2 * k) j;
    owner_even = ap (λ x. x.owner) even_half;
    owner_odd = ap (λ x. x.owner) odd_half;
  }

  -- the rings then
  module _ (here : Place b t l w) where
    pub loops_more : Rings (λ j. (half_in es j).next) (λ j. Has es (j / 2)) (λ j. (half_in es j).owner)
    loops_more = enter_pair_keeps (loop_rings b s) (record {
      y_new = λ u. new_odd b.edges k (2 * k + 1) k-free u refl;
      x_step = next_even;
      y_step = next_odd;
      led = next_hit;
      other_step = next_miss;
      in_use = new_edge_is.used_cases;
      x_in_use = new_edge_is.used_even;
      y_in_use = new_edge_is.used_odd;
      still_in_use = new_edge_is.used_in;
      x_label = new_edge_is.owner_even;
      y_label = new_edge_is.owner_odd;
      other_label = new_edge_is.owner_old;
      at = λ a q. ((here.at a q).0, (here.at a q).1);
      fresh = fresh_loop b s here;
    })

    pub vertices_more : (Has b.vertices v → ⊥) → Rings (λ j. (half_in es (mate j)).next) (λ j. Has es (j / 2)) (λ j. (half_in es j).start)
    vertices_more v-free = enter_two_keeps {s = t} {t = None} (vertex_rings b s) (record {
      x_new = λ u. new_even b.edges k (2 * k) k-free u refl;
      x_step = ap (λ j. (half_in es j).next) (mate_of_even k) ∙ next_odd;
      y_step = ap (λ j. (half_in es j).next) (mate_of_odd k) ∙ next_even;
      led_x = λ j u q. next_hit (mate j) (used_mate b j u) q;
      led_y = λ j u q. absurd (none_not_some refl q);
      other_step = λ j u n o. next_miss (mate j) (used_mate b j u) n;
      in_use = new_edge_is.used_cases;
      x_in_use = new_edge_is.used_even;
      y_in_use = new_edge_is.used_odd;
      still_in_use = new_edge_is.used_in;
      x_label = new_edge_is.start_even;
      y_label = new_edge_is.start_odd;
      other_label = new_edge_is.start_old;
      at_x = λ a q. ((here.at a q).0, (here.at a q).2);
      at_y = λ a q. absurd (none_not_some refl q);
      fresh_x = fresh_vertex b s here;
      fresh_y = λ q j u. has_apart b.vertices (start b j) v (s.named.start_used j u) v-free;
      apart = λ a p q. none_not_some refl q;
      two_rings = λ q. has_apart b.vertices w v here.vertex_used v-free;
    })
