-- The edge of h and the vertex at its end go, whose mate follows h, and the rules are kept.
--     shrunk b ls h         b with the loops ls, without the edge of h and its end
--     LoopsLeft             ls is that of b, but that the start of h is lone on the loop of h where its ring is emptied
use Rattle.std.proofs.Common.{◌≡◌, ℕ, ◌/◌, ◌<◌, Bool, eqb, ◌≢◌, ◌⊎◌, List, length, set, Some, None, Option, sym, refl, ap, ◌∙◌, subst, inl, inr, arith}
use native.Mathlib.Decide.{ℕ_discrete}
use Rattle.std.proofs.lemmas.Bool.{eqb-true, eq-eqb, ne_eqb}
use Rattle.boundary.specs.declared.Loop.{Loop}
use Rattle.boundary.specs.declared.Boundary.{Boundary}
use Rattle.boundary.specs.declared.Refusal.TheVariants.{Unused, Condition}
use Rattle.boundary.specs.Tables.{row, count, half_used, start, next, owner, mate, lone, lone_of, face_of, outer_of, loop_face, face_shell, loop_shell}
use Rattle.boundary.specs.Changes.{clear_vertex, clear_edge, led}
use Rattle.boundary.specs.Operators.{kev}
use Rattle.boundary.specs.Refusals.{unless, kev_refusal}
use Rattle.rules.specs.Rules.{Has, Used, Sizes, Named, LoneVertices, Outer, OneShell, Balanced, Sound, turn}
use Rattle.rules.proofs.Rows.{true_T, unless_none, none_not_some, some_same, has_clear_in, has_clear_out, length_put}
use Rattle.rules.proofs.Counts.{count_clear}
use Rattle.rules.proofs.Halves.{mate_apart, used_mate, mate_mate}
use Rattle.rules.proofs.RulesAsRings.{loop_rings_by, vertex_rings_by, continues_by, HasHalf, Placed, lone_not_owner}
use Rattle.rules.proofs.KevHalves.{kev_edges, mate_used_too, left_in, left_out, left_start, left_owner, left_size, left_count, left_loops, only_mate, same_loop, none_on_loop, none_at_start, after_left, after_owner, after_start, left_hit, left_miss, after_not_mate}
use Rattle.rules.proofs.ErasedEdge.{Gone, start_was, turns_left, past_on, lone_put, emptied_is, lone_put_has_in, lone_put_has_out, lone_put_other, lone_put_face, lone_put_true, lone_put_false, lone_put_length, lone_put_count}
use Rattle.rings.specs.Rings.{Rings}

abbrev pub shrunk : Boundary → List (Option Loop) → ℕ → Boundary
shrunk b ls h = record { shells = b.shells; faces = b.faces; loops = ls; edges = kev_edges b h; vertices = set b.vertices (start b (mate h)) None; handles = b.handles }

-- both halves are gone, whatever the loops are
pub shrunk_gone : (b : Boundary) (ls : List (Option Loop)) (h : ℕ) → Sound b → Used b h → next b h ≡ mate h → Gone b (shrunk b ls h) h (mate h)
shrunk_gone b ls h s h_used to-mate = record {
  x_used = h_used;
  y_used = mate_used_too b h s h_used to-mate;
  mate_x = refl;
  mate_y = mate_mate h;
  in_use = left_out b h s h_used to-mate;
  still_in_use = left_in b h s h_used to-mate;
  old_start = λ j u n m. left_start b h s h_used to-mate j n m;
  to_x = λ j u n m e. left_hit b h s h_used to-mate j u n m e ∙ sym (past_on b h (mate h) (after_not_mate b h s h_used to-mate));
  to_y = λ j u n m e. absurd (n (s.continues.apart j h u h_used (e ∙ sym to-mate)));
  elsewhere = λ j u n m nh nm. left_miss b h s h_used to-mate j u n m nh;
}

pub record LoopsLeft (b : Boundary) (ls : List (Option Loop)) (h : ℕ) : Type 0 where
  pub size : length ls ≡ length b.loops
  pub counted : count ls ≡ count b.loops
  pub has_in : (m : ℕ) → Has b.loops m → Has ls m
  pub has_out : (m : ℕ) → Has ls m → Has b.loops m
  pub face_same : (m : ℕ) → face_of (row ls m) ≡ loop_face b m
  pub lone_cases : (m u : ℕ) → lone_of (row ls m) ≡ Some u → (lone b m ≡ Some u) ⊎ ((m ≡ owner b h) × (u ≡ start b h) × (next b (mate h) ≡ h))
  pub lone_none : (m : ℕ) → lone_of (row ls m) ≡ None → (lone b m ≡ None) × (m ≡ owner b h → next b (mate h) ≢ h)
  pub lone_still : (m u : ℕ) → lone b m ≡ Some u → lone_of (row ls m) ≡ Some u
  pub lone_then : next b (mate h) ≡ h → lone_of (row ls (owner b h)) ≡ Some (start b h)

module _ (b : Boundary) (ls : List (Option Loop)) (h : ℕ) (s : Sound b) (h_used : Used b h) (to-mate : next b h ≡ mate h) (o : LoopsLeft b ls h) where
  abbrev c : Boundary
  c = shrunk b ls h

  abbrev v : ℕ
  v = start b (mate h)

  v_used : Has b.vertices v
  v_used = s.named.start_used (mate h) (mate_used_too b h s h_used to-mate)

  out : (j : ℕ) → Used c j → Used b j × (j ≢ h) × (j ≢ mate h)
  out = left_out b h s h_used to-mate

  start_same : (j : ℕ) → Used c j → start c j ≡ start b j
  start_same = start_was b c h (mate h) s (shrunk_gone b ls h s h_used to-mate)

  owner_same : (j : ℕ) → Used c j → owner c j ≡ owner b j
  owner_same j u = left_owner b h s h_used to-mate j (out j u).1 (out j u).2

  shrunk_sizes : Sizes c
  shrunk_sizes = record {
    shells = s.sizes.shells;
    faces = s.sizes.faces;
    loops = o.size ∙ s.sizes.loops;
    edges = left_size b h s h_used to-mate ∙ s.sizes.edges;
    vertices = length_put b.vertices v None ∙ s.sizes.vertices;
  }

  start_now : (j : ℕ) → Used c j → Has c.vertices (start c j)
  start_now j u =
      let m = out j u in
      subst (Has c.vertices) (sym (start_same j u)) (has_clear_in b.vertices v (start b j) (λ e. m.2 (only_mate b h s h_used to-mate j m.0 e)) (s.named.start_used j m.0))

  start_not_end : start b h ≢ v
  start_not_end e = mate_apart h (sym (only_mate b h s h_used to-mate h h_used e))

  lone_not_end : (m u : ℕ) → lone b m ≡ Some u → u ≢ v
  lone_not_end m u q e = s.lone.not_both m u (mate h) q (mate_used_too b h s h_used to-mate) (sym e)

  lone_now : (m u : ℕ) → lone c m ≡ Some u → Has c.vertices u
  lone_now m u q = elim (o.lone_cases m u q) [
    | inl a ↦ has_clear_in b.vertices v u (lone_not_end m u a) (s.named.lone_used m u a)
    | inr a ↦ has_clear_in b.vertices v u (λ e. start_not_end (sym a.1 ∙ e)) (subst (Has b.vertices) (sym a.1) (s.named.start_used h h_used))
  ]

  shrunk_named : Named c
  shrunk_named = record {
    start_used = start_now;
    next_used = (left_loops b h s h_used to-mate).closed;
    owner_used = λ j u. subst (Has ls) (sym (owner_same j u)) (o.has_in (owner b j) (s.named.owner_used j (out j u).0));
    lone_used = lone_now;
    face_used = λ m u. subst (Has b.faces) (sym (o.face_same m)) (s.named.face_used m (o.has_out m u));
    shell_used = s.named.shell_used;
    outer_used = λ f u. o.has_in (outer_of (row b.faces f)) (s.named.outer_used f u);
  }

  lone_alone_now : (m u j : ℕ) → lone c m ≡ Some u → Used c j → owner c j ≢ m
  lone_alone_now m u j q x at = elim (o.lone_cases m u q) [
    | inl a ↦ s.lone.lone_alone m u j a (out j x).0 (sym (owner_same j x) ∙ at)
    | inr a ↦ none_on_loop b h s h_used to-mate a.2 j x (at ∙ a.0)
  ]

  not_both_now : (m u j : ℕ) → lone c m ≡ Some u → Used c j → start c j ≢ u
  not_both_now m u j q x at = elim (o.lone_cases m u q) [
    | inl a ↦ s.lone.not_both m u j a (out j x).0 (sym (start_same j x) ∙ at)
    | inr a ↦ none_at_start b h s h_used to-mate a.2 j x (at ∙ a.1)
  ]

  one_loop_now : (m n u : ℕ) → lone c m ≡ Some u → lone c n ≡ Some u → m ≡ n
  one_loop_now m n u q t = elim (o.lone_cases m u q) [
    | inl a ↦ elim (o.lone_cases n u t) [
      | inl d ↦ s.lone.one_loop m n u a d
      | inr d ↦ absurd (s.lone.not_both m u h a h_used (sym d.1))
    ]
    | inr a ↦ elim (o.lone_cases n u t) [
      | inl d ↦ absurd (s.lone.not_both n u h d h_used (sym a.1))
      | inr d ↦ a.0 ∙ sym d.0
    ]
  ]

  -- a half-edge of b on m is left, or else one that is on m too
  left_on : (m j : ℕ) → Used b j → owner b j ≡ m → (m ≡ owner b h → next b (mate h) ≢ h) → HasHalf c m
  left_on m j u e ne = elim (ℕ_discrete j h) [
    | yes q ↦ after_on (sym e ∙ ap (owner b) q)
    | no n ↦ elim (ℕ_discrete j (mate h)) [
      | yes q ↦ after_on (sym e ∙ ap (owner b) q ∙ same_loop b h s h_used to-mate)
      | no k ↦ (j, left_in b h s h_used to-mate j u n k, left_owner b h s h_used to-mate j n k ∙ e)
    ]
  ]
    where
      after_on : m ≡ owner b h → HasHalf c m
      after_on q = (next b (mate h), after_left b h s h_used to-mate (ne q), after_owner b h s h_used to-mate (ne q) ∙ sym q)

  else_half_now : (m : ℕ) → Has ls m → lone c m ≡ None → HasHalf c m
  else_half_now m u q =
      let n = o.lone_none m q in
      let x = s.lone.else_half_edge m (o.has_out m u) n.0 in
      left_on m x.0 x.1 x.2 n.1

  -- a vertex that is left is still a start, or lone
  start_placed : Placed c (start b h)
  start_placed = elim (ℕ_discrete (next b (mate h)) h) [
    | yes e ↦ inr (owner b h, o.lone_then e)
    | no ne ↦ inl (next b (mate h), after_left b h s h_used to-mate ne, after_start b h s h_used to-mate ne)
  ]

  half_placed : (u j : ℕ) → Used b j → start b j ≡ u → u ≢ v → Placed c u
  half_placed u j x e n = elim (ℕ_discrete j h) [
    | yes q ↦ subst (Placed c) (ap (start b) (sym q) ∙ e) start_placed
    | no ne ↦
        let nm : j ≢ mate h = λ q. n (sym e ∙ ap (start b) q) in
        inl (j, left_in b h s h_used to-mate j x ne nm, left_start b h s h_used to-mate j ne nm ∙ e)
  ]

  placed : (u : ℕ) → Has c.vertices u → Placed c u
  placed u x =
      let old = has_clear_out b.vertices v u x in
      elim (s.lone.start_or_lone u old.0) [
        | inl y ↦ half_placed u y.0 y.1 y.2 old.1
        | inr y ↦ inr (y.0, o.lone_still y.0 u y.1)
      ]

  shrunk_lone : LoneVertices c
  shrunk_lone = record {
    lone_alone = lone_alone_now;
    else_half_edge = else_half_now;
    start_or_lone = placed;
    one_loop = one_loop_now;
    not_both = not_both_now;
  }

  shrunk_outer : Outer c
  shrunk_outer = record {
    lies_in = λ f u. o.face_same (outer_of (row b.faces f)) ∙ s.outer.lies_in f u;
    some_face = s.outer.some_face;
  }

  shell_same : (j : ℕ) → Used c j → loop_shell c (owner c j) ≡ loop_shell b (owner b j)
  shell_same j u = ap (loop_shell c) (owner_same j u) ∙ ap (face_shell b) (o.face_same (owner b j))

  shrunk_shell : OneShell c
  shrunk_shell j u = shell_same j u ∙ s.one_shell j (out j u).0 ∙ sym (shell_same (mate j) (used_mate c j u))

  shrunk_balanced : Balanced c
  shrunk_balanced = omega (arith, s.balanced, o.counted, left_count b h s h_used to-mate, count_clear b.vertices v v_used)

  new_turns : Rings (turn c) (Used c) (start c)
  new_turns = turns_left b c h (mate h) s (shrunk_gone b ls h s h_used to-mate)

  shrunk_sound : Sound c
  shrunk_sound = record {
    sizes = shrunk_sizes;
    named = shrunk_named;
    continues = continues_by c (left_loops b h s h_used to-mate) new_turns;
    loops = loop_rings_by c (left_loops b h s h_used to-mate);
    vertices = vertex_rings_by c new_turns;
    lone = shrunk_lone;
    outer = shrunk_outer;
    one_shell = shrunk_shell;
    balanced = shrunk_balanced;
  }

-- the loops then: where the ring is emptied, the start of h is lone on its loop
abbrev pub emptied_loops : Boundary → ℕ → List (Option Loop)
emptied_loops b h = lone_put (eqb (next b (mate h)) h) b.loops (owner b h) (start b h)

module _ (b : Boundary) (h : ℕ) (s : Sound b) (h_used : Used b h) where
  abbrev l : ℕ
  l = owner b h

  abbrev back : Bool
  back = eqb (next b (mate h)) h

  l_used : Has b.loops l
  l_used = s.named.owner_used h h_used

  pub row_other : (m : ℕ) → m ≢ l → row (emptied_loops b h) m ≡ row b.loops m
  row_other m ne = lone_put_other back b.loops l (start b h) m ne

  pub lone_here : next b (mate h) ≡ h → (m : ℕ) → m ≡ l → lone_of (row (emptied_loops b h) m) ≡ Some (start b h)
  lone_here e m q = ap (λ i. lone_of (row (emptied_loops b h) i)) q ∙ lone_put_true back b.loops l (start b h) l_used (eq-eqb (next b (mate h)) h e)

  lone_as_was : next b (mate h) ≢ h → (m : ℕ) → lone_of (row (emptied_loops b h) m) ≡ lone b m
  lone_as_was ne m = ap lone_of (lone_put_false back b.loops l (start b h) m (ne_eqb (next b (mate h)) h ne))

  loops_left : LoopsLeft b (emptied_loops b h) h
  loops_left = record {
    size = lone_put_length back b.loops l (start b h);
    counted = lone_put_count back b.loops l (start b h) l_used;
    has_in = lone_put_has_in back b.loops l (start b h);
    has_out = λ m u. lone_put_has_out back b.loops l (start b h) m l_used u;
    face_same = λ m. lone_put_face back b.loops l (start b h) m l_used;
    lone_cases = λ m u a. elim (ℕ_discrete m l) [
      | no ne ↦ inl (sym (ap lone_of (row_other m ne)) ∙ a)
      | yes q ↦ elim (ℕ_discrete (next b (mate h)) h) [
        | yes e ↦ inr (q, some_same a (lone_here e m q), e)
        | no ne ↦ inl (sym (lone_as_was ne m) ∙ a)
      ]
    ];
    lone_none = λ m a. elim (ℕ_discrete (next b (mate h)) h) [
      | no ne ↦ (sym (lone_as_was ne m) ∙ a, λ q. ne)
      | yes e ↦ elim (ℕ_discrete m l) [
        | yes q ↦ absurd (none_not_some a (lone_here e m q))
        | no ne ↦ (sym (ap lone_of (row_other m ne)) ∙ a, λ q. absurd (ne q))
      ]
    ];
    lone_still = λ m u a. ap lone_of (row_other m (lone_not_owner b s h h_used m u a)) ∙ a;
    lone_then = λ e. lone_here e l refl;
  }

pub kev_is : (b : Boundary) (h : ℕ) → kev b h ≡ shrunk b (emptied_loops b h) h
kev_is b h = ap (λ w. clear_vertex (clear_edge w (h / 2)) (start b (mate h))) (emptied_is (eqb (next b (mate h)) h) (led b h (next b (mate h))) (owner b h) (start b h))

-- what an accepted edit says
pub kev_accepted : (b : Boundary) (h : ℕ) → kev_refusal b h ≡ None → Used b h × (next b h ≡ mate h)
kev_accepted b h q =
    let first = unless_none (half_used b h) Unused (unless (eqb (next b h) (mate h)) Condition None) q in
    let second = unless_none (eqb (next b h) (mate h)) Condition None first.1 in
    (true_T (half_used b h) first.0, eqb-true (next b h) (mate h) second.0)

pub kev_keeps : (b : Boundary) (h : ℕ) → Sound b → h < 384 → kev_refusal b h ≡ None → Sound (kev b h)
kev_keeps b h s small q =
    let a = kev_accepted b h q in
    subst Sound (sym (kev_is b h)) (shrunk_sound b (emptied_loops b h) h s a.0 a.1 (loops_left b h s a.0))
