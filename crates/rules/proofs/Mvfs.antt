-- A new shell with one face, one loop and one lone vertex keeps the rules: what was there does not name it, and it names itself.
use Rattle.std.proofs.Common.{◌≡◌, ℕ, ◌<◌, ◌&&◌, T, ◌≢◌, ◌⊎◌, length, is_some, Some, None, sym, ap, ◌∙◌, subst, inl, inr, arith}
use native.Mathlib.Decide.{ℕ_discrete}
use Rattle.boundary.specs.declared.Refusal.TheVariants.{Taken}
use Rattle.boundary.specs.declared.Point.{Point}
use Rattle.boundary.specs.declared.Boundary.{Boundary}
use Rattle.boundary.specs.Tables.{row, start, owner, mate, lone, lone_of, face_of, shell_of, outer_of, loop_face, face_shell, loop_shell}
use Rattle.boundary.specs.Operators.{mvfs}
use Rattle.boundary.specs.Refusals.{free, mvfs_refusal}
use Rattle.rules.specs.Rules.{Has, Used, Sizes, Named, LoneVertices, Outer, OneShell, Balanced, Sound}
use Rattle.rules.proofs.Rows.{unless_none, free_not_has, has_apart, row_put_same, row_put_other, length_put, has_put_same, has_put_other_in, has_put_cases, lone_has}
use Rattle.rules.proofs.Counts.{count_put_free}
use Rattle.rules.proofs.Halves.{used_mate}
use Rattle.rules.proofs.SameEdges.{continues_beside, loops_beside, vertices_beside}
use Rattle.std.proofs.lemmas.Bool.{and_parts}
use Rattle.rules.proofs.RulesAsRings.{HasHalf, Placed}

-- the four numbers are in range and free
pub record Fresh (b : Boundary) (a f l v : ℕ) : Type 0 where
  pub shell_below : a < length b.shells
  pub face_below : f < length b.faces
  pub loop_below : l < length b.loops
  pub vertex_below : v < length b.vertices
  pub shell_free : Has b.shells a → ⊥
  pub face_free : Has b.faces f → ⊥
  pub loop_free : Has b.loops l → ⊥
  pub vertex_free : Has b.vertices v → ⊥

module _ (b : Boundary) (a f l v : ℕ) (p : Point) (s : Sound b) (n : Fresh b a f l v) where
  abbrev new : Boundary
  new = mvfs b a f l v p

  -- the new rows
  lone_here : lone new l ≡ Some v
  lone_here = ap lone_of (row_put_same b.loops l (Some _) n.loop_below)

  face_here : loop_face new l ≡ f
  face_here = ap face_of (row_put_same b.loops l (Some _) n.loop_below)

  shell_here : face_shell new f ≡ a
  shell_here = ap shell_of (row_put_same b.faces f (Some _) n.face_below)

  outer_here : outer_of (row new.faces f) ≡ l
  outer_here = ap outer_of (row_put_same b.faces f (Some _) n.face_below)

  -- the old ones
  loop_there : (m : ℕ) → Has b.loops m → row new.loops m ≡ row b.loops m
  loop_there m u = row_put_other b.loops l m (Some _) (has_apart b.loops m l u n.loop_free)

  face_there : (g : ℕ) → Has b.faces g → row new.faces g ≡ row b.faces g
  face_there g u = row_put_other b.faces f g (Some _) (has_apart b.faces g f u n.face_free)

  shell_in : (c : ℕ) → Has b.shells c → Has new.shells c
  shell_in c u = has_put_other_in b.shells a c (record {}) u

  face_in : (g : ℕ) → Has b.faces g → Has new.faces g
  face_in g u = has_put_other_in b.faces f g _ u

  loop_in : (m : ℕ) → Has b.loops m → Has new.loops m
  loop_in m u = has_put_other_in b.loops l m _ u

  vertex_in : (w : ℕ) → Has b.vertices w → Has new.vertices w
  vertex_in w u = has_put_other_in b.vertices v w p u

  lone_there : (m w : ℕ) → lone b m ≡ Some w → lone new m ≡ Some w
  lone_there m w e = ap lone_of (loop_there m (lone_has b m w e)) ∙ e

  lone_cases : (m w : ℕ) → lone new m ≡ Some w → ((m ≡ l) × (w ≡ v)) ⊎ (lone b m ≡ Some w)
  lone_cases m w e = elim (ℕ_discrete m l) [
    | yes q ↦ let here : lone new m ≡ Some v = ap (lone new) q ∙ lone_here in inl (q, cc)
    | no ne ↦ inr (sym (ap lone_of (row_put_other b.loops l m (Some _) ne)) ∙ e)
  ]

  sizes : Sizes new
  sizes = record {
    shells = length_put b.shells a _ ∙ s.sizes.shells;
    faces = length_put b.faces f _ ∙ s.sizes.faces;
    loops = length_put b.loops l _ ∙ s.sizes.loops;
    edges = s.sizes.edges;
    vertices = length_put b.vertices v _ ∙ s.sizes.vertices;
  }

  vertex_here : Has new.vertices v
  vertex_here = has_put_same b.vertices v p n.vertex_below

  lone_used : (m w : ℕ) → lone new m ≡ Some w → Has new.vertices w
  lone_used m w e = elim (lone_cases m w e) [
    | inl q ↦ subst (Has new.vertices) (sym q.1) vertex_here
    | inr old ↦ vertex_in w (s.named.lone_used m w old)
  ]

  face_used : (m : ℕ) → Has new.loops m → Has new.faces (loop_face new m)
  face_used m u = elim (has_put_cases b.loops l m _ u) [
    | inl q ↦ subst (Has new.faces) (sym (ap (loop_face new) q ∙ face_here)) (has_put_same b.faces f _ n.face_below)
    | inr old ↦ subst (Has new.faces) (sym (ap face_of (loop_there m old))) (face_in (loop_face b m) (s.named.face_used m old))
  ]

  shell_used : (g : ℕ) → Has new.faces g → Has new.shells (face_shell new g)
  shell_used g u = elim (has_put_cases b.faces f g _ u) [
    | inl q ↦ subst (Has new.shells) (sym (ap (face_shell new) q ∙ shell_here)) (has_put_same b.shells a (record {}) n.shell_below)
    | inr old ↦ subst (Has new.shells) (sym (ap shell_of (face_there g old))) (shell_in (face_shell b g) (s.named.shell_used g old))
  ]

  outer_used : (g : ℕ) → Has new.faces g → Has new.loops (outer_of (row new.faces g))
  outer_used g u = elim (has_put_cases b.faces f g _ u) [
    | inl q ↦ subst (Has new.loops) (sym (ap (λ i. outer_of (row new.faces i)) q ∙ outer_here)) (has_put_same b.loops l _ n.loop_below)
    | inr old ↦ subst (Has new.loops) (sym (ap outer_of (face_there g old))) (loop_in (outer_of (row b.faces g)) (s.named.outer_used g old))
  ]

  named : Named new
  named = record {
    start_used = λ h u. vertex_in (start b h) (s.named.start_used h u);
    next_used = s.named.next_used;
    owner_used = λ h u. loop_in (owner b h) (s.named.owner_used h u);
    lone_used = lone_used;
    face_used = face_used;
    shell_used = shell_used;
    outer_used = outer_used;
  }

  -- no half-edge lies on the new loop or starts at the new vertex
  owner_apart : (h : ℕ) → Used b h → owner b h ≢ l
  owner_apart h u = has_apart b.loops (owner b h) l (s.named.owner_used h u) n.loop_free

  start_apart : (h : ℕ) → Used b h → start b h ≢ v
  start_apart h u = has_apart b.vertices (start b h) v (s.named.start_used h u) n.vertex_free

  lone_alone : (m w h : ℕ) → lone new m ≡ Some w → Used b h → owner b h ≢ m
  lone_alone m w h e u = elim (lone_cases m w e) [
    | inl q ↦ λ o. owner_apart h u (o ∙ q.0)
    | inr old ↦ s.lone.lone_alone m w h old u
  ]

  else_half_edge : (m : ℕ) → Has new.loops m → lone new m ≡ None → HasHalf b m
  else_half_edge m u e = elim (has_put_cases b.loops l m _ u) [
    | inl q ↦
        let some : lone new m ≡ Some v = ap (lone new) q ∙ lone_here in
        absurd (subst (λ o. T (is_some o)) (sym some ∙ e) tt)
    | inr old ↦ s.lone.else_half_edge m old (sym (ap lone_of (loop_there m old)) ∙ e)
  ]

  start_or_lone : (w : ℕ) → Has new.vertices w → Placed new w
  start_or_lone w u = elim (has_put_cases b.vertices v w p u) [
    | inl q ↦ inr (l, lone_here ∙ ap Some (sym q))
    | inr old ↦ elim (s.lone.start_or_lone w old) [ inl x ↦ inl x | inr y ↦ inr (y.0, lone_there y.0 w y.1) ]
  ]

  -- the new vertex is lone on no old loop
  lone_apart : (m w : ℕ) → lone b m ≡ Some w → w ≢ v
  lone_apart m w e = has_apart b.vertices w v (s.named.lone_used m w e) n.vertex_free

  one_loop : (m k w : ℕ) → lone new m ≡ Some w → lone new k ≡ Some w → m ≡ k
  one_loop m k w d e = elim (lone_cases m w d) [
    | inl q ↦ elim (lone_cases k w e) [ inl r ↦ q.0 ∙ sym r.0 | inr old ↦ absurd (lone_apart k w old q.1) ]
    | inr was ↦ elim (lone_cases k w e) [ inl r ↦ absurd (lone_apart m w was r.1) | inr old ↦ s.lone.one_loop m k w was old ]
  ]

  not_both : (m w h : ℕ) → lone new m ≡ Some w → Used b h → start b h ≢ w
  not_both m w h e u = elim (lone_cases m w e) [
    | inl q ↦ λ o. start_apart h u (o ∙ q.1)
    | inr old ↦ s.lone.not_both m w h old u
  ]

  lone_rule : LoneVertices new
  lone_rule = record { lone_alone = lone_alone; else_half_edge = else_half_edge; start_or_lone = start_or_lone; one_loop = one_loop; not_both = not_both }

  lies_in : (g : ℕ) → Has new.faces g → loop_face new (outer_of (row new.faces g)) ≡ g
  lies_in g u = elim (has_put_cases b.faces f g _ u) [
    | inl q ↦ ap (λ i. loop_face new (outer_of (row new.faces i))) q ∙ ap (loop_face new) outer_here ∙ face_here ∙ sym q
    | inr old ↦ ap (λ r. loop_face new (outer_of r)) (face_there g old) ∙ ap face_of (loop_there (outer_of (row b.faces g)) (s.named.outer_used g old)) ∙ s.outer.lies_in g old
  ]

  some_face : (c : ℕ) → Has new.shells c → (g : ℕ) × Has new.faces g × (face_shell new g ≡ c)
  some_face c u = elim (has_put_cases b.shells a c (record {}) u) [
    | inl q ↦ (f, has_put_same b.faces f _ n.face_below, shell_here ∙ sym q)
    | inr old ↦
        let g = s.outer.some_face c old in
        (g.0, face_in g.0 g.1, ap shell_of (face_there g.0 g.1) ∙ g.2)
  ]

  outer_rule : Outer new
  outer_rule = record { lies_in = lies_in; some_face = some_face }

  shell_there : (m : ℕ) → Has b.loops m → loop_shell new m ≡ loop_shell b m
  shell_there m u = ap (λ r. face_shell new (face_of r)) (loop_there m u) ∙ ap shell_of (face_there (loop_face b m) (s.named.face_used m u))

  one_shell : OneShell new
  one_shell h u =
      shell_there (owner b h) (s.named.owner_used h u) ∙ s.one_shell h u ∙ sym (shell_there (owner b (mate h)) (s.named.owner_used (mate h) (used_mate b h u)))

  balanced : Balanced new
  balanced =
      omega (arith, s.balanced, count_put_free b.shells a (record {}) n.shell_below n.shell_free, count_put_free b.faces f (record { shell = a; outer = l }) n.face_below n.face_free, count_put_free b.loops l (record { face = f; lone = Some v }) n.loop_below n.loop_free, count_put_free b.vertices v p n.vertex_below n.vertex_free)

  sound : Sound new
  sound = record {
    sizes = sizes;
    named = named;
    continues = continues_beside b _ _ _ _ _ s.continues;
    loops = loops_beside b _ _ _ _ _ s.loops;
    vertices = vertices_beside b _ _ _ _ _ s.vertices;
    lone = lone_rule;
    outer = outer_rule;
    one_shell = one_shell;
    balanced = balanced;
  }

pub fresh : (b : Boundary) (a f l v : ℕ) → Sizes b → a < 8 → f < 96 → l < 96 → v < 128 → mvfs_refusal b a f l v ≡ None → Fresh b a f l v
fresh b a f l v z la lf ll lv q =
    let all = (unless_none (free b.shells a && (free b.faces f && (free b.loops l && free b.vertices v))) Taken None q).0 in
    let x = and_parts (free b.shells a) (free b.faces f && (free b.loops l && free b.vertices v)) all in
    let y = and_parts (free b.faces f) (free b.loops l && free b.vertices v) x.1 in
    let w = and_parts (free b.loops l) (free b.vertices v) y.1 in
    record {
      shell_below = omega (arith, z.shells);
      face_below = omega (arith, z.faces);
      loop_below = omega (arith, z.loops);
      vertex_below = omega (arith, z.vertices);
      shell_free = free_not_has b.shells a x.0;
      face_free = free_not_has b.faces f y.0;
      loop_free = free_not_has b.loops l w.0;
      vertex_free = free_not_has b.vertices v w.1;
    }

pub mvfs_keeps : (b : Boundary) (a f l v : ℕ) (p : Point) → Sound b → a < 8 → f < 96 → l < 96 → v < 128 → mvfs_refusal b a f l v ≡ None → Sound (mvfs b a f l v p)
mvfs_keeps b a f l v p s la lf ll lv q = sound b a f l v p s (fresh b a f l v s.sizes la lf ll lv q)
