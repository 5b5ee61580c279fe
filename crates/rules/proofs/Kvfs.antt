-- A shell of one face, one loop and one lone vertex goes and keeps the rules: nothing that stays names any of the four.
use Rattle.std.proofs.Common.{◌≡◌, ℕ, ◌<◌, ◌&&◌, eqb, ◌≢◌, is_some, Some, None, Option, unwrap_or, sym, refl, ap, ◌∙◌, subst, inl, inr, arith}
use Rattle.std.proofs.lemmas.Bool.{eqb-true, and_parts}
use Rattle.boundary.specs.declared.Refusal.TheVariants.{Unused, Condition}
use Rattle.boundary.specs.declared.Boundary.{Boundary}
use Rattle.boundary.specs.Tables.{row, used, start, owner, mate, lone, lone_of, face_of, shell_of, outer_of, loop_face, face_shell, loop_shell, faces_in, loops_in}
use Rattle.boundary.specs.Changes.{clear_shell, clear_face, clear_loop, clear_vertex}
use Rattle.boundary.specs.Operators.{face_in, kvfs}
use Rattle.boundary.specs.Refusals.{is_minimal, kvfs_refusal}
use Rattle.rules.specs.Rules.{Has, Used, Sizes, Named, LoneVertices, Outer, OneShell, Balanced, Sound}
use Rattle.rules.proofs.Rows.{some_value, true_T, unless_none, row_put_other, length_put, has_clear_in, has_clear_out, lone_has}
use Rattle.rules.proofs.Counts.{count_clear}
use Rattle.rules.proofs.Fields.{one_loop_in, one_face_in, face_in_is}
use Rattle.rules.proofs.Halves.{used_mate}
use Rattle.rules.proofs.SameEdges.{continues_beside, loops_beside, vertices_beside}
use Rattle.rules.proofs.RulesAsRings.{HasHalf, Placed}

-- the face f is the only one of the shell a, the loop l the only one of f, and the vertex v is lone on l
record Minimal (b : Boundary) (a f l v : ℕ) : Type 0 where
  shell_used : Has b.shells a
  face_used : Has b.faces f
  face_lies : face_shell b f ≡ a
  one_face : faces_in b a ≡ 1
  one_loop : loops_in b f ≡ 1
  outer_is : outer_of (row b.faces f) ≡ l
  lone_is : lone b l ≡ Some v

-- all four go
abbrev without : Boundary → ℕ → ℕ → ℕ → ℕ → Boundary
without b a f l v = clear_vertex (clear_loop (clear_face (clear_shell b a) f) l) v

module _ (b : Boundary) (a f l v : ℕ) (s : Sound b) (m : Minimal b a f l v) where
  abbrev new : Boundary
  new = without b a f l v

  loop_used : Has b.loops l
  loop_used = lone_has b l v m.lone_is

  loop_lies : loop_face b l ≡ f
  loop_lies = ap (loop_face b) (sym m.outer_is) ∙ s.outer.lies_in f m.face_used

  -- what is left is as it was
  loop_there : (k : ℕ) → k ≢ l → row new.loops k ≡ row b.loops k
  loop_there k ne = row_put_other b.loops l k None ne

  face_there : (g : ℕ) → g ≢ f → row new.faces g ≡ row b.faces g
  face_there g ne = row_put_other b.faces f g None ne

  shell_in : (c : ℕ) → c ≢ a → Has b.shells c → Has new.shells c
  shell_in c ne u = has_clear_in b.shells a c ne u

  face_stays : (g : ℕ) → g ≢ f → Has b.faces g → Has new.faces g
  face_stays g ne u = has_clear_in b.faces f g ne u

  loop_in : (k : ℕ) → k ≢ l → Has b.loops k → Has new.loops k
  loop_in k ne u = has_clear_in b.loops l k ne u

  vertex_in : (w : ℕ) → w ≢ v → Has b.vertices w → Has new.vertices w
  vertex_in w ne u = has_clear_in b.vertices v w ne u

  lone_in : (k w : ℕ) → k ≢ l → lone b k ≡ Some w → lone new k ≡ Some w
  lone_in k w ne e = ap lone_of (loop_there k ne) ∙ e

  lone_out : (k w : ℕ) → lone new k ≡ Some w → (k ≢ l) × (lone b k ≡ Some w)
  lone_out k w e =
      let ne = (has_clear_out b.loops l k (lone_has new k w e)).1 in
      (ne, sym (ap lone_of (loop_there k ne)) ∙ e)

  -- and names none of the four
  owner_apart : (h : ℕ) → Used b h → owner b h ≢ l
  owner_apart h u = s.lone.lone_alone l v h m.lone_is u

  start_apart : (h : ℕ) → Used b h → start b h ≢ v
  start_apart h u = s.lone.not_both l v h m.lone_is u

  lone_apart : (k w : ℕ) → k ≢ l → lone b k ≡ Some w → w ≢ v
  lone_apart k w ne e q = ne (s.lone.one_loop k l v (e ∙ ap Some q) m.lone_is)

  loop_face_apart : (k : ℕ) → k ≢ l → Has b.loops k → loop_face b k ≢ f
  loop_face_apart k ne u e = ne (one_loop_in b f k l m.one_loop u e loop_used loop_lies)

  face_shell_apart : (g : ℕ) → g ≢ f → Has b.faces g → face_shell b g ≢ a
  face_shell_apart g ne u e = ne (one_face_in b a g f m.one_face u e m.face_used m.face_lies)

  outer_apart : (g : ℕ) → g ≢ f → Has b.faces g → outer_of (row b.faces g) ≢ l
  outer_apart g ne u e = ne (sym (s.outer.lies_in g u) ∙ ap (loop_face b) e ∙ loop_lies)

  sizes : Sizes new
  sizes = record {
    shells = length_put b.shells a None ∙ s.sizes.shells;
    faces = length_put b.faces f None ∙ s.sizes.faces;
    loops = length_put b.loops l None ∙ s.sizes.loops;
    edges = s.sizes.edges;
    vertices = length_put b.vertices v None ∙ s.sizes.vertices;
  }

  lone_used : (k w : ℕ) → lone new k ≡ Some w → Has new.vertices w
  lone_used k w e =
      let o = lone_out k w e in
      vertex_in w (lone_apart k w o.0 o.1) (s.named.lone_used k w o.1)

  face_used : (k : ℕ) → Has new.loops k → Has new.faces (loop_face new k)
  face_used k u =
      let o = has_clear_out b.loops l k u in
      subst (Has new.faces) (sym (ap face_of (loop_there k o.1))) (face_stays (loop_face b k) (loop_face_apart k o.1 o.0) (s.named.face_used k o.0))

  shell_used : (g : ℕ) → Has new.faces g → Has new.shells (face_shell new g)
  shell_used g u =
      let o = has_clear_out b.faces f g u in
      subst (Has new.shells) (sym (ap shell_of (face_there g o.1))) (shell_in (face_shell b g) (face_shell_apart g o.1 o.0) (s.named.shell_used g o.0))

  outer_used : (g : ℕ) → Has new.faces g → Has new.loops (outer_of (row new.faces g))
  outer_used g u =
      let o = has_clear_out b.faces f g u in
      subst (Has new.loops) (sym (ap outer_of (face_there g o.1))) (loop_in (outer_of (row b.faces g)) (outer_apart g o.1 o.0) (s.named.outer_used g o.0))

  named : Named new
  named = record {
    start_used = λ h u. vertex_in (start b h) (start_apart h u) (s.named.start_used h u);
    next_used = s.named.next_used;
    owner_used = λ h u. loop_in (owner b h) (owner_apart h u) (s.named.owner_used h u);
    lone_used = lone_used;
    face_used = face_used;
    shell_used = shell_used;
    outer_used = outer_used;
  }

  else_half_edge : (k : ℕ) → Has new.loops k → lone new k ≡ None → HasHalf b k
  else_half_edge k u e =
      let o = has_clear_out b.loops l k u in
      s.lone.else_half_edge k o.0 (sym (ap lone_of (loop_there k o.1)) ∙ e)

  start_or_lone : (w : ℕ) → Has new.vertices w → Placed new w
  start_or_lone w u =
      let o = has_clear_out b.vertices v w u in
      elim (s.lone.start_or_lone w o.0) [
        | inl x ↦ inl x
        | inr y ↦ inr (y.0, lone_in y.0 w (λ q. o.1 (other y.0 w y.1 q)) y.1)
      ]
    where
      other : (k x : ℕ) → lone b k ≡ Some x → k ≡ l → x ≡ v
      other k x e q = let same : lone b k ≡ Some v = ap (lone b) q ∙ m.lone_is in cc

  lone_rule : LoneVertices new
  lone_rule = record {
    lone_alone = λ k w h e u. s.lone.lone_alone k w h (lone_out k w e).1 u;
    else_half_edge = else_half_edge;
    start_or_lone = start_or_lone;
    one_loop = λ k i w d e. s.lone.one_loop k i w (lone_out k w d).1 (lone_out i w e).1;
    not_both = λ k w h e u. s.lone.not_both k w h (lone_out k w e).1 u;
  }

  lies_in : (g : ℕ) → Has new.faces g → loop_face new (outer_of (row new.faces g)) ≡ g
  lies_in g u =
      let o = has_clear_out b.faces f g u in
      ap (λ r. loop_face new (outer_of r)) (face_there g o.1) ∙ ap face_of (loop_there (outer_of (row b.faces g)) (outer_apart g o.1 o.0)) ∙ s.outer.lies_in g o.0

  some_face : (c : ℕ) → Has new.shells c → (g : ℕ) × Has new.faces g × (face_shell new g ≡ c)
  some_face c u =
      let o = has_clear_out b.shells a c u in
      let g = s.outer.some_face c o.0 in
      let ne : g.0 ≢ f = λ q. o.1 (sym g.2 ∙ ap (face_shell b) q ∙ m.face_lies) in
      (g.0, face_stays g.0 ne g.1, ap shell_of (face_there g.0 ne) ∙ g.2)

  outer_rule : Outer new
  outer_rule = record { lies_in = lies_in; some_face = some_face }

  shell_there : (h : ℕ) → Used b h → loop_shell new (owner b h) ≡ loop_shell b (owner b h)
  shell_there h u =
      let ne = owner_apart h u in
      ap (λ r. face_shell new (face_of r)) (loop_there (owner b h) ne) ∙ ap shell_of (face_there (loop_face b (owner b h)) (loop_face_apart (owner b h) ne (s.named.owner_used h u)))

  one_shell : OneShell new
  one_shell h u = shell_there h u ∙ s.one_shell h u ∙ sym (shell_there (mate h) (used_mate b h u))

  balanced : Balanced new
  balanced =
      omega (arith, s.balanced, count_clear b.shells a m.shell_used, count_clear b.faces f m.face_used, count_clear b.loops l loop_used, count_clear b.vertices v (s.named.lone_used l v m.lone_is))

  sound : Sound new
  sound = record {
    sizes = sizes;
    named = named;
    continues = continues_beside b _ _ _ _ _ s.continues;
    loops = loops_beside b _ _ _ _ _ s.loops;
    vertices = vertices_beside b _ _ _ _ _ s.vertices;
    lone = lone_rule;
    outer = outer_rule;
    one_shell = one_shell;
    balanced = balanced;
  }

minimal : (b : Boundary) (a : ℕ) → kvfs_refusal b a ≡ None → Minimal b a (face_in b a) (outer_of (row b.faces (face_in b a))) (unwrap_or (lone b (outer_of (row b.faces (face_in b a)))) 0)
minimal b a q =
    let f : ℕ = face_in b a in
    let o : Option ℕ = lone b (outer_of (row b.faces f)) in
    let first = unless_none (used b.shells a) Unused _ q in
    let second = unless_none (is_minimal b a) Condition None first.1 in
    let x = and_parts (eqb (faces_in b a) 1) (eqb (loops_in b f) 1 && is_some o) second.0 in
    let y = and_parts (eqb (loops_in b f) 1) (is_some o) x.1 in
    let one = eqb-true (faces_in b a) 1 x.0 in
    let is = face_in_is b a one in
    record {
      shell_used = true_T (used b.shells a) first.0;
      face_used = is.0;
      face_lies = is.1;
      one_face = one;
      one_loop = eqb-true (loops_in b f) 1 y.0;
      outer_is = refl;
      lone_is = some_value o (true_T (is_some o) y.1);
    }

pub kvfs_keeps : (b : Boundary) (a : ℕ) → Sound b → a < 8 → kvfs_refusal b a ≡ None → Sound (kvfs b a)
kvfs_keeps b a s lt q = sound b a _ _ _ s (minimal b a q)
