-- A face that becomes an inner loop of another keeps the rules. Of two shells, first the faces of one take the other's, so that both faces lie in one shell; then the loops of one face lie in the other. Each step keeps every rule but the balance.
use Rattle.std.proofs.Common.{◌≡◌, ℕ, ◌<◌, cond, not, ◌&&◌, eqb, ◌≢◌, None, sym, refl, ap, ◌∙◌, subst, inl, inr, arith}
use native.Mathlib.Decide.{ℕ_discrete}
use Rattle.std.specs.Option.{option_map}
use Rattle.std.proofs.lemmas.List.{map-set}
use Rattle.std.proofs.lemmas.Bool.{eq-eqb, ne_eqb, cond-true, cond-false, and_parts}
use Rattle.boundary.specs.declared.Refusal.TheVariants.{Unused, Condition}
use Rattle.boundary.specs.declared.Boundary.{Boundary}
use Rattle.boundary.specs.Tables.{row, used, owner, mate, lone, shell_of, outer_of, loop_face, face_shell, loop_shell, loops_in}
use Rattle.boundary.specs.Changes.{with_faces, with_handles, clear_shell, clear_face, inner, inner_loop, merged, merged_face}
use Rattle.boundary.specs.Operators.{one_more, kfmrh}
use Rattle.boundary.specs.Refusals.{kfmrh_refusal}
use Rattle.rules.specs.Rules.{Has, Sizes, Named, Continues, LoopRings, VertexRings, LoneVertices, Outer, OneShell, Balanced, Sound}
use Rattle.rules.proofs.Rows.{true_T, not_eqb, unless_none, row_put_other, length_put, length_mapped, has_clear_in, has_clear_out, has_map_in, has_map_out}
use Rattle.rules.proofs.Counts.{count_clear, count_map, one_more_is}
use Rattle.rules.proofs.Fields.{inner_lone, inner_hit, inner_miss, merged_outer, merged_shell, merged_hit, merged_miss}
use Rattle.rules.proofs.Halves.{used_mate}
use Rattle.rules.proofs.SameEdges.{continues_beside, loops_beside, vertices_beside}
use Rattle.rules.proofs.RulesAsRings.{Placed}

-- every rule but the balance
record AllButBalance (b : Boundary) : Type 0 where
  sizes : Sizes b
  named : Named b
  continues : Continues b
  loops : LoopRings b
  vertices : VertexRings b
  lone : LoneVertices b
  outer : Outer b
  one_shell : OneShell b

all_but_balance : (b : Boundary) → Sound b → AllButBalance b
all_but_balance b s = record {
  sizes = s.sizes;
  named = s.named;
  continues = s.continues;
  loops = s.loops;
  vertices = s.vertices;
  lone = s.lone;
  outer = s.outer;
  one_shell = s.one_shell;
}

sound : (b : Boundary) → AllButBalance b → Balanced b → Sound b
sound b k q = record {
  sizes = k.sizes;
  named = k.named;
  continues = k.continues;
  loops = k.loops;
  vertices = k.vertices;
  lone = k.lone;
  outer = k.outer;
  one_shell = k.one_shell;
  balanced = q;
}

-- the shell c goes, and its faces lie in the shell a
abbrev one_of_two : Boundary → ℕ → ℕ → Boundary
one_of_two b a c = clear_shell (merged b c a) c

module _ (b : Boundary) (a c : ℕ) (k : AllButBalance b) (ua : Has b.shells a) (ne : a ≢ c) where
  abbrev merge : Boundary
  merge = one_of_two b a c

  merge_in : (f : ℕ) → Has b.faces f → Has merge.faces f
  merge_in f u = has_map_in (merged_face c a) b.faces f u

  merge_out : (f : ℕ) → Has merge.faces f → Has b.faces f
  merge_out f u = has_map_out (merged_face c a) b.faces f u

  merge_outer : (f : ℕ) → outer_of (row merge.faces f) ≡ outer_of (row b.faces f)
  merge_outer f = merged_outer b.faces c a f

  merge_shell : (f : ℕ) → Has b.faces f → face_shell merge f ≡ cond (eqb (face_shell b f) c) a (face_shell b f)
  merge_shell f u = merged_shell b.faces c a f u

  merge_sizes : Sizes merge
  merge_sizes = record {
    shells = length_put b.shells c None ∙ k.sizes.shells;
    faces = length_mapped (merged_face c a) b.faces ∙ k.sizes.faces;
    loops = k.sizes.loops;
    edges = k.sizes.edges;
    vertices = k.sizes.vertices;
  }

  merge_shell_used : (f : ℕ) → Has merge.faces f → Has merge.shells (face_shell merge f)
  merge_shell_used f u =
      let old = merge_out f u in
      elim (ℕ_discrete (face_shell b f) c) [
        | yes e ↦ subst (Has merge.shells) (sym (merged_hit b.faces c a f old e)) (has_clear_in b.shells c a ne ua)
        | no other ↦ subst (Has merge.shells) (sym (merged_miss b.faces c a f old other)) (has_clear_in b.shells c (face_shell b f) other (k.named.shell_used f old))
      ]

  merge_named : Named merge
  merge_named = record {
    start_used = k.named.start_used;
    next_used = k.named.next_used;
    owner_used = k.named.owner_used;
    lone_used = k.named.lone_used;
    face_used = λ l u. merge_in (loop_face b l) (k.named.face_used l u);
    shell_used = merge_shell_used;
    outer_used = λ f u. subst (Has b.loops) (sym (merge_outer f)) (k.named.outer_used f (merge_out f u));
  }

  merge_lone : LoneVertices merge
  merge_lone = record {
    lone_alone = k.lone.lone_alone;
    else_half_edge = k.lone.else_half_edge;
    start_or_lone = k.lone.start_or_lone;
    one_loop = k.lone.one_loop;
    not_both = k.lone.not_both;
  }

  -- the faces of a shell that stays keep it
  merge_some_face : (d : ℕ) → Has merge.shells d → (f : ℕ) × Has merge.faces f × (face_shell merge f ≡ d)
  merge_some_face d u =
      let o = has_clear_out b.shells c d u in
      let f = k.outer.some_face d o.0 in
      let other : face_shell b f.0 ≢ c = λ e. o.1 (sym f.2 ∙ e) in
      (f.0, merge_in f.0 f.1, merged_miss b.faces c a f.0 f.1 other ∙ f.2)

  merge_rule : Outer merge
  merge_rule = record {
    lies_in = λ f u. ap (loop_face b) (merge_outer f) ∙ k.outer.lies_in f (merge_out f u);
    some_face = merge_some_face;
  }

  -- the new shell of a loop comes from its old one
  merge_loop_shell : (l : ℕ) → Has b.loops l → loop_shell merge l ≡ cond (eqb (loop_shell b l) c) a (loop_shell b l)
  merge_loop_shell l u = merge_shell (loop_face b l) (k.named.face_used l u)

  merge_one_shell : OneShell merge
  merge_one_shell h u =
      merge_loop_shell (owner b h) (k.named.owner_used h u) ∙ ap (λ d. cond (eqb d c) a d) (k.one_shell h u) ∙ sym (merge_loop_shell (owner b (mate h)) (k.named.owner_used (mate h) (used_mate b h u)))

  merge_keeps : AllButBalance merge
  merge_keeps = record {
    sizes = merge_sizes;
    named = merge_named;
    continues = continues_beside b _ _ _ _ _ k.continues;
    loops = loops_beside b _ _ _ _ _ k.loops;
    vertices = vertices_beside b _ _ _ _ _ k.vertices;
    lone = merge_lone;
    outer = merge_rule;
    one_shell = merge_one_shell;
  }

-- the face g goes, and its loops lie in the face f
abbrev taken_in : Boundary → ℕ → ℕ → Boundary
taken_in b f g = clear_face (inner b g f) g

module _ (b : Boundary) (f g : ℕ) (k : AllButBalance b) (uf : Has b.faces f) (ne : f ≢ g) (same : face_shell b f ≡ face_shell b g) where
  abbrev new : Boundary
  new = taken_in b f g

  loop_in : (l : ℕ) → Has b.loops l → Has new.loops l
  loop_in l u = has_map_in (inner_loop g f) b.loops l u

  loop_out : (l : ℕ) → Has new.loops l → Has b.loops l
  loop_out l u = has_map_out (inner_loop g f) b.loops l u

  lone_is : (l : ℕ) → lone new l ≡ lone b l
  lone_is l = inner_lone b.loops g f l

  face_there : (j : ℕ) → j ≢ g → row new.faces j ≡ row b.faces j
  face_there j other = row_put_other b.faces g j None other

  -- a loop of g lies in f, and any other where it lay
  hit : (l : ℕ) → Has b.loops l → loop_face b l ≡ g → loop_face new l ≡ f
  hit l u e = inner_hit b.loops g f l u e

  miss : (l : ℕ) → Has b.loops l → loop_face b l ≢ g → loop_face new l ≡ loop_face b l
  miss l u other = inner_miss b.loops g f l u other

  sizes : Sizes new
  sizes = record {
    shells = k.sizes.shells;
    faces = length_put b.faces g None ∙ k.sizes.faces;
    loops = length_mapped (inner_loop g f) b.loops ∙ k.sizes.loops;
    edges = k.sizes.edges;
    vertices = k.sizes.vertices;
  }

  face_used : (l : ℕ) → Has new.loops l → Has new.faces (loop_face new l)
  face_used l u =
      let old = loop_out l u in
      elim (ℕ_discrete (loop_face b l) g) [
        | yes e ↦ subst (Has new.faces) (sym (hit l old e)) (has_clear_in b.faces g f ne uf)
        | no other ↦ subst (Has new.faces) (sym (miss l old other)) (has_clear_in b.faces g (loop_face b l) other (k.named.face_used l old))
      ]

  shell_used : (j : ℕ) → Has new.faces j → Has b.shells (face_shell new j)
  shell_used j u =
      let o = has_clear_out b.faces g j u in
      subst (Has b.shells) (sym (ap shell_of (face_there j o.1))) (k.named.shell_used j o.0)

  outer_used : (j : ℕ) → Has new.faces j → Has new.loops (outer_of (row new.faces j))
  outer_used j u =
      let o = has_clear_out b.faces g j u in
      subst (Has new.loops) (sym (ap outer_of (face_there j o.1))) (loop_in (outer_of (row b.faces j)) (k.named.outer_used j o.0))

  named : Named new
  named = record {
    start_used = k.named.start_used;
    next_used = k.named.next_used;
    owner_used = λ h u. loop_in (owner b h) (k.named.owner_used h u);
    lone_used = λ l v e. k.named.lone_used l v (sym (lone_is l) ∙ e);
    face_used = face_used;
    shell_used = shell_used;
    outer_used = outer_used;
  }

  start_or_lone : (v : ℕ) → Has b.vertices v → Placed new v
  start_or_lone v u = elim (k.lone.start_or_lone v u) [ inl x ↦ inl x | inr y ↦ inr (y.0, lone_is y.0 ∙ y.1) ]

  lone_rule : LoneVertices new
  lone_rule = record {
    lone_alone = λ l v h e u. k.lone.lone_alone l v h (sym (lone_is l) ∙ e) u;
    else_half_edge = λ l u e. k.lone.else_half_edge l (loop_out l u) (sym (lone_is l) ∙ e);
    start_or_lone = start_or_lone;
    one_loop = λ l m v d e. k.lone.one_loop l m v (sym (lone_is l) ∙ d) (sym (lone_is m) ∙ e);
    not_both = λ l v h e u. k.lone.not_both l v h (sym (lone_is l) ∙ e) u;
  }

  lies_in : (j : ℕ) → Has new.faces j → loop_face new (outer_of (row new.faces j)) ≡ j
  lies_in j u =
      let o = has_clear_out b.faces g j u in
      let here = k.outer.lies_in j o.0 in
      let other : loop_face b (outer_of (row b.faces j)) ≢ g = λ e. o.1 (sym here ∙ e) in
      ap (λ r. loop_face new (outer_of r)) (face_there j o.1) ∙ miss (outer_of (row b.faces j)) (k.named.outer_used j o.0) other ∙ here

  -- f lies in the shell that g lay in
  some_face : (c : ℕ) → Has b.shells c → (j : ℕ) × Has new.faces j × (face_shell new j ≡ c)
  some_face c u =
      let j = k.outer.some_face c u in
      elim (ℕ_discrete j.0 g) [
        | yes e ↦ (f, has_clear_in b.faces g f ne uf, ap shell_of (face_there f ne) ∙ same ∙ ap (face_shell b) (sym e) ∙ j.2)
        | no other ↦ (j.0, has_clear_in b.faces g j.0 other j.1, ap shell_of (face_there j.0 other) ∙ j.2)
      ]

  outer_rule : Outer new
  outer_rule = record { lies_in = lies_in; some_face = some_face }

  -- no loop leaves its shell
  shell_is : (l : ℕ) → Has b.loops l → loop_shell new l ≡ loop_shell b l
  shell_is l u = elim (ℕ_discrete (loop_face b l) g) [
    | yes e ↦ ap (face_shell new) (hit l u e) ∙ ap shell_of (face_there f ne) ∙ same ∙ ap (face_shell b) (sym e)
    | no other ↦ ap (face_shell new) (miss l u other) ∙ ap shell_of (face_there (loop_face b l) other)
  ]

  one_shell : OneShell new
  one_shell h u =
      shell_is (owner b h) (k.named.owner_used h u) ∙ k.one_shell h u ∙ sym (shell_is (owner b (mate h)) (k.named.owner_used (mate h) (used_mate b h u)))

  taken_in_keeps : AllButBalance new
  taken_in_keeps = record {
    sizes = sizes;
    named = named;
    continues = continues_beside b _ _ _ _ _ k.continues;
    loops = loops_beside b _ _ _ _ _ k.loops;
    vertices = vertices_beside b _ _ _ _ _ k.vertices;
    lone = lone_rule;
    outer = outer_rule;
    one_shell = one_shell;
  }

-- no rule but the balance speaks of the handles
counted : (b : Boundary) (n : ℕ) → AllButBalance b → AllButBalance (with_handles b n)
counted b n k = record {
  sizes = record { shells = k.sizes.shells; faces = k.sizes.faces; loops = k.sizes.loops; edges = k.sizes.edges; vertices = k.sizes.vertices };
  named = record {
    start_used = k.named.start_used;
    next_used = k.named.next_used;
    owner_used = k.named.owner_used;
    lone_used = k.named.lone_used;
    face_used = k.named.face_used;
    shell_used = k.named.shell_used;
    outer_used = k.named.outer_used;
  };
  continues = continues_beside b _ _ _ _ _ k.continues;
  loops = loops_beside b _ _ _ _ _ k.loops;
  vertices = vertices_beside b _ _ _ _ _ k.vertices;
  lone = record {
    lone_alone = k.lone.lone_alone;
    else_half_edge = k.lone.else_half_edge;
    start_or_lone = k.lone.start_or_lone;
    one_loop = k.lone.one_loop;
    not_both = k.lone.not_both;
  };
  outer = record { lies_in = k.outer.lies_in; some_face = k.outer.some_face };
  one_shell = k.one_shell;
}

module _ (b : Boundary) (f g : ℕ) (s : Sound b) (uf : Has b.faces f) (ug : Has b.faces g) (ne : f ≢ g) where
  abbrev first : ℕ
  first = face_shell b f

  abbrev second : ℕ
  second = face_shell b g

  within_one : first ≡ second → Sound (with_handles (taken_in b f g) (one_more b.handles))
  within_one e =
      sound (with_handles (taken_in b f g) (one_more b.handles)) (counted (taken_in b f g) (one_more b.handles) (taken_in_keeps b f g (all_but_balance b s) uf ne e)) balance
    where
      balance : Balanced (with_handles (taken_in b f g) (one_more b.handles))
      balance =
          omega (arith, s.balanced, one_more_is b s.sizes s.balanced, count_clear b.faces g ug, count_map (inner_loop g f) b.loops)

  -- the shells first, the faces then
  of_two : first ≢ second → Sound (taken_in (one_of_two b first second) f g)
  of_two other = sound (taken_in mid f g) (taken_in_keeps mid f g (merge_keeps b first second (all_but_balance b s) (s.named.shell_used f uf) other) uf' ne together) balance
    where
      mid : Boundary
      mid = one_of_two b first second

      uf' : Has mid.faces f
      uf' = has_map_in (merged_face second first) b.faces f uf

      together : face_shell mid f ≡ face_shell mid g
      together = merged_miss b.faces second first f uf other ∙ sym (merged_hit b.faces second first g ug refl)

      balance : Balanced (taken_in mid f g)
      balance =
          omega (arith, s.balanced, count_clear b.shells second (s.named.shell_used g ug), count_clear mid.faces g (has_map_in (merged_face second first) b.faces g ug), count_map (merged_face second first) b.faces, count_map (inner_loop g f) b.loops)

  -- the other way round it is the same table of faces
  between_two : first ≢ second → Sound (one_of_two (taken_in b f g) first second)
  between_two other =
      subst (λ t. Sound (with_faces (one_of_two (taken_in b f g) first second) t)) (sym (map-set (option_map (merged_face second first)) b.faces g None)) (of_two other)

  connects : Dec (first ≡ second) → Sound (kfmrh b f g)
  connects (yes e) =
      subst Sound (sym (cond-true (eqb first second) (with_handles (taken_in b f g) (one_more b.handles)) (one_of_two (taken_in b f g) first second) (eq-eqb first second e))) (within_one e)
  connects (no other) =
      subst Sound (sym (cond-false (eqb first second) (with_handles (taken_in b f g) (one_more b.handles)) (one_of_two (taken_in b f g) first second) (ne_eqb first second other))) (between_two other)

pub kfmrh_keeps : (b : Boundary) (f g : ℕ) → Sound b → f < 96 → g < 96 → kfmrh_refusal b f g ≡ None → Sound (kfmrh b f g)
kfmrh_keeps b f g s lf lg q =
    let x = unless_none (used b.faces f && used b.faces g) Unused _ q in
    let y = unless_none (not (eqb f g) && eqb (loops_in b g) 1) Condition None x.1 in
    let both = and_parts (used b.faces f) (used b.faces g) x.0 in
    let apart = and_parts (not (eqb f g)) (eqb (loops_in b g) 1) y.0 in
    connects b f g s (true_T (used b.faces f) both.0) (true_T (used b.faces g) both.1) (not_eqb f g apart.0) (ℕ_discrete (face_shell b f) (face_shell b g))
