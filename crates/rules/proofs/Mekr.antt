-- An edge between two loops of a face joins them and keeps the rules, whether each end is a half-edge or a lone vertex. Round the loops, each new half comes in at its own end, and then the two rings join; round the vertices the first alone does.
use Rattle.std.proofs.Common.{◌≡◌, ℕ, ◌+◌, ◌*◌, ◌/◌, ◌<◌, ◌≤◌, Bool, true, false, cond, not, ◌&&◌, eqb, ◌≢◌, ◌⊎◌, List, length, Some, None, Option, unwrap_or, sym, refl, ap, ◌∙◌, subst, inl, inr, arith}
use native.Mathlib.Decide.{ℕ_discrete}
use Rattle.std.proofs.lemmas.Bool.{eqb-true, and_parts}
use Rattle.boundary.specs.declared.Refusal.TheVariants.{Unused, Taken, Condition}
use Rattle.boundary.specs.declared.Edge.{Edge}
use Rattle.boundary.specs.declared.Boundary.{Boundary}
use Rattle.boundary.specs.Tables.{row, half_in, start, next, owner, mate, lone, lone_of, face_of, outer_of, loop_face, face_shell, loop_shell, is_half_place, place_loop, place_vertex}
use Rattle.boundary.specs.Changes.{with_edges, put_edge, put_lone, clear_loop, led, joined, joined_in}
use Rattle.boundary.specs.Operators.{edge, half_edge, mekr}
use Rattle.boundary.specs.Refusals.{free, place_used, has_vertex, are_joinable, mekr_refusal}
use Rattle.rings.specs.Rings.{Rings}
use Rattle.rings.specs.Changes.{Swapped, Joined}
use Rattle.rings.specs.Euler.{put, swap}
use Rattle.rings.proofs.Put.{put_same, put_other}
use Rattle.rings.proofs.Swap.{join_keeps}
use Rattle.rules.specs.Rules.{Has, Used, turn, Sizes, Named, LoneVertices, Outer, OneShell, Balanced, Sound}
use Rattle.rules.proofs.Rows.{not_eqb, unless_none, free_not_has, row_put_other, length_put, has_clear_in, has_clear_out, lone_has, none_not_some}
use Rattle.rules.proofs.Counts.{count_put_free, count_clear}
use Rattle.rules.proofs.Halves.{half_of_even, mate_of_even, mate_of_odd, used_mate, new_edge, new_even, new_odd, put_even, put_odd, half_put_other, put_used_even, put_used_odd, put_used_in, put_used_cases, joined_hit, joined_miss}
use Rattle.rules.proofs.RulesAsRings.{loop_rings, vertex_rings, loop_rings_by, vertex_rings_by, continues_by, HasHalf, Placed}
use Rattle.rules.proofs.RingsEntered.{EnteredTwo, enter_two_keeps}
use Rattle.rules.proofs.LedEdges.{Alike, joined_alike, led_twice, twice_has_in, twice_has_out, twice_length, twice_count, twice_start, twice_owner, twice_first, twice_second, twice_other}
use Rattle.rules.proofs.Fields.{with_lone, lone_has_in, lone_has_out, lone_other_row, lone_face, lone_row, lone_length, lone_count}
use Rattle.rules.proofs.Places.{target, Place, lone_is, vertex_apart, fresh_loop, fresh_vertex, place}

-- the edges but the new one, where the ends have the targets p and q and lie on the loops l and m
abbrev pub table : List (Option Edge) → Option ℕ → Option ℕ → ℕ → ℕ → ℕ → List (Option Edge)
table es p q l m k = led_twice (joined_in es m l) p (2 * k) q (2 * k + 1)

-- the operator in these terms; the ends start at the vertices v and w
abbrev pub linked : Boundary → Option ℕ → Option ℕ → ℕ → ℕ → ℕ → ℕ → ℕ → Boundary
linked b p q l m v w k =
    clear_loop (put_lone (put_edge (with_edges b (table b.edges p q l m k)) k (edge (half_edge v (unwrap_or q (2 * k + 1)) l) (half_edge w (unwrap_or p (2 * k)) l))) l None) m

-- the operator, where c and d say whether the ends are half-edges
abbrev pub by_tests : Bool → Bool → Boundary → ℕ → ℕ → ℕ → ℕ → ℕ → ℕ → ℕ → Boundary
by_tests c d b x y l m v w k =
    let first : Boundary = cond c (led (joined b m l) x (2 * k)) (joined b m l) in
    let both : Boundary = cond d (led first y (2 * k + 1)) first in
    clear_loop (put_lone (put_edge both k (edge (half_edge v (cond d y (2 * k + 1)) l) (half_edge w (cond c x (2 * k)) l))) l None) m

pub linked_is : (c d : Bool) (b : Boundary) (x y l m v w k : ℕ) → by_tests c d b x y l m v w k ≡ linked b (target c x) (target d y) l m v w k
linked_is true true b x y l m v w k = refl
linked_is true false b x y l m v w k = refl
linked_is false true b x y l m v w k = refl
linked_is false false b x y l m v w k = refl

-- two ends on two loops of one face, the second not its outer one
pub record Linkable (b : Boundary) (p q : Option ℕ) (l m v w k : ℕ) : Type 0 where
  pub from : Place b p l v
  pub to : Place b q m w
  pub edge_below : k < length b.edges
  pub edge_free : Has b.edges k → ⊥
  pub apart : l ≢ m
  pub one_face : loop_face b l ≡ loop_face b m
  pub not_outer : outer_of (row b.faces (loop_face b m)) ≢ m

module _ (b : Boundary) (p q : Option ℕ) (l m v w k : ℕ) (s : Sound b) (j : Linkable b p q l m v w k) where
  abbrev pub new : Boundary
  new = linked b p q l m v w k

  abbrev pub X : ℕ
  X = 2 * k

  abbrev pub Y : ℕ
  Y = 2 * k + 1

  abbrev ends : Edge
  ends = edge (half_edge v (unwrap_or q Y) l) (half_edge w (unwrap_or p X) l)

  abbrev relabelled : List (Option Edge)
  relabelled = joined_in b.edges m l

  abbrev twice : List (Option Edge)
  twice = table b.edges p q l m k

  x_new : Used b X → ⊥
  x_new u = j.edge_free (subst (Has b.edges) (half_of_even k) u)

  x_not_y : X ≢ Y
  x_not_y e = omega arith

  alike : Alike b.edges relabelled
  alike = joined_alike b.edges m l

  -- the half-edges in use
  same_length : length twice ≡ length b.edges
  same_length = twice_length b.edges relabelled p X q Y alike

  out : (i : ℕ) → Has twice i → Has b.edges i
  out = twice_has_out b.edges relabelled p X q Y alike

  below : k < length twice
  below = subst (λ n. k < n) (sym same_length) j.edge_below

  pub x_used : Used new X
  x_used = put_used_even twice k ends below

  pub y_used : Used new Y
  y_used = put_used_odd twice k ends below

  pub used_in : (h : ℕ) → Used b h → Used new h
  used_in h u = put_used_in twice k h ends (twice_has_in b.edges relabelled p X q Y alike (h / 2) u)

  pub used_out : (h : ℕ) → Used new h → (h ≡ X) ⊎ ((h ≡ Y) ⊎ Used b h)
  used_out h u = elim (put_used_cases twice k h ends u) [
    | inl e ↦ inl e
    | inr more ↦ elim more [ inl e ↦ inr (inl e) | inr old ↦ inr (inr (out (h / 2) old)) ]
  ]

  -- their fields
  x_start : start new X ≡ v
  x_start = ap (λ e. e.start) (put_even twice k ends below)

  y_start : start new Y ≡ w
  y_start = ap (λ e. e.start) (put_odd twice k ends below)

  pub x_owner : owner new X ≡ l
  x_owner = ap (λ e. e.owner) (put_even twice k ends below)

  pub y_owner : owner new Y ≡ l
  y_owner = ap (λ e. e.owner) (put_odd twice k ends below)

  pub x_next : next new X ≡ unwrap_or q Y
  x_next = ap (λ e. e.next) (put_even twice k ends below)

  pub y_next : next new Y ≡ unwrap_or p X
  y_next = ap (λ e. e.next) (put_odd twice k ends below)

  there : (h : ℕ) → Used b h → half_in new.edges h ≡ half_in twice h
  there h u = half_put_other twice k h _ (new_edge b.edges k h j.edge_free u)

  start_is : (h : ℕ) → Used b h → start new h ≡ start b h
  start_is h u = ap (λ e. e.start) (there h u) ∙ twice_start b.edges relabelled p X q Y alike h

  owner_there : (h : ℕ) → Used b h → owner new h ≡ (half_in relabelled h).owner
  owner_there h u = ap (λ e. e.owner) (there h u) ∙ twice_owner b.edges relabelled p X q Y alike h

  pub owner_hit : (h : ℕ) → Used b h → owner b h ≡ m → owner new h ≡ l
  owner_hit h u e = owner_there h u ∙ joined_hit b.edges m l h u e

  pub owner_miss : (h : ℕ) → Used b h → owner b h ≢ m → owner new h ≡ owner b h
  owner_miss h u ne = owner_there h u ∙ joined_miss b.edges m l h u ne

  next_there : (h : ℕ) → Used b h → next new h ≡ (half_in twice h).next
  next_there h u = ap (λ e. e.next) (there h u)

  -- the ends differ, as they lie on two loops
  two_targets : (a : ℕ) → p ≡ Some a → q ≡ Some a → ⊥
  two_targets a d e = j.apart (sym (j.from.at a d).1 ∙ (j.to.at a e).1)

  pub led_x : (h : ℕ) → Used b h → p ≡ Some (next b h) → next new h ≡ X
  led_x h u e = next_there h u ∙ twice_first b.edges relabelled p X q Y alike h u (λ d. x_new (j.to.at X d).0) e

  pub led_y : (h : ℕ) → Used b h → q ≡ Some (next b h) → next new h ≡ Y
  led_y h u e = next_there h u ∙ twice_second b.edges relabelled p X q Y alike h u (λ d. two_targets (next b h) d e) e

  pub next_is : (h : ℕ) → Used b h → p ≢ Some (next b h) → q ≢ Some (next b h) → next new h ≡ next b h
  next_is h u n o = next_there h u ∙ twice_other b.edges relabelled p X q Y alike h u n o

  -- round the loops before they join: the two halves have not yet changed what follows them
  abbrev two : ℕ → ℕ
  two = swap (next new) X Y

  abbrev two_label : ℕ → ℕ
  two_label = put (put (owner b) X l) Y m

  two_x : two X ≡ next new Y
  two_x = put_other (put (next new) X (next new Y)) Y (next new X) X x_not_y ∙ put_same (next new) X (next new Y)

  two_y : two Y ≡ next new X
  two_y = put_same (put (next new) X (next new Y)) Y (next new X)

  two_other : (h : ℕ) → h ≢ X → h ≢ Y → two h ≡ next new h
  two_other h nx ny = put_other (put (next new) X (next new Y)) Y (next new X) h ny ∙ put_other (next new) X (next new Y) h nx

  not_x : (h : ℕ) → Used b h → h ≢ X
  not_x h u = new_even b.edges k h j.edge_free u

  not_y : (h : ℕ) → Used b h → h ≢ Y
  not_y h u = new_odd b.edges k h j.edge_free u

  two_old : (h : ℕ) → Used b h → two h ≡ next new h
  two_old h u = two_other h (not_x h u) (not_y h u)

  label_x : two_label X ≡ l
  label_x = put_other (put (owner b) X l) Y m X x_not_y ∙ put_same (owner b) X l

  label_y : two_label Y ≡ m
  label_y = put_same (put (owner b) X l) Y m

  label_old : (h : ℕ) → Used b h → two_label h ≡ owner b h
  label_old h u = put_other (put (owner b) X l) Y m h (not_y h u) ∙ put_other (owner b) X l h (not_x h u)

  loops_entered : EnteredTwo (next b) two (Used b) (Used new) (owner b) two_label p q X Y l m
  loops_entered = record {
    x_new = x_new;
    x_step = two_x ∙ y_next;
    y_step = two_y ∙ x_next;
    led_x = λ h u e. two_old h u ∙ led_x h u e;
    led_y = λ h u e. two_old h u ∙ led_y h u e;
    other_step = λ h u n o. two_old h u ∙ next_is h u n o;
    in_use = used_out;
    x_in_use = x_used;
    y_in_use = y_used;
    still_in_use = used_in;
    x_label = label_x;
    y_label = label_y;
    other_label = label_old;
    at_x = λ a e. ((j.from.at a e).0, (j.from.at a e).1);
    at_y = λ a e. ((j.to.at a e).0, (j.to.at a e).1);
    fresh_x = fresh_loop b s j.from;
    fresh_y = fresh_loop b s j.to;
    apart = two_targets;
    two_rings = λ e. j.apart;
  }

  swapped : Swapped two (next new) (Used new) X Y
  swapped = record {
    x_used = x_used;
    y_used = y_used;
    x_step = sym two_y;
    y_step = sym two_x;
    other_step = λ h u nx ny. sym (two_other h nx ny);
  }

  joined_label : (h : ℕ) → Used new h → two_label h ≡ two_label Y → owner new h ≡ two_label X
  joined_label h u e = elim (used_out h u) [
    | inl d ↦ ap (owner new) d ∙ x_owner ∙ sym label_x
    | inr more ↦ elim more [
      | inl d ↦ ap (owner new) d ∙ y_owner ∙ sym label_x
      | inr old ↦ owner_hit h old (sym (label_old h old) ∙ e ∙ label_y) ∙ sym label_x
    ]
  ]

  kept_label : (h : ℕ) → Used new h → two_label h ≢ two_label Y → owner new h ≡ two_label h
  kept_label h u n = elim (used_out h u) [
    | inl d ↦ ap (owner new) d ∙ x_owner ∙ sym label_x ∙ ap two_label (sym d)
    | inr more ↦ elim more [
      | inl d ↦ absurd (n (ap two_label d))
      | inr old ↦ owner_miss h old (λ e. n (label_old h old ∙ e ∙ sym label_y)) ∙ sym (label_old h old)
    ]
  ]

  loops_joined : Joined two (next new) (Used new) two_label (owner new) X Y
  loops_joined = record {
    swapped = swapped;
    apart = λ e. j.apart (sym label_x ∙ e ∙ label_y);
    y_label = joined_label;
    other_label = kept_label;
  }

  new_loops : Rings (next new) (Used new) (owner new)
  new_loops = join_keeps (enter_two_keeps (loop_rings b s) loops_entered) loops_joined

  -- round the vertices
  mates : (h : ℕ) → Used b h → Used b (mate h)
  mates h u = used_mate b h u

  vertices_entered : EnteredTwo (turn b) (turn new) (Used b) (Used new) (start b) (start new) p q X Y v w
  vertices_entered = record {
    x_new = x_new;
    x_step = ap (next new) (mate_of_even k) ∙ y_next;
    y_step = ap (next new) (mate_of_odd k) ∙ x_next;
    led_x = λ h u e. led_x (mate h) (mates h u) e;
    led_y = λ h u e. led_y (mate h) (mates h u) e;
    other_step = λ h u n o. next_is (mate h) (mates h u) n o;
    in_use = used_out;
    x_in_use = x_used;
    y_in_use = y_used;
    still_in_use = used_in;
    x_label = x_start;
    y_label = y_start;
    other_label = start_is;
    at_x = λ a e. ((j.from.at a e).0, (j.from.at a e).2);
    at_y = λ a e. ((j.to.at a e).0, (j.to.at a e).2);
    fresh_x = fresh_vertex b s j.from;
    fresh_y = fresh_vertex b s j.to;
    apart = two_targets;
    two_rings = λ e. vertex_apart b s j.from m w (λ d. j.apart (sym d)) (j.to.alone e);
  }

  new_vertices : Rings (turn new) (Used new) (start new)
  new_vertices = enter_two_keeps (vertex_rings b s) vertices_entered

  -- the loops in use, and their fields
  loop_in : (n : ℕ) → n ≢ m → Has b.loops n → Has new.loops n
  loop_in n ne u = has_clear_in (with_lone b.loops l None) m n ne (lone_has_in b.loops l None n u)

  loop_out : (n : ℕ) → Has new.loops n → Has b.loops n × (n ≢ m)
  loop_out n u =
      let o = has_clear_out (with_lone b.loops l None) m n u in
      (lone_has_out b.loops l None j.from.loop_used n o.0, o.1)

  pub loop_there : (n : ℕ) → n ≢ l → n ≢ m → row new.loops n ≡ row b.loops n
  loop_there n nl nm = row_put_other (with_lone b.loops l None) m n None nm ∙ lone_other_row b.loops l None n nl

  lone_here : lone new l ≡ None
  lone_here = ap lone_of (row_put_other (with_lone b.loops l None) m l None j.apart ∙ lone_row b.loops l None j.from.loop_used)

  lone_in : (n i : ℕ) → n ≢ l → n ≢ m → lone b n ≡ Some i → lone new n ≡ Some i
  lone_in n i nl nm e = ap lone_of (loop_there n nl nm) ∙ e

  lone_out : (n i : ℕ) → lone new n ≡ Some i → (n ≢ l) × (n ≢ m) × (lone b n ≡ Some i)
  lone_out n i e =
      let nl : n ≢ l = λ d. none_not_some (ap (lone new) d ∙ lone_here) e in
      let nm = (loop_out n (lone_has new n i e)).1 in
      (nl, nm, sym (ap lone_of (loop_there n nl nm)) ∙ e)

  face_is : (n : ℕ) → n ≢ m → loop_face new n ≡ loop_face b n
  face_is n nm = ap face_of (row_put_other (with_lone b.loops l None) m n None nm) ∙ lone_face b.loops l None j.from.loop_used n

  -- the loop that goes is no outer loop
  outer_apart : (f : ℕ) → Has b.faces f → outer_of (row b.faces f) ≢ m
  outer_apart f u e = j.not_outer (ap (λ i. outer_of (row b.faces i)) (ap (loop_face b) (sym e) ∙ s.outer.lies_in f u) ∙ e)

  sizes : Sizes new
  sizes = record {
    shells = s.sizes.shells;
    faces = s.sizes.faces;
    loops = length_put (with_lone b.loops l None) m None ∙ lone_length b.loops l None ∙ s.sizes.loops;
    edges = length_put twice k _ ∙ same_length ∙ s.sizes.edges;
    vertices = s.sizes.vertices;
  }

  start_used : (h : ℕ) → Used new h → Has b.vertices (start new h)
  start_used h u = elim (used_out h u) [
    | inl d ↦ subst (Has b.vertices) (sym (ap (start new) d ∙ x_start)) j.from.vertex_used
    | inr more ↦ elim more [
      | inl d ↦ subst (Has b.vertices) (sym (ap (start new) d ∙ y_start)) j.to.vertex_used
      | inr old ↦ subst (Has b.vertices) (sym (start_is h old)) (s.named.start_used h old)
    ]
  ]

  here_used : Has new.loops l
  here_used = loop_in l j.apart j.from.loop_used

  -- where a half-edge lies now: on the joined loop, or where it lay
  pub owner_cases : (h : ℕ) → Used new h → (owner new h ≡ l) ⊎ (Used b h × (owner new h ≡ owner b h) × (owner b h ≢ m))
  owner_cases h u = elim (used_out h u) [
    | inl d ↦ inl (ap (owner new) d ∙ x_owner)
    | inr more ↦ elim more [
      | inl d ↦ inl (ap (owner new) d ∙ y_owner)
      | inr old ↦ elim (ℕ_discrete (owner b h) m) [ yes e ↦ inl (owner_hit h old e) | no ne ↦ inr (old, owner_miss h old ne, ne) ]
    ]
  ]

  owner_used : (h : ℕ) → Used new h → Has new.loops (owner new h)
  owner_used h u = elim (owner_cases h u) [
    | inl e ↦ subst (Has new.loops) (sym e) here_used
    | inr o ↦ subst (Has new.loops) (sym o.1) (loop_in (owner b h) o.2 (s.named.owner_used h o.0))
  ]

  face_used : (n : ℕ) → Has new.loops n → Has b.faces (loop_face new n)
  face_used n u =
      let o = loop_out n u in
      subst (Has b.faces) (sym (face_is n o.1)) (s.named.face_used n o.0)

  named : Named new
  named = record {
    start_used = start_used;
    next_used = new_loops.closed;
    owner_used = owner_used;
    lone_used = λ n i e. s.named.lone_used n i (lone_out n i e).2;
    face_used = face_used;
    shell_used = s.named.shell_used;
    outer_used = λ f u. loop_in (outer_of (row b.faces f)) (outer_apart f u) (s.named.outer_used f u);
  }

  lone_alone : (n i h : ℕ) → lone new n ≡ Some i → Used new h → owner new h ≢ n
  lone_alone n i h e u =
      let o = lone_out n i e in
      elim (owner_cases h u) [
        | inl d ↦ λ same. o.0 (sym same ∙ d)
        | inr old ↦ λ same. s.lone.lone_alone n i h o.2 old.0 (sym old.1 ∙ same)
      ]

  else_half_edge : (n : ℕ) → Has new.loops n → lone new n ≡ None → HasHalf new n
  else_half_edge n u e =
      let o = loop_out n u in
      elim (ℕ_discrete n l) [
        | yes d ↦ (X, x_used, x_owner ∙ sym d)
        | no nl ↦
            let h = s.lone.else_half_edge n o.0 (sym (ap lone_of (loop_there n nl o.1)) ∙ e) in
            (h.0, used_in h.0 h.1, owner_miss h.0 h.1 (λ d. o.1 (sym h.2 ∙ d)) ∙ h.2)
      ]

  -- a vertex that was lone on one of the two loops is the start of a new half-edge
  still_lone : (i n : ℕ) → lone b n ≡ Some i → Placed new i
  still_lone i n e = elim (ℕ_discrete n l) [
    | yes d ↦ inl (X, x_used, x_start ∙ sym (lone_is b s j.from i (ap (lone b) (sym d) ∙ e)))
    | no nl ↦ elim (ℕ_discrete n m) [
      | yes d ↦ inl (Y, y_used, y_start ∙ sym (lone_is b s j.to i (ap (lone b) (sym d) ∙ e)))
      | no nm ↦ inr (n, lone_in n i nl nm e)
    ]
  ]

  start_or_lone : (i : ℕ) → Has b.vertices i → Placed new i
  start_or_lone i u = elim (s.lone.start_or_lone i u) [
    | inl h ↦ inl (h.0, used_in h.0 h.1, start_is h.0 h.1 ∙ h.2)
    | inr n ↦ still_lone i n.0 n.1
  ]

  not_both : (n i h : ℕ) → lone new n ≡ Some i → Used new h → start new h ≢ i
  not_both n i h e u =
      let o = lone_out n i e in
      elim (used_out h u) [
        | inl d ↦ λ same. vertex_apart b s j.from n i o.0 o.2 (sym (ap (start new) d ∙ x_start) ∙ same)
        | inr more ↦ elim more [
          | inl d ↦ λ same. vertex_apart b s j.to n i o.1 o.2 (sym (ap (start new) d ∙ y_start) ∙ same)
          | inr old ↦ λ same. s.lone.not_both n i h o.2 old (sym (start_is h old) ∙ same)
        ]
      ]

  lone_rule : LoneVertices new
  lone_rule = record {
    lone_alone = lone_alone;
    else_half_edge = else_half_edge;
    start_or_lone = start_or_lone;
    one_loop = λ n i x d e. s.lone.one_loop n i x (lone_out n x d).2 (lone_out i x e).2;
    not_both = not_both;
  }

  outer_rule : Outer new
  outer_rule = record {
    lies_in = λ f u. face_is (outer_of (row b.faces f)) (outer_apart f u) ∙ s.outer.lies_in f u;
    some_face = s.outer.some_face;
  }

  -- no half-edge leaves its face
  face_stays : (h : ℕ) → Used b h → loop_face new (owner new h) ≡ loop_face b (owner b h)
  face_stays h u = elim (ℕ_discrete (owner b h) m) [
    | yes e ↦ ap (loop_face new) (owner_hit h u e) ∙ face_is l j.apart ∙ j.one_face ∙ ap (loop_face b) (sym e)
    | no ne ↦ ap (loop_face new) (owner_miss h u ne) ∙ face_is (owner b h) ne
  ]

  one_shell : OneShell new
  one_shell h u = elim (used_out h u) [
    | inl d ↦ ap (loop_shell new) (ap (owner new) d ∙ x_owner ∙ sym y_owner ∙ ap (owner new) (sym (mate_of_even k) ∙ ap mate (sym d)))
    | inr more ↦ elim more [
      | inl d ↦ ap (loop_shell new) (ap (owner new) d ∙ y_owner ∙ sym x_owner ∙ ap (owner new) (sym (mate_of_odd k) ∙ ap mate (sym d)))
      | inr old ↦ ap (face_shell b) (face_stays h old) ∙ s.one_shell h old ∙ ap (face_shell b) (sym (face_stays (mate h) (mates h old)))
    ]
  ]

  balanced : Balanced new
  balanced =
      omega (arith, s.balanced, twice_count b.edges relabelled p X q Y alike, count_put_free twice k ends below (λ u. j.edge_free (out k u)), lone_count b.loops l None j.from.loop_used, count_clear (with_lone b.loops l None) m (lone_has_in b.loops l None m j.to.loop_used))

  sound : Sound new
  sound = record {
    sizes = sizes;
    named = named;
    continues = continues_by new new_loops new_vertices;
    loops = loop_rings_by new new_loops;
    vertices = vertex_rings_by new new_vertices;
    lone = lone_rule;
    outer = outer_rule;
    one_shell = one_shell;
    balanced = balanced;
  }

pub linkable : (b : Boundary) (a c k : ℕ) → Sound b → k < 192 → mekr_refusal b a c k ≡ None → Linkable b (target (is_half_place a) a) (target (is_half_place c) c) (place_loop b a) (place_loop b c) (place_vertex b a) (place_vertex b c) k
linkable b a c k s lt r =
    let l : ℕ = place_loop b a in
    let m : ℕ = place_loop b c in
    let first = unless_none (place_used b a && place_used b c) Unused _ r in
    let second = unless_none (free b.edges k) Taken _ first.1 in
    let third = unless_none (has_vertex b a && (has_vertex b c && are_joinable b l m)) Condition None second.1 in
    let uses = and_parts (place_used b a) (place_used b c) first.0 in
    let x = and_parts (has_vertex b a) (has_vertex b c && are_joinable b l m) third.0 in
    let y = and_parts (has_vertex b c) (are_joinable b l m) x.1 in
    let z = and_parts (not (eqb l m)) (eqb (loop_face b l) (loop_face b m) && not (eqb (outer_of (row b.faces (loop_face b m))) m)) y.1 in
    let w = and_parts (eqb (loop_face b l) (loop_face b m)) (not (eqb (outer_of (row b.faces (loop_face b m))) m)) z.1 in
    record {
      from = place b s a uses.0 x.0;
      to = place b s c uses.1 y.0;
      edge_below = omega (arith, s.sizes.edges);
      edge_free = free_not_has b.edges k second.0;
      apart = not_eqb l m z.0;
      one_face = eqb-true (loop_face b l) (loop_face b m) w.0;
      not_outer = not_eqb (outer_of (row b.faces (loop_face b m))) m w.1;
    }

pub mekr_keeps : (b : Boundary) (a c k : ℕ) → Sound b → ((a < 384) ⊎ ((512 ≤ a) × (a < 608))) → ((c < 384) ⊎ ((512 ≤ c) × (c < 608))) → k < 192 → mekr_refusal b a c k ≡ None → Sound (mekr b a c k)
mekr_keeps b a c k s la lc lk r =
    subst Sound (sym (linked_is (is_half_place a) (is_half_place c) b a c (place_loop b a) (place_loop b c) (place_vertex b a) (place_vertex b c) k)) (sound b _ _ _ _ _ _ k s (linkable b a c k s lk r))
