-- A vertex that moves keeps the rules: the same rows are used, and no rule speaks of a position.
use Rattle.std.proofs.Common.{◌≡◌, ℕ, ◌<◌, Some, None, ◌∙◌, arith}
use Rattle.boundary.specs.declared.Refusal.TheVariants.{Unused}
use Rattle.boundary.specs.declared.Point.{Point}
use Rattle.boundary.specs.declared.Boundary.{Boundary}
use Rattle.boundary.specs.Tables.{used, start}
use Rattle.boundary.specs.Operators.{move}
use Rattle.boundary.specs.Refusals.{move_refusal}
use Rattle.rules.specs.Rules.{Has, Sizes, Named, LoneVertices, Outer, Balanced, Sound}
use Rattle.rules.proofs.Rows.{true_T, unless_none, length_put, has_put_other_in, has_put_again}
use Rattle.rules.proofs.Counts.{count_put_used}
use Rattle.rules.proofs.SameEdges.{continues_beside, loops_beside, vertices_beside}

module _ (b : Boundary) (v : ℕ) (p : Point) (s : Sound b) (u : Has b.vertices v) where
  still : (w : ℕ) → Has b.vertices w → Has (move b v p).vertices w
  still w i = has_put_other_in b.vertices v w p i

  before : (w : ℕ) → Has (move b v p).vertices w → Has b.vertices w
  before w i = has_put_again b.vertices v w p u i

  sizes : Sizes (move b v p)
  sizes = record {
    shells = s.sizes.shells;
    faces = s.sizes.faces;
    loops = s.sizes.loops;
    edges = s.sizes.edges;
    vertices = length_put b.vertices v (Some p) ∙ s.sizes.vertices;
  }

  named : Named (move b v p)
  named = record {
    start_used = λ h i. still (start b h) (s.named.start_used h i);
    next_used = s.named.next_used;
    owner_used = s.named.owner_used;
    lone_used = λ l w e. still w (s.named.lone_used l w e);
    face_used = s.named.face_used;
    shell_used = s.named.shell_used;
    outer_used = s.named.outer_used;
  }

  lone : LoneVertices (move b v p)
  lone = record {
    lone_alone = s.lone.lone_alone;
    else_half_edge = s.lone.else_half_edge;
    start_or_lone = λ w i. s.lone.start_or_lone w (before w i);
    one_loop = s.lone.one_loop;
    not_both = s.lone.not_both;
  }

  outer : Outer (move b v p)
  outer = record { lies_in = s.outer.lies_in; some_face = s.outer.some_face }

  balanced : Balanced (move b v p)
  balanced = omega (arith, s.balanced, count_put_used b.vertices v p u)

  sound : Sound (move b v p)
  sound = record {
    sizes = sizes;
    named = named;
    continues = continues_beside b _ _ _ _ _ s.continues;
    loops = loops_beside b _ _ _ _ _ s.loops;
    vertices = vertices_beside b _ _ _ _ _ s.vertices;
    lone = lone;
    outer = outer;
    one_shell = s.one_shell;
    balanced = balanced;
  }

pub move_keeps : (b : Boundary) (v : ℕ) (p : Point) → Sound b → v < 128 → move_refusal b v ≡ None → Sound (move b v p)
move_keeps b v p s lt q = sound b v p s (true_T (used b.vertices v) (unless_none (used b.vertices v) Unused None q).0)
