-- The new edge k at a half-edge h: 2k and 2k + 1 come just before h, and the rules are kept.
use Rattle.std.proofs.Common.{ℕ, ◌<◌, List, Some, Option, sym, refl, inr}
use Rattle.boundary.specs.declared.Point.{Point}
use Rattle.boundary.specs.declared.Edge.{Edge}
use Rattle.boundary.specs.declared.Boundary.{Boundary}
use Rattle.boundary.specs.Tables.{start, owner}
use Rattle.boundary.specs.Operators.{mev_before}
use Rattle.rules.specs.Rules.{Has, Used, Sound}
use Rattle.rules.proofs.OneEdgeMore.{LoopsFor, grown_sound, loops_more, vertices_more, edges_more, new_edge_is}
use Rattle.rules.proofs.Places.{at_half}

-- the edges with the new one
abbrev pub before_edges : Boundary → ℕ → ℕ → ℕ → List (Option Edge)
before_edges b h k v = edges_more b k (start b h) v (owner b h) (Some h)

module _ (b : Boundary) (h k v : ℕ) (s : Sound b) (h_used : Used b h) (k-small : k < 192) (k-free : Has b.edges k → ⊥) where
  loops_for : LoopsFor b b.loops (start b h) (owner b h)
  loops_for = record {
    size = refl;
    counted = refl;
    has_in = λ m u. u;
    has_out = λ m u. u;
    face_same = λ m. refl;
    lone_out = λ m u e. e;
    lone_not_w = λ m u e q. s.lone.not_both m u h e h_used (sym q);
    lone_not_l = λ m u e q. s.lone.lone_alone m u h e h_used (sym q);
    lone_none = λ m e. inr e;
    lone_still = λ m u e. inr e;
  }

  pub before_sound : (p : Point) → (Has b.vertices v → ⊥) → v < 128 → Sound (mev_before b h k v p)
  before_sound p v-free v-small =
      let here = at_half b s h h_used in
      grown_sound b b.loops (before_edges b h k v) k (start b h) v (owner b h) p s (new_edge_is b k (start b h) v (owner b h) (Some h) s k-small k-free) loops_for here.vertex_used v-free v-small here.loop_used
      (loops_more b k (start b h) v (owner b h) (Some h) s k-small k-free here)
      (vertices_more b k (start b h) v (owner b h) (Some h) s k-small k-free here v-free)
