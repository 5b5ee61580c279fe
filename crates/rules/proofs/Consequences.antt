-- What follows of every sound boundary: the rings of its loops and of its vertices say it all but the faces.
use Rattle.std.proofs.Common.{ℕ, suc, ◌<◌, sym, ap, ◌∙◌, arith}
use Rattle.boundary.specs.declared.Boundary.{Boundary}
use Rattle.boundary.specs.Tables.{next, owner, loop_face}
use Rattle.rings.specs.Rings.{Rings}
use Rattle.rings.proofs.Walks.{walk_first}
use Rattle.rings.proofs.Facts.{before, injective}
use Rattle.rings.proofs.Round.{comes_round, round, within_bound}
use Rattle.rules.specs.Rules.{Used, Sound}
use Rattle.rules.specs.Consequences.{OnceRound, InFace, Consequences}
use Rattle.rules.proofs.RulesAsRings.{loop_rings, vertex_rings, half_below}

-- once round, in any rings of used half-edges
once_round : (f : ℕ → ℕ) (b : Boundary) (lab : ℕ → ℕ) → Rings f (Used b) lab → ((k : ℕ) → Used b k → k < 384) → (h : ℕ) → Used b h → OnceRound f b lab h
once_round f b lab r small h u =
    let m = comes_round r h u in
    record {
      steps = suc m.0;
      at_least_one = omega arith;
      few = within_bound r (f h) h m.0 (r.closed h u) u (r.label h u) m.1.not_before 384 small;
      back = sym (walk_first f m.0 h) ∙ m.1.arrives;
      round = round r h m.0 u m.1;
    }

in_one_face : (b : Boundary) → Sound b → (h : ℕ) → Used b h → InFace b h
in_one_face b s h u = record {
  same = λ k v e. ap (loop_face b) e;
  face_used = s.named.face_used (owner b h) (s.named.owner_used h u);
  stays = ap (loop_face b) (s.loops.stays h u);
}

pub consequences : (b : Boundary) → Sound b → Consequences b
consequences b s = record {
  before = λ h u.
      let p = before (loop_rings b s) h u in
      (p.0, p.1, p.2, λ q v e. injective (loop_rings b s) q p.0 v p.1 (e ∙ sym p.2));
  loop_walk = once_round (next b) b (owner b) (loop_rings b s) (half_below b s);
  vertex_walk = once_round _ b _ (vertex_rings b s) (half_below b s);
  in_face = in_one_face b s;
}
