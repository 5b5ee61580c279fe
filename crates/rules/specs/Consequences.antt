-- What follows of every sound boundary, in the form that later work takes it.
--     OnceRound f b lab h   a walk by f from h comes back within 384 steps, and meets each used half-edge with the label of h once
--     InFace b h            the loop of h lies in one used face, and next does not leave it
--     Consequences b        all of what follows
use Rattle.std.specs.Prelude.{◌≡◌, ℕ, ◌<◌, ◌≤◌}
use Rattle.boundary.specs.declared.Boundary.{Boundary}
use Rattle.boundary.specs.Tables.{start, next, owner, loop_face}
use Rattle.rings.specs.Rings.{walk, run, Round}
use Rattle.rules.specs.Rules.{Has, Used, turn}

pub record OnceRound (f : ℕ → ℕ) (b : Boundary) (lab : ℕ → ℕ) (h : ℕ) : Type 0 where
  pub steps : ℕ
  pub at_least_one : 0 < steps
  pub few : steps ≤ 384
  pub back : walk f steps h ≡ h
  pub round : Round (Used b) lab h (run f h steps)

pub record InFace (b : Boundary) (h : ℕ) : Type 0 where
  -- every half-edge of the loop lies in the face of the loop
  pub same : (k : ℕ) → Used b k → owner b h ≡ owner b k → loop_face b (owner b h) ≡ loop_face b (owner b k)
  -- that face is used
  pub face_used : Has b.faces (loop_face b (owner b h))
  -- the half-edge after h lies in it too
  pub stays : loop_face b (owner b (next b h)) ≡ loop_face b (owner b h)

pub record Consequences (b : Boundary) : Type 0 where
  -- a used half-edge has exactly one before it
  pub before : (h : ℕ) → Used b h → (p : ℕ) × Used b p × (next b p ≡ h) × ((q : ℕ) → Used b q → next b q ≡ h → q ≡ p)
  -- the walk by next meets the half-edges of the loop
  pub loop_walk : (h : ℕ) → Used b h → OnceRound (next b) b (owner b) h
  -- the walk by turn meets the half-edges that start where h starts
  pub vertex_walk : (h : ℕ) → Used b h → OnceRound (turn b) b (start b) h
  -- a loop lies in one face
  pub in_face : (h : ℕ) → Used b h → InFace b h
