-- Rules 2, 3 and 4 speak of the edges alone: they stay, whatever becomes of the other tables.
use Rattle.std.proofs.Common.{ℕ, List, Option}
use Rattle.boundary.specs.declared.Point.{Point}
use Rattle.boundary.specs.declared.Loop.{Loop}
use Rattle.boundary.specs.declared.Face.{Face}
use Rattle.boundary.specs.declared.Shell.{Shell}
use Rattle.boundary.specs.declared.Boundary.{Boundary}
use Rattle.rules.specs.Rules.{Continues, LoopRings, VertexRings}

-- the edges of b among other tables
abbrev pub beside : Boundary → List (Option Shell) → List (Option Face) → List (Option Loop) → List (Option Point) → ℕ → Boundary
beside b ss fs ls vs n = record { shells = ss; faces = fs; loops = ls; edges = b.edges; vertices = vs; handles = n }

module _ (b : Boundary) (ss : List (Option Shell)) (fs : List (Option Face)) (ls : List (Option Loop)) (vs : List (Option Point)) (n : ℕ) where
  pub continues_beside : Continues b → Continues (beside b ss fs ls vs n)
  continues_beside c = record { goes_on = c.goes_on; apart = c.apart }

  pub loops_beside : LoopRings b → LoopRings (beside b ss fs ls vs n)
  loops_beside c = record { stays = c.stays; one_ring = c.one_ring }

  pub vertices_beside : VertexRings b → VertexRings (beside b ss fs ls vs n)
  vertices_beside c = record { one_ring = c.one_ring }
