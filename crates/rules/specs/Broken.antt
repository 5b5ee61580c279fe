-- Small tables, each of which breaks one rule: no rule is true of everything.
use Rattle.std.specs.Prelude.{List, [], ◌∷◌, pos, Some, None, Option}
use Rattle.boundary.specs.declared.Point.{Point}
use Rattle.boundary.specs.declared.Edge.{Edge}
use Rattle.boundary.specs.declared.Loop.{Loop}
use Rattle.boundary.specs.declared.Face.{Face}
use Rattle.boundary.specs.declared.Shell.{Shell}
use Rattle.boundary.specs.declared.Boundary.{Boundary}
use Rattle.boundary.specs.Operators.{edge, half_edge}
use Rattle.rules.specs.Rules.{Sizes, Named, Continues, LoopRings, VertexRings, LoneVertices, Outer, OneShell, Balanced}

abbrev pub tables : List (Option Shell) → List (Option Face) → List (Option Loop) → List (Option Edge) → List (Option Point) → Boundary
tables ss fs ls es vs = record { shells = ss; faces = fs; loops = ls; edges = es; vertices = vs; handles = 0 }

-- one edge alone: its half-edges start at no used vertex
abbrev pub one_edge : Edge → Boundary
one_edge e = tables [] [] [] (Some e ∷ []) []

abbrev pub no_start : Boundary
no_start = one_edge (edge (half_edge 0 1 0) (half_edge 0 0 0))

-- each half-edge leads to itself, and so not to where it ends
abbrev pub back_to_itself : Boundary
back_to_itself = one_edge (edge (half_edge 0 0 0) (half_edge 1 1 0))

-- and so the two half-edges of the loop are two rings
abbrev pub two_rings : Boundary
two_rings = back_to_itself

-- an edge from a vertex to itself, with its half-edges after each other: round the vertex they are two rings
abbrev pub two_turns : Boundary
two_turns = one_edge (edge (half_edge 0 1 0) (half_edge 0 0 0))

-- a loop with neither a lone vertex nor a half-edge
abbrev pub bare_loop : Boundary
bare_loop = tables [] [] (Some (record { face = 0; lone = None }) ∷ []) [] []

-- a shell without a face
abbrev pub bare_shell : Boundary
bare_shell = tables (Some (record {}) ∷ []) [] [] [] []

-- an edge between two loops whose faces lie in two shells
abbrev pub two_shells : Boundary
two_shells =
    tables [] (Some (record { shell = 0; outer = 0 }) ∷ Some (record { shell = 1; outer = 1 }) ∷ []) (Some (record { face = 0; lone = None }) ∷ Some (record { face = 1; lone = None }) ∷ []) (Some (edge (half_edge 0 0 0) (half_edge 0 1 1)) ∷ []) []

-- a vertex and nothing else
abbrev pub bare_vertex : Boundary
bare_vertex = tables [] [] [] [] (Some (record { x = pos 0; y = pos 0; z = pos 0 }) ∷ [])

pub record Broken : Type 0 where
  pub sizes : Sizes bare_vertex → ⊥
  pub named : Named no_start → ⊥
  pub continues : Continues back_to_itself → ⊥
  pub loops : LoopRings two_rings → ⊥
  pub vertices : VertexRings two_turns → ⊥
  pub lone : LoneVertices bare_loop → ⊥
  pub outer : Outer bare_shell → ⊥
  pub one_shell : OneShell two_shells → ⊥
  pub balanced : Balanced bare_vertex → ⊥
