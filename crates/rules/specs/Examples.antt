-- Small solids, by the edits that draw them, and what they come to.
use Rattle.std.specs.Prelude.{◌≡◌, ℕ, List, [], ◌∷◌, ◌++◌, pos, Some, None}
use Rattle.boundary.specs.declared.Point.{Point}
use Rattle.boundary.specs.declared.Boundary.{Boundary}
use Rattle.boundary.specs.declared.Edit.{Edit}
use Rattle.boundary.specs.declared.Edit.TheVariants.{Mvfs, Kvfs, Mev, Kev, Mef, Kef, Kemr, Mekr, Kfmrh}
use Rattle.boundary.specs.Operators.{empty}
use Rattle.boundary.specs.Tables.{count, next, lone, run}
use Rattle.boundary.specs.declared.Refusal.TheVariants.{OutOfRange, Condition}
use Rattle.boundary.specs.Refusals.{refusal}
use Rattle.rules.specs.Histories.{after_all}
use Rattle.rules.specs.Rules.{Sound}

abbrev pub at : ℕ → ℕ → ℕ → Point
at x y z = record { x = pos x; y = pos y; z = pos z }

-- two edges in a row
abbrev pub corner : List Edit
corner = Mvfs (pos 0) (pos 0) (pos 0) (pos 0) (at 0 0 0) ∷ Mev (pos 512) (pos 0) (pos 1) (at 256 0 0) ∷ Mev (pos 1) (pos 1) (pos 2) (at 256 256 0) ∷ []

abbrev pub triangle : List Edit
triangle = corner ++ Mef (pos 0) (pos 3) (pos 2) (pos 1) (pos 1) ∷ []

-- the half-edges of the ring of h, from h on
abbrev pub ring : Boundary → ℕ → List ℕ
ring b h = h ∷ run (next b) 383 (next b h) h

-- vertices, edges, faces, loops, shells, handles
abbrev pub counts : Boundary → List ℕ
counts b = count b.vertices ∷ count b.edges ∷ count b.faces ∷ count b.loops ∷ count b.shells ∷ b.handles ∷ []

-- a block of 40 x 30 x 20 mm, and a square hole through it
abbrev pub block : List Edit
block =
    Mvfs (pos 0) (pos 0) (pos 0) (pos 0) (at 0 0 0)
    ∷ Mev (pos 512) (pos 0) (pos 1) (at 10240 0 0)
    ∷ Mev (pos 1) (pos 1) (pos 2) (at 10240 7680 0)
    ∷ Mev (pos 3) (pos 2) (pos 3) (at 0 7680 0)
    ∷ Mef (pos 0) (pos 5) (pos 3) (pos 1) (pos 1)
    ∷ Mev (pos 6) (pos 4) (pos 4) (at 0 0 5120)
    ∷ Mev (pos 1) (pos 5) (pos 5) (at 10240 0 5120)
    ∷ Mev (pos 3) (pos 6) (pos 6) (at 10240 7680 5120)
    ∷ Mev (pos 5) (pos 7) (pos 7) (at 0 7680 5120)
    ∷ Mef (pos 11) (pos 9) (pos 8) (pos 2) (pos 2)
    ∷ Mef (pos 9) (pos 15) (pos 9) (pos 3) (pos 3)
    ∷ Mef (pos 15) (pos 13) (pos 10) (pos 4) (pos 4)
    ∷ Mef (pos 13) (pos 16) (pos 11) (pos 5) (pos 5) ∷ []

abbrev pub through_hole : List Edit
through_hole =
    Mev (pos 18) (pos 12) (pos 8) (at 2560 2560 5120)
    ∷ Kemr (pos 24) (pos 6)
    ∷ Mev (pos 518) (pos 12) (pos 9) (at 7680 2560 5120)
    ∷ Mev (pos 25) (pos 13) (pos 10) (at 7680 5120 5120)
    ∷ Mev (pos 27) (pos 14) (pos 11) (at 2560 5120 5120)
    ∷ Mef (pos 29) (pos 24) (pos 15) (pos 6) (pos 7)
    ∷ Mev (pos 31) (pos 16) (pos 12) (at 2560 2560 0)
    ∷ Mev (pos 25) (pos 17) (pos 13) (at 7680 2560 0)
    ∷ Mev (pos 27) (pos 18) (pos 14) (at 7680 5120 0)
    ∷ Mev (pos 29) (pos 19) (pos 15) (at 2560 5120 0)
    ∷ Mef (pos 35) (pos 33) (pos 20) (pos 7) (pos 8)
    ∷ Mef (pos 33) (pos 39) (pos 21) (pos 8) (pos 9)
    ∷ Mef (pos 39) (pos 37) (pos 22) (pos 9) (pos 10)
    ∷ Mef (pos 37) (pos 40) (pos 23) (pos 10) (pos 11)
    ∷ Kfmrh (pos 1) (pos 6) ∷ []

abbrev pub two_shells : List Edit
two_shells = Mvfs (pos 0) (pos 0) (pos 0) (pos 0) (at 0 0 0) ∷ Mvfs (pos 1) (pos 1) (pos 1) (pos 1) (at 9 9 9) ∷ []

pub record Worked : Type 0 where
  pub triangle_counts : counts (after_all empty triangle) ≡ 3 ∷ 3 ∷ 2 ∷ 2 ∷ 1 ∷ 0 ∷ []
  pub triangle_rings : (ring (after_all empty triangle) 1 ≡ 1 ∷ 4 ∷ 3 ∷ []) × (ring (after_all empty triangle) 0 ≡ 0 ∷ 2 ∷ 5 ∷ [])
  pub equal_half_edges : refusal (after_all empty triangle) (Mef (pos 0) (pos 0) (pos 3) (pos 2) (pos 2)) ≡ Some Condition
  pub largest_coordinate : refusal empty (Mvfs (pos 0) (pos 0) (pos 0) (pos 0) (at 8388607 0 0)) ≡ None
  pub too_large_coordinate : refusal empty (Mvfs (pos 0) (pos 0) (pos 0) (pos 0) (at 8388608 0 0)) ≡ Some OutOfRange
  -- kemr of the second edge leaves the ring 0 1, and vertex 2 lone on loop 1; mekr puts it back
  pub cut_ring : ring (after_all empty (corner ++ Kemr (pos 2) (pos 1) ∷ [])) 0 ≡ 0 ∷ 1 ∷ []
  pub cut_lone : lone (after_all empty (corner ++ Kemr (pos 2) (pos 1) ∷ [])) 1 ≡ Some 2
  pub put_back : ring (after_all empty (corner ++ Kemr (pos 2) (pos 1) ∷ Mekr (pos 1) (pos 513) (pos 1) ∷ [])) 0 ≡ 0 ∷ 2 ∷ 3 ∷ 1 ∷ []
  pub one_handle : counts (after_all empty (triangle ++ Kfmrh (pos 0) (pos 1) ∷ [])) ≡ 3 ∷ 3 ∷ 1 ∷ 2 ∷ 1 ∷ 1 ∷ []
  pub no_handle : counts (after_all empty (two_shells ++ Kfmrh (pos 0) (pos 1) ∷ [])) ≡ 2 ∷ 0 ∷ 1 ∷ 2 ∷ 1 ∷ 0 ∷ []
  pub block_counts : counts (after_all empty block) ≡ 8 ∷ 12 ∷ 6 ∷ 6 ∷ 1 ∷ 0 ∷ []
  pub hole_counts : counts (after_all empty (block ++ through_hole)) ≡ 16 ∷ 24 ∷ 10 ∷ 12 ∷ 1 ∷ 1 ∷ []
  pub taken_down : after_all empty (triangle ++ Kef (pos 5) ∷ Kev (pos 2) ∷ Kev (pos 0) ∷ Kvfs (pos 0) ∷ []) ≡ empty
  pub triangle_sound : Sound (after_all empty triangle)
  pub hole_sound : Sound (after_all empty (block ++ through_hole))
