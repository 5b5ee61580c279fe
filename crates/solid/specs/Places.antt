-- What the number of a place names.
use Rattle.std.specs.Prelude.{ℕ, ◌-◌, cond}
use Rattle.boundary.specs.Tables.{is_half_place}
use Rattle.solid.specs.declared.ranges.Place.{Place}
use Rattle.solid.specs.declared.ranges.Place.TheVariants.{HalfEdge, Loop}

-- a half-edge below 512, any other the loop 512 below it
abbrev pub place_of : ℕ → Place
place_of a = cond (is_half_place a) (HalfEdge a) (Loop (a - 512))
