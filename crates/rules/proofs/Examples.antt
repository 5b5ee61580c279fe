-- The small solids, computed.
use Rattle.std.proofs.Common.{◌++◌, refl}
use Rattle.boundary.specs.Operators.{applied}
use Rattle.boundary.specs.Refusals.{refusal, refusal_within, after}
use Rattle.boundary.specs.Tables.{run, first_part}
use Rattle.rules.specs.Examples.{Worked, triangle, block, through_hole}
use Rattle.rules.proofs.Histories.{stays_sound}

pub worked : Worked
unfolding applied refusal refusal_within after run first_part
worked = record {
  triangle_counts = refl;
  triangle_rings = (refl, refl);
  equal_half_edges = refl;
  largest_coordinate = refl;
  too_large_coordinate = refl;
  cut_ring = refl;
  cut_lone = refl;
  put_back = refl;
  one_handle = refl;
  no_handle = refl;
  block_counts = refl;
  hole_counts = refl;
  taken_down = refl;
  triangle_sound = (stays_sound triangle).sound;
  hole_sound = (stays_sound (block ++ through_hole)).sound;
}
