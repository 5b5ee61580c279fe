-- The first row that lies in k is the one that the library's `position` finds.
use Rattle.std.proofs.Common.{◌≡◌, ℕ, cond, List, length, Option, refl, ap, arith}
use Rattle.std.specs.List.{position, position_or_len}
use Rattle.std.specs.Option.{unwrap_or}
use Rattle.std.proofs.lemmas.List.Recursion.{is_position_or_len}
use Rattle.std.proofs.lemmas.List.Sums.{prefix_len-le-length}
use Rattle.boundary.specs.Tables.{in_row, first_part}

module _ {X : Type 0} (w : X → ℕ) (k : ℕ) where
  first_place : (t : List (Option X)) → first_part w t k ≡ position_or_len (in_row w k) t
  unfolding first_part
  first_place = is_position_or_len (λ t. first_part w t k) (in_row w k) refl (λ r t. ap (cond (in_row w k r) 0) (omega arith))

  pub first_found : (t : List (Option X)) → unwrap_or (position (in_row w k) t) (length t) ≡ first_part w t k
  first_found t = grind (arith, first_place t, prefix_len-le-length)
