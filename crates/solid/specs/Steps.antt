-- What a call of an operator answers and leaves.
use Rattle.std.specs.Prelude.{◌≡◌, Option, Result}
use Rattle.boundary.specs.declared.Boundary.{Boundary}
use Rattle.boundary.specs.declared.Refusal.{Refusal}
use Rattle.boundary.specs.Refusals.{answer, unchanged}

-- refused for the reason o, if any, and then left as it was; else answered with nothing and left as `new`
pub record Decided (o : Option Refusal) (old new : Boundary) (r : Result (Unit {0}) Refusal) (left : Boundary) : Type 0 where
  pub reply : r ≡ answer o
  pub leaves : left ≡ unchanged o old new
