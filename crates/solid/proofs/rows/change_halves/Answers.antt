use Rattle.std.proofs.Common.{rules}
use Rattle.boundary.specs.Operators.{edge}
use Rattle.solid.proofs.rows.change_halves.Goals as goal

pub returns : goal.returns
returns g c = λ f gives. c.change_all.ensures (λ e. edge (f e.even) (f e.odd)) (λ x y h. search (rules, gives))
