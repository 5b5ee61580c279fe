use Rattle.std.proofs.Common.{rules, ap}
use Rattle.boundary.specs.Changes.{joined_half, with_edges}
use Rattle.solid.proofs.Solid.join.Goals as goal

pub returns : goal.returns
returns c = ap (with_edges c.args.self.now.boundary) (c.change_halves.ensures (joined_half c.args.from c.args.to) (λ x y h. search rules))
