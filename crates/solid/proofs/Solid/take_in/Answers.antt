use Rattle.std.proofs.Common.{rules, ap}
use Rattle.boundary.specs.Changes.{inner_loop, with_loops}
use Rattle.solid.proofs.Solid.take_in.Goals as goal

pub returns : goal.returns
returns c = ap (with_loops c.args.self.now.boundary) (c.change_all.ensures (inner_loop c.args.from c.args.to) (λ x y h. search rules))
