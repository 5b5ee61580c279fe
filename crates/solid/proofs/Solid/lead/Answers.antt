use Rattle.std.proofs.Common.{rules, ap}
use Rattle.boundary.specs.Changes.{led_half, with_edges}
use Rattle.solid.proofs.Solid.lead.Goals as goal

pub returns : goal.returns
returns c = ap (with_edges c.args.self.now.boundary) (c.change_halves.ensures (led_half c.args.past c.args.on) (λ x y h. search rules))
