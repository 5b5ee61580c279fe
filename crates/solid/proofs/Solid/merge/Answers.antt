use Rattle.std.proofs.Common.{rules, ap}
use Rattle.boundary.specs.Changes.{merged_face, with_faces}
use Rattle.solid.proofs.Solid.merge.Goals as goal

pub returns : goal.returns
returns c = ap (with_faces c.args.self.now.boundary) (c.change_all.ensures (merged_face c.args.from c.args.to) (λ x y h. search rules))
