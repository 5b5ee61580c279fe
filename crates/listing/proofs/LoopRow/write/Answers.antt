use Rattle.std.proofs.Common.{◌∷◌, ◌++◌, ap, decimal}
use Rattle.std.proofs.Output.{has_written_of_eq}
use Rattle.listing.specs.Listing.{place}
use Rattle.listing.proofs.Steps.{to_end}
use Rattle.listing.proofs.LoopRow.write.Goals as goal

pub returns : goal.returns
returns g c p ok =
    has_written_of_eq _ _ _ _ _
    (ap (λ l. 108 ∷ 32 ∷ (decimal c.args.k ++ 32 ∷ (decimal c.args.self.now.face ++ l))) (to_end (place c.args.b.now c.args.k c.args.self.now.lone)))
    (c.writeln.ensures.writes p ok)
