use Rattle.std.proofs.Output.{has_written_of_eq}
use Rattle.listing.specs.Listing.{listed}
use Rattle.listing.proofs.Steps.{all_lines}
use Rattle.listing.proofs.ListedDisplay.fmt.Goals as goal

pub returns-clause-writes : goal.returns-clause-writes
unfolding listed
returns-clause-writes g c p ok = has_written_of_eq _ _ _ _ _ (all_lines _ _ c.counted-counts.ensures _ _ _ _) (c.write.ensures.writes p ok)
