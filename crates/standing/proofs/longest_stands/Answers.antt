use Rattle.standing.proofs.Scans.{longest}
use Rattle.standing.proofs.longest_stands.Goals as goal

pub returns : goal.returns
returns c = longest
