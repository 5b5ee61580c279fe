use Rattle.rules.proofs.Consequences.{consequences}
use Rattle.rules.proofs.walks_come_back.Goals as goal

pub returns : goal.returns
returns c = consequences
