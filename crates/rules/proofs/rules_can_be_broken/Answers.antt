use Rattle.rules.proofs.Broken.{broken}
use Rattle.rules.proofs.rules_can_be_broken.Goals as goal

pub returns : goal.returns
returns c = broken
