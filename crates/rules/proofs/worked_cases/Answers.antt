use Rattle.rules.proofs.Examples.{worked}
use Rattle.rules.proofs.worked_cases.Goals as goal

pub returns : goal.returns
returns c = worked
