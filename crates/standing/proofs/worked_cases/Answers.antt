use Rattle.standing.proofs.Examples.{worked}
use Rattle.standing.proofs.worked_cases.Goals as goal

pub returns : goal.returns
returns c = worked
