use Rattle.records.proofs.Examples.{worked}
use Rattle.records.proofs.worked_blocks.Goals as goal

pub returns : goal.returns
returns c = worked
