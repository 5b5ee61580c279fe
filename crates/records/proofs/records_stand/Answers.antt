use Rattle.records.proofs.Laws.{stand}
use Rattle.records.proofs.records_stand.Goals as goal

pub returns : goal.returns
returns c = stand
