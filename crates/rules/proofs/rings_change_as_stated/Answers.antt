use Rattle.rules.proofs.RingLaws.{ring_laws}
use Rattle.rules.proofs.rings_change_as_stated.Goals as goal

pub returns : goal.returns
returns c = ring_laws
