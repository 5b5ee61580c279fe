use Rattle.rules.proofs.Histories.{stays_sound}
use Rattle.rules.proofs.lists_stay_sound.Goals as goal

pub returns : goal.returns
returns c = stays_sound
