use Rattle.std.proofs.Common.{rules}
use Rattle.solid.proofs.Searches.{first_found}
use Rattle.solid.proofs.Solid.face_in.Goals as goal

pub returns : goal.returns
returns c = search (rules, first_found)
