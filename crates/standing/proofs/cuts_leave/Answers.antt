use Rattle.standing.proofs.Journals.{kept_left}
use Rattle.standing.proofs.cuts_leave.Goals as goal

pub returns : goal.returns
returns g c bs q e small k = kept_left g.D.Disk.reads g.D.Disk.may g.D.Disk.gone g.D.Disk.did g.met.D.Disk.stands g.met.D.Disk.keeps _ small k
