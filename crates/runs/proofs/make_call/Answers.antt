use Rattle.runs.proofs.Stepping.{stepped_begin}
use Rattle.runs.proofs.make_call.Goals as goal

pub returns-in-Opened-Begin : goal.returns-in-Opened-Begin
returns-in-Opened-Begin g c = rw c.in-Opened-Begin.is-1 (stepped_begin g.S.Make.Disk.reads g.S.Make.Disk.may g.S.Make.Disk.did c.args.phase c.in-Opened-Begin.session c.begin.result c.in-Opened-Begin.is-0 c.begin.ensures)
