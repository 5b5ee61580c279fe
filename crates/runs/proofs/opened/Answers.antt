use Rattle.std.proofs.Common.{◌≡◌, refl, rules}
use Rattle.runs.specs.declared.Phase.TheVariants.{Idle}
use Rattle.runs.specs.Steps.{open_reply}
use Rattle.runs.proofs.Stepping.{stepped_open}
use Rattle.runs.proofs.opened.Goals as goal

pub returns : goal.returns
returns g c =
    let reply : c.map_or_else-reply.result ≡ open_reply c.open-session.result.0 c.open-session.result.1 = search rules in
    stepped_open g.D.Disk.reads g.D.Disk.may g.D.Disk.did (Idle c.args.disk) c.args.disk c.open-session.result.0 c.open-session.result.1 _ refl c.open-session.ensures reply
