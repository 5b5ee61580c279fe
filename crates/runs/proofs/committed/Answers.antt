use Rattle.std.proofs.Common.{◌≡◌, refl, rules}
use Rattle.runs.specs.declared.Phase.TheVariants.{Editing}
use Rattle.runs.specs.Steps.{commit_reply}
use Rattle.runs.proofs.Stepping.{stepped_commit}
use Rattle.runs.proofs.committed.Goals as goal

pub returns : goal.returns
returns g c =
    let reply : c.map_or_else-reply.result ≡ commit_reply c.commit-session.result.1 = search rules in
    stepped_commit g.D.Disk.reads g.D.Disk.may g.D.Disk.did (Editing c.args.batch) c.args.batch c.commit-session.result.0 c.commit-session.result.1 _ refl c.commit-session.ensures reply
