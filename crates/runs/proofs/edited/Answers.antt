use Rattle.std.proofs.Common.{◌≡◌, refl, rules}
use Rattle.runs.specs.declared.Phase.TheVariants.{Editing}
use Rattle.runs.specs.Steps.{edit_reply}
use Rattle.runs.proofs.Stepping.{stepped_edit}
use Rattle.runs.proofs.edited.Goals as goal

pub returns : goal.returns
returns g c =
    let reply : c.map_or_else-reply.result ≡ edit_reply c.edit.result = search rules in
    stepped_edit g.D.Disk.reads g.D.Disk.may g.D.Disk.did (Editing c.args.batch) c.args.batch c.edit.new.self c.args.edit c.edit.result _ refl c.edit.ensures reply
