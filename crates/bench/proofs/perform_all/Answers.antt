use Rattle.std.proofs.Common.{sym, ◌∙◌, arith, length-set, rules}
use Rattle.std.proofs.lemmas.List.{length-replicate}
use Rattle.disk.specs.Chains.{none}
use Rattle.bench.proofs.Noted.{calls_more}
use Rattle.bench.proofs.perform_all.Goals as goal

pub loop-i-init : goal.loop-i-init
loop-i-init g c = (none, search (rules, length-replicate))

pub loop-i-preserved : goal.loop-i-preserved
loop-i-preserved g c = (
  calls_more g.D.Disk.did c.args.disk.now c.loop-i.disk c.perform.new.disk c.args.acts.now c.loop-i.answers c.loop-i.i _ c.perform.result (omega arith) c.loop-i.invariant.1 c.loop-i.invariant.0 c.perform.ensures,
  c.loop-i.invariant.1 ∙ sym (length-set c.loop-i.answers c.loop-i.i c.perform.result),
)
