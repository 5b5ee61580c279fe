use Rattle.solid.proofs.Runs.{owning_starts, owning_goes, owning_meets, owning_ends}
use Rattle.solid.proofs.rows.own_run.Goals as goal

pub loop-init : goal.loop-init
loop-init c = owning_starts c.args.edges.now c.args.from c.args.to c.args.l

pub loop-preserved : goal.loop-preserved
loop-preserved c = owning_goes c.args.edges.now c.args.from c.args.to c.args.l c.loop.edges c.own.new.edges c.loop.counter c.loop.h c.half-h.result c.loop.invariant c.loop-test.true c.if-h-to.false c.own.ensures c.half-h.ensures

pub returns-then-h-to : goal.returns-then-h-to
returns-then-h-to c = owning_meets c.args.edges.now c.args.from c.args.to c.args.l c.loop.edges c.loop.counter c.loop.h c.loop.invariant c.if-h-to.true

pub returns : goal.returns
returns c = owning_ends c.args.edges.now c.args.from c.args.to c.args.l c.loop.edges c.loop.counter c.loop.h c.loop.invariant c.loop-test.false
