use Rattle.std.proofs.Common.{ap}
use Rattle.rules.specs.Histories.{after_all}
use Rattle.solid.proofs.Lists.{edit_more, edits_all}
use Rattle.solid.proofs.Solid.build.Goals as goal

pub loop-edit-init : goal.loop-edit-init
loop-edit-init c = ap (λ b. after_all b c.args.edits.now) c.empty-built.ensures

pub loop-edit-preserved : goal.loop-edit-preserved
loop-edit-preserved c = edit_more c.args.edits.now c.loop-edit.built.boundary c.apply.new.self.boundary c.loop-edit.edit-index _ c.loop-edit.invariant c.loop-edit-test.true c.apply.ensures.left

pub returns : goal.returns
returns c =
    let done = edits_all c.args.edits.now c.loop-edit.built.boundary c.loop-edit.edit-index c.loop-edit.invariant c.loop-edit-test.false in
    record { is = done.is; sound = done.sound; handles = done.handles }
