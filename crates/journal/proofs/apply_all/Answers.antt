use Rattle.std.proofs.Common.{◌≡◌, Ok, Err, sym, ap, ◌∙◌, arith, rules}
use Rattle.std.proofs.lemmas.List.{at_drop_all}
use Rattle.std.proofs.lemmas.Result.{err_from_is_err_and}
use Rattle.boundary.specs.declared.Refusal.{Refusal}
use Rattle.faults.specs.declared.SolidFault.TheVariants.{Refused}
use Rattle.standing.specs.Openings.{applied_all}
use Rattle.journal.proofs.Applying.{applied_more, applied_refused}
use Rattle.journal.proofs.apply_all.Goals as goal

pub loop-i-preserved : goal.loop-i-preserved
loop-i-preserved c =
    let served : c.apply.result ≡ Ok tt = search rules in
    applied_more c.loop-i.solid.boundary c.loop-i.i c.edits-edit-items.result.now _ c.loop-i-test.true c.apply.new.self.boundary (sym served ∙ c.apply.ensures.reply) c.apply.ensures.left ∙ c.loop-i.invariant

pub returns-in_err-map_err : goal.returns-in_err-map_err
returns-in_err-map_err c =
    let p = err_from_is_err_and c.from_residual.result c.from_residual.ensures.1 in
    let w : (w : Refusal) × (c.apply.result ≡ Err w) × (c.in_err-map_err.field-0.0 ≡ Refused w c.loop-i.i) = search rules in
    rw (p.1, p.2, w.2, ← c.edits-edit-items.ensures.is) (sym c.loop-i.invariant ∙ applied_refused c.loop-i.solid.boundary c.loop-i.i c.edits-edit-items.result.now _ c.loop-i-test.true (sym w.1 ∙ c.apply.ensures.reply), c.loop-i-test.true)

pub returns : goal.returns
returns c = ap (applied_all c.args.solid.now.boundary 0) (sym c.edits-edit-items.ensures.is) ∙ sym c.loop-i.invariant ∙ at_drop_all (applied_all c.loop-i.solid.boundary c.loop-i.i) c.edits-edit-items.result.now c.loop-i.i (omega arith)
