use Rattle.std.proofs.Common.{◌+◌, ◌<◌, ◌≤◌, length, Ok, Err, sym, ap, subst, arith, rules}
use Rattle.std.proofs.lemmas.Result.{err_from_is_err_and}
use Rattle.faults.specs.declared.JournalFault.TheVariants.{Disk, NoEdits, Full}
use Rattle.standing.specs.Plans.{plan, Carried}
use Rattle.journal.specs.Appends.{Appends}
use Rattle.journal.specs.Drafts.{drafted}
use Rattle.journal.proofs.Writing.{appended_ok, appended_err}
use Rattle.journal.proofs.Lives.{appends_on}
use Rattle.journal.proofs.append.Goals as goal

pub returns-then-is_empty : goal.returns-then-is_empty
returns-then-is_empty g c =
    let h : Appends g.D.Disk.did c.args.disk.now c.args.extent (drafted c.args.batch.now) (Err (NoEdits c.from-tail.result)) c.args.disk.now = search rules in
    let few : length (drafted c.args.batch.now) ≤ 16 = omega (arith, ap length c.edits-edits.ensures.is, c.edits-edits.ensures.few) in
    record { is = h; life = λ d bs small k at in_range. appends_on g.D.Disk.reads g.D.Disk.may g.D.Disk.gone g.D.Disk.did g.met.D.Disk.stands g.met.D.Disk.keeps d small c.args.extent (drafted c.args.batch.now) _ _ h few bs k at in_range }

pub returns-then-end-from : goal.returns-then-end-from
returns-then-end-from g c =
    let h : Appends g.D.Disk.did c.args.disk.now c.args.extent (drafted c.args.batch.now) (Err (Full c.from-tail.result)) c.args.disk.now = search rules in
    let few : length (drafted c.args.batch.now) ≤ 16 = omega (arith, ap length c.edits-edits.ensures.is, c.edits-edits.ensures.few) in
    record { is = h; life = λ d bs small k at in_range. appends_on g.D.Disk.reads g.D.Disk.may g.D.Disk.gone g.D.Disk.did g.met.D.Disk.stands g.met.D.Disk.keeps d small c.args.extent (drafted c.args.batch.now) _ _ h few bs k at in_range }

pub returns-in_err-write_batch : goal.returns-in_err-write_batch
returns-in_err-write_batch g c =
    let p = err_from_is_err_and c.from_residual.result c.from_residual.ensures.1 in
    let some : 0 < length c.edits-edits.result.now = search rules in
    let room : c.from-tail.result + length c.edits-edits.result.now + 1 ≤ c.args.extent.count = search rules in
    let few : length (drafted c.args.batch.now) ≤ 16 = omega (arith, ap length c.edits-edits.ensures.is, c.edits-edits.ensures.few) in
    let h = appended_err c.args.extent (drafted c.args.batch.now) c.edits-edits.result.now c.from-tail.result c.saturating_add-number.result c.edits-edits.ensures.is c.from-tail.ensures c.saturating_add-number.ensures some room c.in_err-write_batch.field-0.0 (subst (λ es. Carried g.D.Disk.did c.args.disk.now (plan c.saturating_add-number.result c.from-tail.result es) (Err c.in_err-write_batch.field-0.0) c.write_batch.new.disk) (sym c.edits-edits.ensures.is) c.in_err-write_batch.ensures) in
    rw (p.1, p.2) (record { is = h; life = λ d bs small k at in_range. appends_on g.D.Disk.reads g.D.Disk.may g.D.Disk.gone g.D.Disk.did g.met.D.Disk.stands g.met.D.Disk.keeps d small c.args.extent (drafted c.args.batch.now) (Err (Disk c.in_err-write_batch.field-0.0)) c.write_batch.new.disk h few bs k at in_range })

pub returns : goal.returns
returns g c =
    let some : 0 < length c.edits-edits.result.now = search rules in
    let room : c.from-tail.result + length c.edits-edits.result.now + 1 ≤ c.args.extent.count = search rules in
    let few : length (drafted c.args.batch.now) ≤ 16 = omega (arith, ap length c.edits-edits.ensures.is, c.edits-edits.ensures.few) in
    let h = appended_ok c.args.extent (drafted c.args.batch.now) c.edits-edits.result.now c.from-tail.result c.saturating_add-number.result c.edits-edits.ensures.is c.from-tail.ensures c.saturating_add-number.ensures some room (subst (λ es. Carried g.D.Disk.did c.args.disk.now (plan c.saturating_add-number.result c.from-tail.result es) (Ok tt) c.write_batch.new.disk) (sym c.edits-edits.ensures.is) c.in_ok-write_batch.ensures) in
    record { is = h; life = λ d bs small k at in_range. appends_on g.D.Disk.reads g.D.Disk.may g.D.Disk.gone g.D.Disk.did g.met.D.Disk.stands g.met.D.Disk.keeps d small c.args.extent (drafted c.args.batch.now) _ c.write_batch.new.disk h few bs k at in_range }
