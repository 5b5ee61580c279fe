use Rattle.std.proofs.Common.{append-nil, arith}
use Rattle.std.proofs.lemmas.Result.{err_from_is_err_and}
use Rattle.disk.specs.Chains.{none, first}
use Rattle.disk.proofs.Chains.{then_one, joined, one}
use Rattle.journal.proofs.Writing.{with_bytes, written_more, written_cut, ended_cut, ended_last}
use Rattle.journal.proofs.write_batch.Goals as goal

pub loop-i-init : goal.loop-i-init
loop-i-init g c = none

pub loop-i-preserved : goal.loop-i-preserved
loop-i-preserved g c = written_more c.args.number c.args.tail c.edits-edits.result.now c.loop-i.i _ c.encode.result _ c.loop-i-test.true c.loop-i.invariant c.encode.ensures.is c.in_ok-write.ensures

pub returns-in_err-write : goal.returns-in_err-write
returns-in_err-write g c =
    let p = err_from_is_err_and c.from_residual.result c.from_residual.ensures.1 in
    rw (p.1, p.2, ← c.edits-edits.ensures.is) (written_cut c.args.number c.args.tail c.edits-edits.result.now c.loop-i.i _ c.encode.result c.in_err-write.field-0.0 c.loop-i-test.true c.loop-i.invariant c.encode.ensures.is c.in_err-write.ensures)

pub returns-in_err-flush : goal.returns-in_err-flush
returns-in_err-flush g c =
    let p = err_from_is_err_and c.from_residual-in_err-flush.result c.from_residual-in_err-flush.ensures.1 in
    rw (p.1, p.2, ← c.edits-edits.ensures.is) (ended_cut c.args.number c.args.tail c.edits-edits.result.now c.loop-i.i 0 c.in_err-flush.field-0.0 (omega arith) (omega arith) (rw append-nil c.loop-i.invariant) c.in_err-flush.ensures)

pub returns-in_err-write-2 : goal.returns-in_err-write-2
returns-in_err-write-2 g c =
    let p = err_from_is_err_and c.from_residual-in_err-write-2.result c.from_residual-in_err-write-2.ensures.1 in
    let h = with_bytes g.D.Disk.did c.encode-2.ensures.is c.in_err-write-2.ensures in
    rw (p.1, p.2, ← c.edits-edits.ensures.is) (ended_cut c.args.number c.args.tail c.edits-edits.result.now c.loop-i.i 1 c.in_err-write-2.field-0.0 (omega arith) (omega arith) (then_one c.loop-i.invariant c.in_ok-flush.ensures) h)

pub returns : goal.returns
returns g c =
    let h = with_bytes g.D.Disk.did c.encode-2.ensures.is c.in_ok-write-2.ensures in
    rw (← c.edits-edits.ensures.is) (ended_last c.args.number c.args.tail c.edits-edits.result.now c.loop-i.i c.flush-2.result (omega arith) (joined c.loop-i.invariant (first c.in_ok-flush.ensures (one h))) c.flush-2.ensures)
