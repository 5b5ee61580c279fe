use Rattle.std.proofs.Common.{◌≡◌, ◌<◌, length, get_or, refl, ap, ◌∙◌, subst, arith, rules}
use Rattle.std.proofs.lemmas.List.{take_all}
use Rattle.std.proofs.lemmas.Result.{err_from_is_err_and}
use Rattle.disk.specs.declared.Content.TheVariants.{Unreadable}
use Rattle.disk.specs.Chains.{Chain, none}
use Rattle.disk.proofs.Chains.{then_one}
use Rattle.standing.specs.Openings.{opening}
use Rattle.standing.specs.Plans.{served_reads}
use Rattle.journal.specs.Readings.{begun, found_so_far}
use Rattle.journal.proofs.Reading.{starts, seen_more, read_more, seen_opening, seen_ok, read_cut, failed_at}
use Rattle.journal.proofs.read_blocks.Goals as goal

pub loop-k-init : goal.loop-k-init
loop-k-init g c = record {
  calls = none;
  same = refl;
  seen = starts _ (g.D.Disk.reads c.args.disk.now) c.new-reader.result c.new-reader.ensures;
  count = c.new-reader.ensures.count ∙ c.size-count.ensures;
  bounds = record { batches = omega (arith, c.new-reader.ensures.batches); tail = omega (arith, c.new-reader.ensures.tail, ap (λ o. length (begun o)) c.new-reader.ensures.reads, ap length c.new-reader.ensures.none) };
}

pub returns-in_err-content : goal.returns-in_err-content
returns-in_err-content g c =
    let p = err_from_is_err_and c.from_residual.result c.from_residual.ensures.1 in
    let a = g.met.D.Disk.keeps _ _ _ c.in_err-content.ensures in
    let lt : c.loop-k.k < length (g.D.Disk.reads c.args.disk.now) = omega (arith, c.loop-k-test.true, c.size-count.ensures) in
    rw (p.1, p.2) (
      record { low = search rules; high = search rules },
      c.loop-k.k,
      lt,
      read_cut g.D.Disk.reads g.D.Disk.may g.D.Disk.gone c.loop-k.disk c.read.new.self c.loop-k.k c.in_err-content.field-0.0 (omega (arith, ap length c.loop-k.invariant.same)) a,
      seen_ok (g.D.Disk.reads c.args.disk.now) c.loop-k.k c.loop-k.reader c.loop-k.invariant.seen,
      then_one c.loop-k.invariant.calls c.in_err-content.ensures,
    )

pub returns-in_err-advance : goal.returns-in_err-advance
returns-in_err-advance g c =
    let p = err_from_is_err_and c.from_residual-in_err-advance.result c.from_residual-in_err-advance.ensures.1 in
    let a = g.met.D.Disk.keeps _ _ _ c.in_ok-content.ensures in
    let lt : c.loop-k.k < length (g.D.Disk.reads c.args.disk.now) = omega (arith, c.loop-k-test.true, c.size-count.ensures) in
    let is = a.2 ∙ ap (λ cs. get_or cs c.loop-k.k Unreadable) c.loop-k.invariant.same in
    rw (p.1, p.2)
    (failed_at g.D.Disk.reads g.D.Disk.did c.loop-k.k c.in_ok-content.content c.record_in.result c.loop-k.reader c.advance.new.self c.in_err-advance.field-0.0
    (record { low = search rules; high = search rules }) lt is c.record_in.ensures c.loop-k.invariant.seen c.in_err-advance.ensures
    (read_more (g.D.Disk.reads c.args.disk.now) c.loop-k.k c.in_ok-content.content lt is c.record_in.result c.record_in.ensures c.loop-k.invariant.calls c.in_ok-content.ensures))

pub loop-k-preserved : goal.loop-k-preserved
loop-k-preserved g c =
    let a = g.met.D.Disk.keeps _ _ _ c.in_ok-content.ensures in
    let lt : c.loop-k.k < length (g.D.Disk.reads c.args.disk.now) = omega (arith, c.loop-k-test.true, c.size-count.ensures) in
    let is = a.2 ∙ ap (λ cs. get_or cs c.loop-k.k Unreadable) c.loop-k.invariant.same in
    let w = c.in_ok-advance.ensures in
    record {
      calls = read_more (g.D.Disk.reads c.args.disk.now) c.loop-k.k c.in_ok-content.content lt is c.record_in.result c.record_in.ensures c.loop-k.invariant.calls c.in_ok-content.ensures;
      same = a.3.quiet.as_read ∙ c.loop-k.invariant.same;
      seen = seen_more (g.D.Disk.reads c.args.disk.now) c.loop-k.k c.in_ok-content.content lt is c.record_in.result c.record_in.ensures c.loop-k.reader c.advance.new.self w.0 c.loop-k.invariant.seen;
      count = w.2 ∙ c.loop-k.invariant.count;
      bounds = w.1 c.loop-k.k c.loop-k.invariant.bounds;
    }

pub returns : goal.returns
returns g c =
    let all = take_all c.loop-k.k (g.D.Disk.reads c.args.disk.now) (omega (arith, c.loop-k-test.false, c.size-count.ensures)) in (
      record {
        size = record { low = search rules; high = search rules };
        calls = subst (λ l. Chain g.D.Disk.did c.args.disk.now (served_reads 0 l) c.loop-k.disk) all c.loop-k.invariant.calls;
        is = subst (λ l. opening l ≡ Rattle.std.specs.declared.result.Result.TheVariants.Ok (found_so_far c.loop-k.reader)) all (seen_opening (g.D.Disk.reads c.args.disk.now) c.loop-k.k c.loop-k.reader c.loop-k.invariant.seen);
      },
      c.loop-k.invariant.count,
    )
