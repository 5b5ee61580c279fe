use Rattle.std.proofs.Common.{◌-◌, ◌∷◌, decimal, ap, refl, true}
use Rattle.std.proofs.Output.{has_written_append, has_written_of_eq}
use Rattle.boundary.specs.Tables.{next}
use Rattle.listing.proofs.Steps.{written, finished, left_stop, left_past, left_more, ring_is}
use Rattle.listing.proofs.RingDisplay.fmt.Goals as goal

pub loop-preserved : goal.loop-preserved
loop-preserved g c p =
    let b = c.args.self.now.boundary.now in
    let i = c.loop.invariant p in
    written _ _ _ _ _ i _ (32 ∷ decimal c.loop.h) _
    (left_more (next b) 384 c.loop.counter c.loop.h c.half-h-in-loop.result.next c.args.self.now.start c.loop-test.true c.if-h-start.false (ap (λ e. e.next) c.half-h-in-loop.ensures))
    (c.in_ok-write-2.ensures.writes i.wrote.plain (refl {a = true}))

pub returns-after-loop-clause-writes : goal.returns-after-loop-clause-writes
returns-after-loop-clause-writes g c p t =
    let b = c.args.self.now.boundary.now in
    let k = c.args.self.now.start in
    let first = c.in_ok-write.ensures.writes p (refl {a = true}) in
    let others = finished _ _ _ _ _ (c.loop.invariant first.plain) (left_past (next b) 384 c.loop.counter c.loop.h k c.loop-test.false) in
    has_written_of_eq _ _ _ _ _ (ring_is b k) (has_written_append _ _ _ _ _ _ first others)

pub returns-then-h-start-clause-writes : goal.returns-then-h-start-clause-writes
returns-then-h-start-clause-writes g c p t =
    let b = c.args.self.now.boundary.now in
    let k = c.args.self.now.start in
    let first = c.in_ok-write.ensures.writes p (refl {a = true}) in
    let others = finished _ _ _ _ _ (c.loop.invariant first.plain) (left_stop (next b) (384 - c.loop.counter) c.loop.h k c.if-h-start.true) in
    has_written_of_eq _ _ _ _ _ (ring_is b k) (has_written_append _ _ _ _ _ _ first others)
