use Rattle.std.proofs.Common.{◌-◌}
use Rattle.std.specs.Fmt.{IsPlainFormatter}
use Rattle.boundary.specs.Tables.{next}
use Rattle.listing.proofs.Steps.{Begun, left}
use Rattle.listing.proofs.RingDisplay.fmt.Given as goal

-- of what follows the first half-edge
abbrev pub invariant-loop : goal.invariant-loop
invariant-loop g l =
    IsPlainFormatter l.initial.f →
    Begun g.W.Write.write_str_gives l.initial.f l.f (left (next l.boundary) (384 - l.counter) l.h l.start) (left (next l.boundary) 383 (next l.boundary l.start) l.start)
