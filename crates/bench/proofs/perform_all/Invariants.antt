use Rattle.std.proofs.Common.{◌≡◌, length, take}
use Rattle.disk.specs.Chains.{Chain}
use Rattle.bench.specs.Steps.{calls_of}
use Rattle.bench.proofs.perform_all.Given as goal

abbrev pub invariant-loop-i : goal.invariant-loop-i
invariant-loop-i g l = Chain g.D.Disk.did l.initial.disk (calls_of (take l.i l.acts) l.answers) l.disk × (length l.acts ≡ length l.answers)
