use Rattle.std.proofs.Common.{take}
use Rattle.disk.specs.Chains.{Chain}
use Rattle.standing.specs.Plans.{served, puts}
use Rattle.journal.proofs.write_batch.Given as goal

abbrev pub invariant-loop-i : goal.invariant-loop-i
invariant-loop-i g l = Chain g.D.Disk.did l.initial.disk (served (puts l.number l.tail 0 (take l.i l.edits))) l.disk
