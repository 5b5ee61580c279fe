-- The steps made so far are a run, with a ledger that agrees with the phase; no call is changed.
use Rattle.std.proofs.Common.{◌≡◌, ◌≤◌, map, length, take}
use Rattle.disk.specs.Losses.{Blank}
use Rattle.runs.specs.Laws.{call_of}
use Rattle.runs.specs.Steps.{disk_of}
use Rattle.runs.proofs.Agreements.{Going}
use Rattle.runs.proofs.run.Given as goal

abbrev pub invariant-loop-step : goal.invariant-loop-step
invariant-loop-step g l = record {
  calls : map call_of l.steps ≡ map call_of l.initial.steps;
  law : Blank g.S.Make.Disk.reads g.S.Make.Disk.may (disk_of l.initial.phase)
      → (lo : 2 ≤ length (g.S.Make.Disk.reads (disk_of l.initial.phase))) → (hi : length (g.S.Make.Disk.reads (disk_of l.initial.phase)) ≤ 1000)
      → Going g.S.Make.Disk.reads g.S.Make.Disk.may g.S.Make.Disk.gone g.S.Make.Disk.did g.met.S.Make.Disk.stands g.met.S.Make.Disk.keeps (disk_of l.initial.phase) lo hi (take l.step-index l.steps) l.phase;
}
