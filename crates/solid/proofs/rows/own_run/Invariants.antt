use Rattle.solid.proofs.Runs.{Owning}
use Rattle.solid.proofs.rows.own_run.Given as goal

abbrev pub invariant-loop : goal.invariant-loop
invariant-loop l = Owning l.initial.edges l.edges l.from l.to l.l l.counter l.h
