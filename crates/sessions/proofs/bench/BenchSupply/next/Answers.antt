use Rattle.std.proofs.Common.{ap, ◌∙◌}
use Rattle.sessions.proofs.Starts.{found_after}
use Rattle.sessions.proofs.bench.BenchSupply.next.Goals as goal

pub returns-in_default : goal.returns-in_default
returns-in_default c = found_after c.args.lost c.into_disk-disk.result c.lose.new.self _ c.into_disk-disk.ensures c.lose.ensures.after (ap (λ s. s.disk) c.new.ensures)

pub returns : goal.returns
returns c =
    found_after c.args.lost c.into_disk-disk.result c.lose-2.new.self _ c.into_disk-disk.ensures c.lose-2.ensures.after
    (ap (λ s. s.disk) c.new-3.ensures ∙ c.new-2.ensures.is ∙ ap (λ m. record { cells = m }) c.into_cells-cells.ensures)
