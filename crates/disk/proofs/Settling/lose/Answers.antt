use Rattle.std.proofs.Common.{rules}
use Rattle.std.specs.Prelude.{slice_index}
use Rattle.disk.specs.Settlings.{lost_cell, read_all, May}
use Rattle.disk.proofs.Losses.{after_under}
use Rattle.disk.specs.SettlingsLemmas.{lost_after}
use Rattle.disk.proofs.Settling.lose.Goals as goal

pub returns-clause-after : goal.returns-clause-after
returns-clause-after g c =
    let is = c.change_all.ensures (λ k. lost_cell (slice_index c.args.letters.now k)) (λ k a r h. search rules) in
    after_under read_all May (λ s. g.C.Cells.held s.cells) c.args.self.now c.change_all.new.self (lost_after c.args.letters.now (g.C.Cells.held c.args.self.now.cells) (g.C.Cells.held c.change_all.new.self.cells) is)
