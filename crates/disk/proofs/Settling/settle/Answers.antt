use Rattle.std.proofs.Common.{rules, ◌∙◌}
use Rattle.disk.specs.Settlings.{settle_cell}
use Rattle.disk.specs.SettlingsLemmas.{changed_all}
use Rattle.disk.proofs.Settling.settle.Goals as goal

pub returns : goal.returns
returns g c = c.change_all.ensures (λ _. settle_cell) (λ k a r h. search rules) ∙ changed_all settle_cell 0 (g.C.Cells.held c.args.self.now.cells)
