use Rattle.std.proofs.Common.{rules}
use Rattle.disk.specs.Settlings.{read_all, May}
use Rattle.disk.proofs.Losses.{blank_under}
use Rattle.disk.specs.SettlingsLemmas.{blank_all}
use Rattle.disk.proofs.Settling.new.Goals as goal

pub returns : goal.returns
returns g c = record { is = search rules; blank = λ n e. blank_under read_all May (λ s. g.C.Cells.held s.cells) _ (blank_all n (g.C.Cells.held c.args.cells) e) }
