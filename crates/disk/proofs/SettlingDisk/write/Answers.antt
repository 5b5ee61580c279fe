use Rattle.std.proofs.Common.{sym, ap, ◌∙◌, set}
use Rattle.std.proofs.lemmas.Result.{err_from_is_err_and}
use Rattle.disk.specs.SettlingsLemmas.{write_refused, write_served}
use Rattle.disk.proofs.SettlingDisk.write.Goals as goal

pub returns-in_err-cell : goal.returns-in_err-cell
returns-in_err-cell g c =
    let p = err_from_is_err_and c.from_residual.result c.from_residual.ensures.1 in
    rw (p.1, p.2) (write_refused (g.C.Cells.held c.args.self.now.cells) c.args.block c.args.bytes c.at.result _ (sym c.ok_or.ensures.value ∙ c.in_err-cell.was) c.at.ensures)

pub returns : goal.returns
returns g c =
    let w = write_served (g.C.Cells.held c.args.self.now.cells) c.args.block c.args.bytes c.at.result _ c.in_ok-cell.cell (sym c.ok_or.ensures.value ∙ c.in_ok-cell.was) c.at.ensures in
    (w.0, c.put.ensures ∙ ap (set (g.C.Cells.held c.args.self.now.cells) c.args.block) c.after_write.ensures ∙ w.1)
