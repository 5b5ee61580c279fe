use Rattle.std.proofs.Common.{false, sym, subst, rules}
use Rattle.disk.specs.Settlings.{blank_cells, no_cell}
use Rattle.cuts.specs.Cuts.{Appended}
use Rattle.cuts.proofs.waiting.Goals as goal

pub returns : goal.returns
returns c = record {
  cells = c.into_cells.result;
  appended = subst (Appended (blank_cells 8) c.args.stop) (sym c.into_cells.ensures) c.appended.ensures;
  marks = λ i lt. let m = c.map.ensures.items.at i no_cell false lt in search rules;
}
