use Rattle.std.proofs.Common.{subst}
use Rattle.disk.specs.Settlings.{Went, read_all}
use Rattle.journal.specs.Readings.{Looked}
use Rattle.cuts.proofs.Maps.{looked_map}
use Rattle.cuts.proofs.Views.{own_cells, DidPlain}
use Rattle.cuts.proofs.survived.Goals as goal

pub returns : goal.returns
returns c = record {
  before = c.appended-disk.result.cells;
  after = c.read.new.disk.cells;
  appended = c.appended-disk.ensures;
  looked = subst (λ cs. Looked read_all Went cs c.read.result.0.boundary c.read.result.1 c.read.new.disk.cells) c.lose.ensures.is (looked_map own_cells DidPlain Went (λ d c e x. x) read_all c.lose.new.self c.read.result.0.boundary c.read.result.1 c.read.new.disk c.read.ensures.is);
}
