use Rattle.records.proofs.Laws.{parted_by}
use Rattle.records.proofs.Block.read.Goals as goal

pub returns : goal.returns
returns c = parted_by c.args.bytes.now (record { long = c.told-bytes; bytes = c.fits-bytes }) c.four_at.ensures c.two_at.ensures c.fields_at.ensures c.two_at-2.ensures c.point_at.ensures
