use Rattle.std.proofs.Common.{Ok, Err, rules}
use Rattle.journal.specs.Readings.{Looked}
use Rattle.journal.proofs.Lives.{reads_on}
use Rattle.journal.proofs.read.Goals as goal

pub returns-in-Ok : goal.returns-in-Ok
returns-in-Ok g c =
    let h : Looked g.D.Disk.reads g.D.Disk.did c.args.disk.now c.in-Ok.reader.solid.boundary (Ok c.in-Ok.reader.extent) c.read_blocks.new.disk = search rules in
    record { is = h; life = λ d bs q small k. reads_on g.D.Disk.reads g.D.Disk.may g.D.Disk.gone g.D.Disk.did g.met.D.Disk.stands g.met.D.Disk.keeps d small c.in-Ok.reader.solid.boundary (Ok c.in-Ok.reader.extent) c.read_blocks.new.disk h bs q k }

pub returns-in-Err : goal.returns-in-Err
returns-in-Err g c =
    let h : Looked g.D.Disk.reads g.D.Disk.did c.args.disk.now c.empty.result.boundary (Err c.in-Err.fault) c.read_blocks.new.disk = search rules in
    record { is = h; life = λ d bs q small k. reads_on g.D.Disk.reads g.D.Disk.may g.D.Disk.gone g.D.Disk.did g.met.D.Disk.stands g.met.D.Disk.keeps d small c.empty.result.boundary (Err c.in-Err.fault) c.read_blocks.new.disk h bs q k }
