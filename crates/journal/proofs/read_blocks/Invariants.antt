use Rattle.std.proofs.Common.{◌≡◌, length, take}
use Rattle.disk.specs.Chains.{Chain}
use Rattle.standing.specs.Plans.{served_reads}
use Rattle.journal.specs.Readings.{Within}
use Rattle.journal.proofs.Reading.{Seen}
use Rattle.journal.proofs.read_blocks.Given as goal

abbrev pub invariant-loop-k : goal.invariant-loop-k
invariant-loop-k g l = record {
  calls : Chain g.D.Disk.did l.initial.disk (served_reads 0 (take l.k (g.D.Disk.reads l.initial.disk))) l.disk;
  same : g.D.Disk.reads l.disk ≡ g.D.Disk.reads l.initial.disk;
  seen : Seen (g.D.Disk.reads l.initial.disk) l.k l.reader;
  count : l.reader.extent.count ≡ length (g.D.Disk.reads l.initial.disk);
  bounds : Within l.reader l.k;
}
