-- The blocks of small journals come to what is said of them, by computing.
use Rattle.std.proofs.Common.{refl}
use Rattle.records.specs.Blocks.{parts}
use Rattle.records.specs.Records.{bytes_of, record_of}
use Rattle.standing.specs.Examples.{Worked}

pub worked : Worked
unfolding bytes_of record_of parts
worked = record {
  not_closed = refl;
  one = refl;
  one_tail = refl;
  other_number = refl;
  unused_byte = refl;
  two = refl;
  two_tail = refl;
  number_left_out = refl;
  left_out_tail = refl;
}
