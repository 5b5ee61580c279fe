-- The blocks written out come to what is said of them, by computing.
use Rattle.std.proofs.Common.{refl}
use Rattle.records.specs.Blocks.{parts}
use Rattle.records.specs.Examples.{Worked}
use Rattle.records.specs.Records.{bytes_of, record_of}

pub worked : Worked
unfolding bytes_of record_of parts
worked = record {
  edit_written = refl;
  edit_read = refl;
  closing_written = refl;
  closing_read = refl;
  kind_0 = refl;
  kind_11 = refl;
  kind_8 = refl;
  byte_1 = refl;
  byte_18 = refl;
  byte_19 = refl;
  field_d = refl;
  number_0 = refl;
  position_16 = refl;
  count_0 = refl;
  count_17 = refl;
  closing_field = refl;
  closing_coordinate = refl;
}
