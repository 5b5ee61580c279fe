use Rattle.std.proofs.Common.{refl}
use Rattle.boundary.specs.Operators.{applied}
use Rattle.boundary.specs.Refusals.{refusal, refusal_within, after}
use Rattle.boundary.specs.Tables.{run, first_part}
use Rattle.listing.specs.Listing.{listed, lines_from, ring, smallest}
use Rattle.std.specs.Fmt.{digits}
use Rattle.records.specs.Blocks.{parts}
use Rattle.records.specs.Records.{bytes_of, record_of}
use Rattle.cases.proofs.worked_cases.Goals as goal

pub returns : goal.returns
unfolding applied refusal refusal_within after run first_part parts bytes_of record_of listed lines_from ring smallest digits
returns c = (refl, (refl, (refl, (refl, (refl, (refl, (refl, (refl, (refl, (refl, tt))))))))))
