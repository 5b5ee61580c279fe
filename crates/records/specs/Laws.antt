-- What encoding and decoding are to each other.
--     Fit r          the record r is one that the journal writes
--     IsBlock bs     the list bs is 32 bytes
--     IsRecord bs r  the block bs is the record r, and numbered as a record is
--     RecordsStand  the laws
use Rattle.std.specs.Prelude.{◌≡◌, ℕ, ◌^◌, ◌<◌, ◌≤◌, true, List, length, Some, slice_index}
use Rattle.boundary.specs.Refusals.{in_range}
use Rattle.records.specs.declared.Block.{Block}
use Rattle.records.specs.declared.Record.{Record}
use Rattle.records.specs.declared.Record.TheVariants.{Change, Closing}
use Rattle.records.specs.Blocks.{parts}
use Rattle.records.specs.Records.{bytes_of, meaning, record_of}

-- batches are numbered from 1, positions of edits go from 0 to 15 and counts of edits from 1 to 16
abbrev pub Numbered : Record → Type 0
Numbered (Change n p e) = (1 ≤ n) × (p < 16)
Numbered (Closing n c) = (1 ≤ n) × (1 ≤ c) × (c ≤ 16)

-- the number is within 32 bits, and an edit is in range
abbrev pub Fit : Record → Type 0
Fit (Change n p e) = Numbered (Change n p e) × (n < 2 ^ 32) × (in_range e ≡ true)
Fit (Closing n c) = Numbered (Closing n c) × (n < 2 ^ 32)

pub record IsBlock (bs : List ℕ) : Type 0 where
  pub long : length bs ≡ 32
  pub bytes : (k : ℕ) → slice_index bs k < 256

-- what is known of the record r that the block bs is
pub record IsRecord (bs : List ℕ) (r : Record) : Type 0 where
  pub same : bs ≡ bytes_of r
  pub numbered : Numbered r

-- the parts b of the block bs, and what they mean
pub record Parted (bs : List ℕ) (b : Block) : Type 0 where
  pub is : b ≡ parts bs
  pub means : record_of bs ≡ meaning b
  pub back : (r : Record) → record_of bs ≡ Some r → IsRecord bs r

pub record RecordsStand : Type 0 where
  -- a record that is written is read back
  pub round : (r : Record) → Fit r → record_of (bytes_of r) ≡ Some r
  -- a block that is a record is the encoding of that record
  pub exact : (bs : List ℕ) (r : Record) → IsBlock bs → record_of bs ≡ Some r → bs ≡ bytes_of r
  -- no two blocks are one record
  pub one_block : (bs cs : List ℕ) (r : Record) → IsBlock bs → IsBlock cs → record_of bs ≡ Some r → record_of cs ≡ Some r → bs ≡ cs
  -- what is read is numbered as a record is
  pub numbered : (bs : List ℕ) (r : Record) → record_of bs ≡ Some r → Numbered r
  -- what is written is a block
  pub whole : (r : Record) → IsBlock (bytes_of r)
