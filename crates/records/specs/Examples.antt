-- Blocks written out: some records with their bytes, and blocks that are no record.
--     Worked  what they come to
use Rattle.std.specs.Prelude.{◌≡◌, ℕ, List, [], ◌∷◌, pos, negsuc, Some, None, slice_set}
use Rattle.boundary.specs.declared.Edit.TheVariants.{Mev}
use Rattle.records.specs.declared.Record.{Record}
use Rattle.records.specs.declared.Record.TheVariants.{Change, Closing}
use Rattle.records.specs.Records.{bytes_of, record_of}

-- the fourth edit of batch 258: mev at the place 513, edge 5, vertex 127, to the point (-1, 256, 8388607)
abbrev pub an_edit : Record
an_edit = Change 258 3 (Mev (pos 513) (pos 5) (pos 127) (record { x = negsuc 0; y = pos 256; z = pos 8388607 }))

abbrev pub its_bytes : List ℕ
its_bytes =
    3 ∷ 0 ∷ 2 ∷ 1 ∷ 0 ∷ 0 ∷ 3 ∷ 0
    ∷ 1 ∷ 2 ∷ 5 ∷ 0 ∷ 127 ∷ 0 ∷ 0 ∷ 0 ∷ 0 ∷ 0 ∷ 0 ∷ 0
    ∷ 255 ∷ 255 ∷ 255 ∷ 255 ∷ 0 ∷ 1 ∷ 0 ∷ 0 ∷ 255 ∷ 255 ∷ 127 ∷ 0 ∷ []

-- the end of batch 258, which has 16 edits
abbrev pub closing_bytes : List ℕ
closing_bytes =
    100 ∷ 0 ∷ 2 ∷ 1 ∷ 0 ∷ 0 ∷ 16 ∷ 0
    ∷ 0 ∷ 0 ∷ 0 ∷ 0 ∷ 0 ∷ 0 ∷ 0 ∷ 0 ∷ 0 ∷ 0 ∷ 0 ∷ 0
    ∷ 0 ∷ 0 ∷ 0 ∷ 0 ∷ 0 ∷ 0 ∷ 0 ∷ 0 ∷ 0 ∷ 0 ∷ 0 ∷ 0 ∷ []

pub record Worked : Type 0 where
  pub edit_written : bytes_of an_edit ≡ its_bytes
  pub edit_read : record_of its_bytes ≡ Some an_edit
  pub closing_written : bytes_of (Closing 258 16) ≡ closing_bytes
  pub closing_read : record_of closing_bytes ≡ Some (Closing 258 16)
  -- another kind
  pub kind_0 : record_of (slice_set its_bytes 0 0) ≡ None
  pub kind_11 : record_of (slice_set its_bytes 0 11) ≡ None
  -- a kind that uses no coordinates
  pub kind_8 : record_of (slice_set its_bytes 0 8) ≡ None
  -- bytes that are zero in every record
  pub byte_1 : record_of (slice_set its_bytes 1 1) ≡ None
  pub byte_18 : record_of (slice_set its_bytes 18 1) ≡ None
  pub byte_19 : record_of (slice_set its_bytes 19 1) ≡ None
  -- a field that mev does not use
  pub field_d : record_of (slice_set its_bytes 15 1) ≡ None
  -- the batch number 0
  pub number_0 : record_of (slice_set (slice_set its_bytes 2 0) 3 0) ≡ None
  -- positions out of range
  pub position_16 : record_of (slice_set its_bytes 6 16) ≡ None
  pub count_0 : record_of (slice_set closing_bytes 6 0) ≡ None
  pub count_17 : record_of (slice_set closing_bytes 6 17) ≡ None
  -- a closing record uses no field and no coordinate
  pub closing_field : record_of (slice_set closing_bytes 8 1) ≡ None
  pub closing_coordinate : record_of (slice_set closing_bytes 31 1) ≡ None
