-- Blocks of small journals, and what stands in them.
--     Worked  what they come to
use Rattle.std.specs.Prelude.{◌≡◌, ℕ, [], ◌∷◌, pos, slice_set}
use Rattle.boundary.specs.declared.Edit.{Edit}
use Rattle.boundary.specs.declared.Edit.TheVariants.{Mvfs}
use Rattle.disk.specs.declared.Content.{Content}
use Rattle.disk.specs.declared.Content.TheVariants.{Bytes, Unreadable}
use Rattle.disk.specs.Contents.{zeros}
use Rattle.records.specs.declared.Record.TheVariants.{Change, Closing}
use Rattle.records.specs.Records.{bytes_of}
use Rattle.standing.specs.Standing.{standing, tail}

-- mvfs 0 0 0 0 at the point (0, 0, 0)
abbrev pub an_edit : Edit
an_edit = Mvfs (pos 0) (pos 0) (pos 0) (pos 0) (record { x = pos 0; y = pos 0; z = pos 0 })

-- the block of this edit as the first of batch n
abbrev pub first_of : ℕ → Content
first_of n = Bytes (bytes_of (Change n 0 an_edit))

-- the block that closes batch n, which has one edit
abbrev pub end_of : ℕ → Content
end_of n = Bytes (bytes_of (Closing n 1))

pub record Worked : Type 0 where
  -- an edit whose batch is not closed
  pub not_closed : standing (first_of 1 ∷ Unreadable ∷ []) ≡ []
  -- a whole batch, and blank blocks behind it
  pub one : standing (first_of 1 ∷ end_of 1 ∷ zeros ∷ zeros ∷ []) ≡ (an_edit ∷ []) ∷ []
  pub one_tail : tail (first_of 1 ∷ end_of 1 ∷ zeros ∷ zeros ∷ []) ≡ 2
  -- the closing record of another batch
  pub other_number : standing (first_of 1 ∷ end_of 2 ∷ zeros ∷ zeros ∷ []) ≡ []
  -- a byte that a closing record does not use
  pub unused_byte : standing (first_of 1 ∷ Bytes (slice_set (bytes_of (Closing 1 1)) 31 1) ∷ zeros ∷ zeros ∷ []) ≡ []
  -- a second batch, with the next number and with another
  pub two : standing (first_of 1 ∷ end_of 1 ∷ first_of 2 ∷ end_of 2 ∷ []) ≡ (an_edit ∷ []) ∷ (an_edit ∷ []) ∷ []
  pub two_tail : tail (first_of 1 ∷ end_of 1 ∷ first_of 2 ∷ end_of 2 ∷ []) ≡ 4
  pub number_left_out : standing (first_of 1 ∷ end_of 1 ∷ first_of 3 ∷ end_of 3 ∷ []) ≡ (an_edit ∷ []) ∷ []
  pub left_out_tail : tail (first_of 1 ∷ end_of 1 ∷ first_of 3 ∷ end_of 3 ∷ []) ≡ 2
