-- What stands in a journal: the whole batches from the first block on.
use Rattle.std.specs.Prelude.{◌≡◌, ℕ, ◌+◌, Bool, false, cond, ◌&&◌, List, [], ◌∷◌, ◌++◌, map, length, Some, None, Option, ◌==◌, nat_lt, slice_index_or}
use Rattle.boundary.specs.declared.Edit.{Edit}
use Rattle.disk.specs.declared.Content.{Content}
use Rattle.disk.specs.declared.Content.TheVariants.{Bytes, Unreadable}
use Rattle.records.specs.declared.Record.{Record}
use Rattle.records.specs.declared.Record.TheVariants.{Change, Closing}
use Rattle.records.specs.Records.{record_of}
use Rattle.standing.specs.Batches.{laid, blocks, Sized}

-- the record that a content is, if it is one; what is unreadable is none
abbrev pub record_in : Content → Option Record
record_in (Bytes bs) = record_of bs
record_in Unreadable = None

-- The whole batches in the records rs, where batch n began before them with the edits es. An edit numbered n whose position is the count of edits so far goes on with the batch;
-- a closing record numbered n whose count is that makes it whole; anything else ends the search.
abbrev pub scan : ℕ → List Edit → List (Option Record) → List (List Edit)
scan n es [] = []
scan n es (None ∷ rs) = []
scan n es (Some (Change m p e) ∷ rs) = cond (m == n && (p == length es && nat_lt (length es) 16)) (scan n (es ++ e ∷ []) rs) []
scan n es (Some (Closing m c) ∷ rs) = cond (m == n && (c == length es && nat_lt 0 (length es))) (es ∷ scan (n + 1) [] rs) []

-- the whole batches that stand in the contents cs of the blocks; batch 1 starts at block 0
abbrev pub standing : List Content → List (List Edit)
standing cs = scan 1 [] (map record_in cs)

-- the first block that starts no whole batch
abbrev pub tail : List Content → ℕ
tail cs = blocks (standing cs)

-- the blocks begin with the records of the batches bs, numbered from 1
pub record Begins (bs : List (List Edit)) (cs : List Content) : Type 0 where
  pub rest : List (Option Record)
  pub is : map record_in cs ≡ map Some (laid 1 bs) ++ rest

-- What stands is the longest list of batches, of 1 to 16 edits each, with whose records the blocks begin: they do, and any such list is a front of it.
pub record Longest (cs : List Content) : Type 0 where
  pub sized : Sized (standing cs)
  pub begins : Begins (standing cs) cs
  pub front : (bs : List (List Edit)) → Sized bs → Begins bs cs → (more : List (List Edit)) × (standing cs ≡ bs ++ more)

-- whether a record is the closing record of batch n with count c
abbrev pub closes : Option Record → ℕ → ℕ → Bool
closes None n c = false
closes (Some (Change m p e)) n c = false
closes (Some (Closing m k)) n c = m == n && k == c

-- the batches after a loss that left the contents cs, where bs stood before and the append of the batch q, if any, had been cut: it stands exactly where its last block reads as its closing record
abbrev pub settled : List (List Edit) → Option (List Edit) → List Content → List (List Edit)
settled bs None cs = bs
settled bs (Some es) cs = cond (closes (record_in (slice_index_or cs (blocks bs + length es) Unreadable)) (length bs + 1) (length es)) (bs ++ es ∷ []) bs
