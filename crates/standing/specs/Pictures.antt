-- What the blocks of a disk hold while batches are kept on it. `reads d` says what each block reads, `may d k c` that the content c may stand in block k after the power is lost.
use Rattle.std.specs.Prelude.{◌≡◌, ℕ, ◌+◌, ◌<◌, ◌≤◌, ◌⊎◌, List, length, Some, None, Option, slice_index_or}
use Rattle.boundary.specs.declared.Edit.{Edit}
use Rattle.disk.specs.declared.Content.{Content}
use Rattle.records.specs.declared.Record.{Record}
use Rattle.records.specs.declared.Record.TheVariants.{Change, Closing}
use Rattle.standing.specs.Batches.{changes, laid, blocks}
use Rattle.standing.specs.Standing.{record_in}

-- what is said of a record past the end
abbrev pub no_record : Record
no_record = Closing 0 0

-- the record, if any, is no closing record of a batch above b
abbrev pub Old : ℕ → Option Record → Type 0
Old b None = Unit {0}
Old b (Some (Change n p e)) = Unit {0}
Old b (Some (Closing n c)) = n ≤ b

module _ {S : Type 0} (reads : S → List Content) (may : S → ℕ → Content → Type 0) where
  -- in the blocks from t on stand these records, and nothing else may
  abbrev pub Settled : S → ℕ → List Record → Type 0
  Settled d t rs = (k : ℕ) → k < length rs → (c : Content) → may d (t + k) c → record_in c ≡ Some (slice_index_or rs k no_record)

  -- The fact behind the tail: in no block from t on does a closing record of a batch above b stand, nor may one. So none that is left there can make a batch whole.
  abbrev pub NoneLater : ℕ → ℕ → S → Type 0
  NoneLater b t d = (k : ℕ) → t ≤ k → k < length (reads d) → (c : Content) → may d k c → Old b (record_in c)

  -- the batches bs stand from block 0 on, settled, and the fact holds behind them
  pub record Holds (bs : List (List Edit)) (d : S) : Type 0 where
    pub room : blocks bs ≤ length (reads d)
    pub stand : Settled d 0 (laid 1 bs)
    pub behind : NoneLater (length bs) (blocks bs) d

  -- the closing record of a last batch es stands in its place, and the edits of es are settled before it
  pub record Last (bs : List (List Edit)) (es : List Edit) (d : S) (k : ℕ) (c : Content) : Type 0 where
    pub place : k ≡ blocks bs + length es
    pub is : record_in c ≡ Some (Closing (length bs + 1) (length es))
    pub edits : Settled d (blocks bs) (changes (length bs + 1) 0 es)

  -- the batches bs stand, and the fact holds behind them save for the closing record of a last batch es, which may stand in its place once its edits are settled
  pub record HoldsOrLast (bs : List (List Edit)) (es : List Edit) (d : S) : Type 0 where
    pub room : blocks bs + length es + 1 ≤ length (reads d)
    pub stand : Settled d 0 (laid 1 bs)
    pub behind : (k : ℕ) → blocks bs ≤ k → k < length (reads d) → (c : Content) → may d k c → Old (length bs) (record_in c) ⊎ Last bs es d k c

  -- the same where the append of a batch q, if any, has been cut
  abbrev pub Holding : List (List Edit) → Option (List Edit) → S → Type 0
  Holding bs None d = Holds bs d
  Holding bs (Some es) d = HoldsOrLast bs es d
