-- What a reading and an append are to the life of a journal that began on a blank disk.
use Rattle.std.specs.Prelude.{◌≡◌, ℕ, List, [], ◌∷◌, ◌++◌, length, Some, None, Ok, Err, Option, Result}
use Rattle.boundary.specs.declared.Boundary.{Boundary}
use Rattle.boundary.specs.declared.Edit.{Edit}
use Rattle.boundary.specs.Operators.{empty}
use Rattle.disk.specs.declared.Content.{Content}
use Rattle.disk.specs.Calls.{Call}
use Rattle.faults.specs.declared.JournalFault.{JournalFault}
use Rattle.faults.specs.declared.JournalFault.TheVariants.{Disk, NoEdits, Full, BadSize, Unfit}
use Rattle.standing.specs.Batches.{blocks}
use Rattle.standing.specs.Openings.{outcome}
use Rattle.standing.specs.Journals.{Kept}
use Rattle.journal.specs.declared.Extent.{Extent}

-- the extent of the batches bs on a disk of n blocks
pub record ExtentOf (n : ℕ) (bs : List (List Edit)) (x : Extent) : Type 0 where
  pub count : x.count ≡ n
  pub batches : x.batches ≡ length bs
  pub tail : x.tail ≡ blocks bs

module _ {S : Type 0} (reads : S → List Content) (may : S → ℕ → Content → Type 0) (did : S → Call → S → Type 0) where
  -- A reading goes on with the life. Where no append has been cut since the last loss and no read is, it answers the extent of the batches kept and the solid that they build.
  pub record ReadsOn (d : S) (bs : List (List Edit)) (q : Option (List Edit)) (b : Boundary) (r : Result Extent JournalFault) (z : S) : Type 0 where
    pub goes_on : Kept reads may did d bs q z
    pub shows : q ≡ None → (x : Extent) → r ≡ Ok x → ExtentOf (length (reads d)) bs x × (outcome 0 0 empty bs ≡ Ok (record { boundary = b; batches = length bs; tail = blocks bs }))

  -- An append of es goes on with it: the batch is kept and the extent is behind it; or a call was refused, and it is in doubt until the power is lost; or no call was made.
  abbrev pub AppendsOn : S → List (List Edit) → List Edit → Result Extent JournalFault → S → Type 0
  AppendsOn d bs es (Ok x) z = Kept reads may did d (bs ++ es ∷ []) None z × ExtentOf (length (reads d)) (bs ++ es ∷ []) x
  AppendsOn d bs es (Err (Disk f)) z = Kept reads may did d bs (Some es) z
  AppendsOn d bs es (Err (NoEdits t)) z = Kept reads may did d bs None z
  AppendsOn d bs es (Err (Full t)) z = Kept reads may did d bs None z
  AppendsOn d bs es (Err (BadSize n)) z = ⊥
  AppendsOn d bs es (Err (Unfit k f)) z = ⊥
