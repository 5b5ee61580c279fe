-- The life of a journal: batches are appended one behind the other, blocks are read, and the power is lost, any number of times.
use Rattle.std.specs.Prelude.{◌≡◌, ℕ, ◌+◌, ◌≤◌, List, [], ◌∷◌, ◌++◌, length, Some, None, Ok, Err, Option}
use Rattle.boundary.specs.declared.Edit.{Edit}
use Rattle.disk.specs.declared.Content.{Content}
use Rattle.disk.specs.declared.DiskFault.{DiskFault}
use Rattle.disk.specs.Calls.{Call, reading, writing, flushing}
use Rattle.disk.specs.Chains.{Chain}
use Rattle.disk.specs.Losses.{AfterLoss, Blank}
use Rattle.standing.specs.Batches.{blocks, InRange}
use Rattle.standing.specs.Standing.{standing, settled}
use Rattle.standing.specs.Plans.{plan, Carried}
use Rattle.standing.specs.Pictures.{Holding}

-- all of the calls are reads
abbrev pub Reads : List Call → Type 0
Reads [] = Unit {0}
Reads (reading k r ∷ cs) = Reads cs
Reads (writing k bs r ∷ cs) = ⊥
Reads (flushing r ∷ cs) = ⊥

-- a batch that can be appended behind bs on a disk of n blocks: 1 to 16 edits, all in range, and room for them and the closing record
pub record Appendable (n : ℕ) (bs : List (List Edit)) (es : List Edit) : Type 0 where
  pub some : 1 ≤ length es
  pub few : length es ≤ 16
  pub in_range : InRange es
  pub room : blocks bs + length es + 1 ≤ n

module _ {S : Type 0} (reads : S → List Content) (may : S → ℕ → Content → Type 0) (did : S → Call → S → Type 0) where
  -- Kept d bs q e: from the blank disk d a journal came to e. The batches bs were appended without a 20, or cut by one and found whole after the loss;
  -- q, if any, is a batch whose append has been cut since the last loss. An append is made only where none has been cut.
  pub data Kept (d : S) : List (List Edit) → Option (List Edit) → S → Type 0 where
    blank : Blank reads may d → Kept d [] None d
    looked : {bs : List (List Edit)} {q : Option (List Edit)} {e z : S} (cs : List Call) → Kept d bs q e → Reads cs → Chain did e cs z → Kept d bs q z
    appended : {bs : List (List Edit)} {e z : S} (es : List Edit) → Kept d bs None e → Appendable (length (reads d)) bs es → Carried did e (plan (length bs + 1) (blocks bs) es) (Ok tt) z → Kept d (bs ++ es ∷ []) None z
    cut : {bs : List (List Edit)} {e z : S} (es : List Edit) (f : DiskFault) → Kept d bs None e → Appendable (length (reads d)) bs es → Carried did e (plan (length bs + 1) (blocks bs) es) (Err f) z → Kept d bs (Some es) z
    lost : {bs : List (List Edit)} {q : Option (List Edit)} {e z : S} → Kept d bs q e → AfterLoss reads may e z → Kept d (settled bs q (reads z)) None z

  -- What such a life leaves: as many blocks, the fact behind the tail, and what stands is the batches kept, where no append has been cut since the last loss.
  pub record Left (d : S) (bs : List (List Edit)) (q : Option (List Edit)) (e : S) : Type 0 where
    pub count : length (reads e) ≡ length (reads d)
    pub holding : Holding reads may bs q e
    pub stands : q ≡ None → standing (reads e) ≡ bs
