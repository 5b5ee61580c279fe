-- The disk calls of reading a journal and of appending a batch, in their order.
use Rattle.std.specs.Prelude.{ℕ, ◌+◌, ◌<◌, List, [], ◌∷◌, ◌++◌, length, take, Ok, Err, Result, slice_index_or}
use Rattle.boundary.specs.declared.Edit.{Edit}
use Rattle.disk.specs.declared.Content.{Content}
use Rattle.disk.specs.declared.DiskFault.{DiskFault}
use Rattle.disk.specs.Calls.{Call, reading, writing, flushing}
use Rattle.disk.specs.Chains.{Chain}
use Rattle.records.specs.declared.Record.{Record}
use Rattle.records.specs.declared.Record.TheVariants.{Change, Closing}
use Rattle.records.specs.Records.{bytes_of}

-- served reads of the blocks k, k + 1, .., which gave the contents cs
abbrev pub served_reads : ℕ → List Content → List Call
served_reads k [] = []
served_reads k (c ∷ cs) = reading k (Ok c) ∷ served_reads (k + 1) cs

-- a step of an append: a record goes into a block, or a flush
pub data Step : Type 0 where
  put : ℕ → Record → Step
  settle : Step

-- the disk call of a step, with its answer
abbrev pub as_call : Step → Result (Unit {0}) DiskFault → Call
as_call (put k r) a = writing k (bytes_of r) a
as_call settle a = flushing a

-- the disk calls of steps that were all served
abbrev pub served : List Step → List Call
served [] = []
served (s ∷ ss) = as_call s (Ok tt) ∷ served ss

-- the edits es of batch n, which starts at block t, from the position p on
abbrev pub puts : ℕ → ℕ → ℕ → List Edit → List Step
puts n t p [] = []
puts n t p (e ∷ es) = put (t + p) (Change n p e) ∷ puts n t (p + 1) es

-- what follows its c edits: a flush, the closing record, a flush
abbrev pub closing_steps : ℕ → ℕ → ℕ → List Step
closing_steps n t c = settle ∷ put (t + c) (Closing n c) ∷ settle ∷ []

-- appending the batch es, numbered n, at block t
abbrev pub plan : ℕ → ℕ → List Edit → List Step
plan n t es = puts n t 0 es ++ closing_steps n t (length es)

-- All steps were served; or those before some step, and that one was refused.
abbrev pub Carried : {S : Type 0} → (S → Call → S → Type 0) → S → List Step → Result (Unit {0}) DiskFault → S → Type 0
Carried did d ss (Ok u) e = Chain did d (served ss) e
Carried did d ss (Err f) e = (i : ℕ) × (i < length ss) × Chain did d (served (take i ss) ++ as_call (slice_index_or ss i settle) (Err f) ∷ []) e
