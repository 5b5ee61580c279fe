-- What reading a journal finds: the solid that its whole batches build, their count and the tail; or the edit that is refused.
use Rattle.std.specs.Prelude.{ℕ, ◌+◌, List, [], ◌∷◌, map, length, Some, None, Ok, Err, Option, Result}
use Rattle.boundary.specs.declared.Boundary.{Boundary}
use Rattle.boundary.specs.declared.Edit.{Edit}
use Rattle.boundary.specs.Operators.{empty}
use Rattle.boundary.specs.Refusals.{refusal, after}
use Rattle.disk.specs.declared.Content.{Content}
use Rattle.faults.specs.declared.SolidFault.{SolidFault}
use Rattle.faults.specs.declared.SolidFault.TheVariants.{Refused}
use Rattle.faults.specs.declared.JournalFault.{JournalFault}
use Rattle.faults.specs.declared.JournalFault.TheVariants.{Unfit}
use Rattle.records.specs.declared.Record.{Record}
use Rattle.standing.specs.Standing.{record_in, scan}

-- the solid after the edits es, or the first that is refused, with its position, counted from i
abbrev pub applied_all : Boundary → ℕ → List Edit → Result Boundary SolidFault
applied_all b i [] = Ok b
applied_all b i (e ∷ es) = elim (refusal b e) [ None ↦ applied_all (after b e) (i + 1) es | Some why ↦ Err (Refused why i) ]

pub record Found : Type 0 where
  pub boundary : Boundary
  pub batches : ℕ
  pub tail : ℕ

-- the position of an edit that was refused
abbrev pub position_of : SolidFault → ℕ
position_of f = (Rattle.faults.specs.Told.solid_told f).place

-- what is found where the batches bs follow, from block t on, n batches that built b; the place of a refused edit is its block
abbrev pub outcome : ℕ → ℕ → Boundary → List (List Edit) → Result Found JournalFault
outcome t n b [] = Ok (record { boundary = b; batches = n; tail = t })
outcome t n b (es ∷ bs) = elim (applied_all b 0 es) [ Ok b' ↦ outcome (t + length es + 1) (n + 1) b' bs | Err fault ↦ Err (Unfit (t + position_of fault) fault) ]

-- what is found in blocks with these records
abbrev pub found : List (Option Record) → Result Found JournalFault
found rs = outcome 0 0 empty (scan 1 [] rs)

-- what is found in blocks with these contents
abbrev pub opening : List Content → Result Found JournalFault
opening cs = found (map record_in cs)
