-- The edits of a batch that is not whole yet, at most sixteen.
use Rattle.std.specs.Prelude.{ℕ, cond, List, [], ◌∷◌, ◌++◌, length, take, Ok, Err, Result, nat_lt}
use Rattle.boundary.specs.declared.Edit.{Edit}
use Rattle.faults.specs.declared.SolidFault.{SolidFault}
use Rattle.faults.specs.declared.SolidFault.TheVariants.{TooMany}
use Rattle.journal.specs.declared.draft.Draft.{Draft}

-- the edits, in order
abbrev pub drafted : Draft → List Edit
drafted d = take d.len d.edits

-- what one edit more is answered: its position, or that there are sixteen
abbrev pub push_answer : List Edit → Result ℕ SolidFault
push_answer es = cond (nat_lt (length es) 16) (Ok (length es)) (Err TooMany)

-- the edits then
abbrev pub with_edit : List Edit → Edit → List Edit
with_edit es e = cond (nat_lt (length es) 16) (es ++ e ∷ []) es
