-- Lists of edits from the empty boundary on.
--     after_all b es       the boundary after the edits es, of which each refused one changes nothing
--     new_handles b e      1 where b accepts e and e is a kfmrh with both faces in one shell, else 0
--     handles_made b es    how many edits of the list make a handle so
--     StaysSound           every list of edits leaves a sound boundary, whose handles are those that the list made
use Rattle.std.specs.Prelude.{◌≡◌, ℕ, ◌+◌, cond, List, [], ◌∷◌, Some, None, Option, ◌==◌}
use Rattle.boundary.specs.declared.Boundary.{Boundary}
use Rattle.boundary.specs.declared.Edit.{Edit}
use Rattle.boundary.specs.declared.Edit.TheVariants.{Mvfs, Kvfs, Mev, Kev, Mef, Kef, Kemr, Mekr, Kfmrh, Move}
use Rattle.boundary.specs.declared.Refusal.{Refusal}
use Rattle.boundary.specs.Operators.{empty, named}
use Rattle.boundary.specs.Refusals.{refusal, after}
use Rattle.boundary.specs.Tables.{face_shell}
use Rattle.rules.specs.Rules.{Sound}

abbrev pub after_all : Boundary → List Edit → Boundary
after_all b [] = b
after_all b (e ∷ es) = after_all (after b e) es

-- the handles that an edit makes where it is accepted
abbrev pub handles_of : Boundary → Edit → ℕ
handles_of b (Mvfs a f l v p) = 0
handles_of b (Kvfs a) = 0
handles_of b (Mev a k v p) = 0
handles_of b (Kev h) = 0
handles_of b (Mef h j k f l) = 0
handles_of b (Kef h) = 0
handles_of b (Kemr h l) = 0
handles_of b (Mekr a c k) = 0
handles_of b (Kfmrh f g) = cond (face_shell b (named f) == face_shell b (named g)) 1 0
handles_of b (Move v p) = 0

abbrev pub unless_refused : Option Refusal → ℕ → ℕ
unless_refused None n = n
unless_refused (Some why) n = 0

abbrev pub new_handles : Boundary → Edit → ℕ
new_handles b e = unless_refused (refusal b e) (handles_of b e)

abbrev pub handles_made : Boundary → List Edit → ℕ
handles_made b [] = 0
handles_made b (e ∷ es) = new_handles b e + handles_made (after b e) es

pub record StaysSound (es : List Edit) : Type 0 where
  pub sound : Sound (after_all empty es)
  pub handles : (after_all empty es).handles ≡ handles_made empty es
