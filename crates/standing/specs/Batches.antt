-- Batches of edits, the records that they are written as, and the blocks that they take.
use Rattle.std.specs.Prelude.{◌≡◌, ℕ, ◌+◌, ◌≤◌, true, List, [], ◌∷◌, ◌++◌, length, None}
use Rattle.boundary.specs.declared.Boundary.{Boundary}
use Rattle.boundary.specs.declared.Edit.{Edit}
use Rattle.boundary.specs.Refusals.{in_range, refusal, after}
use Rattle.records.specs.declared.Record.{Record}
use Rattle.records.specs.declared.Record.TheVariants.{Change, Closing}

-- the records of the edits es of batch n, from the position p on
abbrev pub changes : ℕ → ℕ → List Edit → List Record
changes n p [] = []
changes n p (e ∷ es) = Change n p e ∷ changes n (p + 1) es

-- the records of the batches bs, the first numbered n: the edits of each, and then its closing record
abbrev pub laid : ℕ → List (List Edit) → List Record
laid n [] = []
laid n (es ∷ bs) = changes n 0 es ++ Closing n (length es) ∷ laid (n + 1) bs

-- the blocks that they take: one an edit, and a last one
abbrev pub blocks : List (List Edit) → ℕ
blocks [] = 0
blocks (es ∷ bs) = length es + 1 + blocks bs

-- the edits of all batches, in order
abbrev pub all_edits : List (List Edit) → List Edit
all_edits [] = []
all_edits (es ∷ bs) = es ++ all_edits bs

-- each batch has 1 to 16 edits
abbrev pub Sized : List (List Edit) → Type 0
Sized [] = Unit {0}
Sized (es ∷ bs) = (1 ≤ length es) × (length es ≤ 16) × Sized bs

-- every number of every edit is in its range
abbrev pub InRange : List Edit → Type 0
InRange [] = Unit {0}
InRange (e ∷ es) = (in_range e ≡ true) × InRange es

-- no edit is refused in its turn, from the boundary b on
abbrev pub Accepted : Boundary → List Edit → Type 0
Accepted b [] = Unit {0}
Accepted b (e ∷ es) = (refusal b e ≡ None) × Accepted (after b e) es
