-- What a line of tokens asks for.
--     operator w         the operator whose name is w
--     arity o            how many numbers it takes
--     edit_by o ns       its edit with the numbers ns: those of the fields, in their order, and then x, y and z
--     numbers n ts       the numbers of n tokens
--     edit o ts          the edit that the tokens behind the name ask for
--     asked t ts         what a line asks for whose tokens are t and ts
use Rattle.std.specs.Prelude.{ℕ, zero, suc, ◌+◌, cond, List, [], ◌∷◌, ℤ, pos, Some, None, Err, codes, Option, Result, slice_index_or}
use Rattle.std.specs.Option.{option_map, ok_or}
use Rattle.std.specs.Str.{bytes_eq}
use Rattle.boundary.specs.declared.Point.{Point}
use Rattle.boundary.specs.declared.Edit.{Edit}
use Rattle.boundary.specs.declared.Edit.TheVariants.{Mvfs as mvfs, Kvfs as kvfs, Mev as mev, Kev as kev, Mef as mef, Kef as kef, Kemr as kemr, Mekr as mekr, Kfmrh as kfmrh, Move as move}
use Rattle.words.specs.Words.{Part}
use Rattle.drawing.specs.declared.Operator.{Operator}
use Rattle.drawing.specs.declared.Operator.TheVariants.{Mvfs, Kvfs, Mev, Kev, Mef, Kef, Kemr, Mekr, Kfmrh, Move}
use Rattle.drawing.specs.declared.Fault.{Fault}
use Rattle.drawing.specs.declared.Fault.TheVariants.{UnknownOperator, WrongArguments}

abbrev pub operator : List ℕ → Option Operator
operator w =
    cond (bytes_eq w (codes "mvfs")) (Some Mvfs)
    (cond (bytes_eq w (codes "kvfs")) (Some Kvfs)
    (cond (bytes_eq w (codes "mev")) (Some Mev)
    (cond (bytes_eq w (codes "kev")) (Some Kev)
    (cond (bytes_eq w (codes "mef")) (Some Mef)
    (cond (bytes_eq w (codes "kef")) (Some Kef)
    (cond (bytes_eq w (codes "kemr")) (Some Kemr)
    (cond (bytes_eq w (codes "mekr")) (Some Mekr)
    (cond (bytes_eq w (codes "kfmrh")) (Some Kfmrh)
    (cond (bytes_eq w (codes "move")) (Some Move) None)))))))))

abbrev pub arity : Operator → ℕ
arity Mvfs = 7
arity Kvfs = 1
arity Mev = 6
arity Kev = 1
arity Mef = 5
arity Kef = 1
arity Kemr = 2
arity Mekr = 3
arity Kfmrh = 2
arity Move = 4

-- the number at the place k
abbrev pub at : List ℤ → ℕ → ℤ
at ns k = slice_index_or ns k (pos 0)

-- the point whose coordinates begin at the place k
abbrev pub point : List ℤ → ℕ → Point
point ns k = record { x = at ns k; y = at ns (k + 1); z = at ns (k + 2) }

abbrev pub edit_by : Operator → List ℤ → Edit
edit_by Mvfs ns = mvfs (at ns 0) (at ns 1) (at ns 2) (at ns 3) (point ns 4)
edit_by Kvfs ns = kvfs (at ns 0)
edit_by Mev ns = mev (at ns 0) (at ns 1) (at ns 2) (point ns 3)
edit_by Kev ns = kev (at ns 0)
edit_by Mef ns = mef (at ns 0) (at ns 1) (at ns 2) (at ns 3) (at ns 4)
edit_by Kef ns = kef (at ns 0)
edit_by Kemr ns = kemr (at ns 0) (at ns 1)
edit_by Mekr ns = mekr (at ns 0) (at ns 1) (at ns 2)
edit_by Kfmrh ns = kfmrh (at ns 0) (at ns 1)
edit_by Move ns = move (at ns 0) (point ns 1)

abbrev pub in_front : Option ℤ → Option (List ℤ) → Option (List ℤ)
in_front None ns = None
in_front (Some v) None = None
in_front (Some v) (Some vs) = Some (v ∷ vs)

-- none where there are more or fewer tokens, or one is no number
abbrev pub numbers : ℕ → List Part → Option (List ℤ)
numbers zero [] = Some []
numbers zero (t ∷ ts) = None
numbers (suc n) [] = None
numbers (suc n) (t ∷ ts) = in_front t.value (numbers n ts)

abbrev pub edit : Operator → List Part → Option Edit
edit o ts = option_map (edit_by o) (numbers (arity o) ts)

abbrev pub asked_of : Option Operator → List Part → Result Edit Fault
asked_of None ts = Err UnknownOperator
asked_of (Some o) ts = ok_or (edit o ts) WrongArguments

abbrev pub asked : Part → List Part → Result Edit Fault
asked t ts = asked_of (operator t.text) ts
