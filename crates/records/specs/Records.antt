-- A record of the journal as a block: kinds 1 to 10 are the operators, 100 closes a batch, and what a kind does not use is zero.
--     bytes_of r    the 32 bytes of the record r
--     record_of bs  the record that the bytes bs are, if they are one
use Rattle.std.specs.Prelude.{ℕ, Bool, false, cond, ◌&&◌, ◌||◌, List, [], ◌∷◌, map, drop, ℤ, pos, negsuc, Some, None, Option, ◌==◌, nat_le, slice_index}
use Rattle.std.specs.List.{list_all}
use Rattle.boundary.specs.declared.Point.{Point}
use Rattle.boundary.specs.declared.Edit.{Edit}
use Rattle.boundary.specs.declared.Edit.TheVariants.{Mvfs, Kvfs, Mev, Kev, Mef, Kef, Kemr, Mekr, Kfmrh, Move}
use Rattle.boundary.specs.Operators.{named}
use Rattle.records.specs.declared.Block.{Block}
use Rattle.records.specs.declared.Record.{Record}
use Rattle.records.specs.declared.Record.TheVariants.{Change, Closing}
use Rattle.records.specs.Blocks.{laid, parts}

-- the point whose coordinates are zero
abbrev pub origin : Point
origin = record { x = pos 0; y = pos 0; z = pos 0 }

abbrev pub kind_of : Edit → ℕ
kind_of (Mvfs a f l v p) = 1
kind_of (Kvfs a) = 2
kind_of (Mev a k v p) = 3
kind_of (Kev h) = 4
kind_of (Mef h j k f l) = 5
kind_of (Kef h) = 6
kind_of (Kemr h l) = 7
kind_of (Mekr a c k) = 8
kind_of (Kfmrh f g) = 9
kind_of (Move v p) = 10

-- the numbers of an edit, in their order, and then zeros
abbrev pub numbers_of : Edit → List ℤ
numbers_of (Mvfs a f l v p) = a ∷ f ∷ l ∷ v ∷ pos 0 ∷ []
numbers_of (Kvfs a) = a ∷ pos 0 ∷ pos 0 ∷ pos 0 ∷ pos 0 ∷ []
numbers_of (Mev a k v p) = a ∷ k ∷ v ∷ pos 0 ∷ pos 0 ∷ []
numbers_of (Kev h) = h ∷ pos 0 ∷ pos 0 ∷ pos 0 ∷ pos 0 ∷ []
numbers_of (Mef h j k f l) = h ∷ j ∷ k ∷ f ∷ l ∷ []
numbers_of (Kef h) = h ∷ pos 0 ∷ pos 0 ∷ pos 0 ∷ pos 0 ∷ []
numbers_of (Kemr h l) = h ∷ l ∷ pos 0 ∷ pos 0 ∷ pos 0 ∷ []
numbers_of (Mekr a c k) = a ∷ c ∷ k ∷ pos 0 ∷ pos 0 ∷ []
numbers_of (Kfmrh f g) = f ∷ g ∷ pos 0 ∷ pos 0 ∷ pos 0 ∷ []
numbers_of (Move v p) = v ∷ pos 0 ∷ pos 0 ∷ pos 0 ∷ pos 0 ∷ []

abbrev pub fields_of : Edit → List ℕ
fields_of e = map named (numbers_of e)

abbrev pub point_of : Edit → Point
point_of (Mvfs a f l v p) = p
point_of (Kvfs a) = origin
point_of (Mev a k v p) = p
point_of (Kev h) = origin
point_of (Mef h j k f l) = origin
point_of (Kef h) = origin
point_of (Kemr h l) = origin
point_of (Mekr a c k) = origin
point_of (Kfmrh f g) = origin
point_of (Move v p) = p

abbrev pub block_of : Record → Block
block_of (Change n p e) = record { kind = kind_of e; spare = 0; number = n; position = p; fields = fields_of e; gap = 0; at = point_of e }
block_of (Closing n c) = record { kind = 100; spare = 0; number = n; position = c; fields = 0 ∷ 0 ∷ 0 ∷ 0 ∷ 0 ∷ []; gap = 0; at = origin }

unfoldable pub bytes_of : Record → List ℕ
bytes_of r = laid (block_of r)

-- how many of the fields a kind uses
abbrev pub used_fields : ℕ → ℕ
used_fields k =
    cond (k == 1) 4
    (cond (k == 3 || k == 8) 3
    (cond (k == 5) 5
    (cond (k == 7 || k == 9) 2
    (cond (k == 100) 0 1))))

-- whether a kind uses the coordinates
abbrev pub has_point : ℕ → Bool
has_point k = k == 1 || (k == 3 || k == 10)

-- the fields past the first n are zero
abbrev pub zero_past : ℕ → List ℕ → Bool
zero_past n f = list_all (λ x. x == 0) (drop n f)

abbrev pub is_zero : ℤ → Bool
is_zero (pos n) = n == 0
is_zero (negsuc n) = false

abbrev pub is_origin : Point → Bool
is_origin p = is_zero p.x && (is_zero p.y && is_zero p.z)

-- what its kind does not use is zero
abbrev pub rest_zero : Block → Bool
rest_zero b =
    (b.spare == 0)
    && (b.gap == 0
    && (zero_past (used_fields b.kind) b.fields
    && (has_point b.kind || is_origin b.at)))

-- the field i, as a number of an edit
abbrev pub field : List ℕ → ℕ → ℤ
field f i = pos (slice_index f i)

-- the edit of a kind, 1 to 10, with its fields and its point
abbrev pub edit_of : ℕ → List ℕ → Point → Edit
edit_of k f p =
    cond (k == 1) (Mvfs (field f 0) (field f 1) (field f 2) (field f 3) p)
    (cond (k == 2) (Kvfs (field f 0))
    (cond (k == 3) (Mev (field f 0) (field f 1) (field f 2) p)
    (cond (k == 4) (Kev (field f 0))
    (cond (k == 5) (Mef (field f 0) (field f 1) (field f 2) (field f 3) (field f 4))
    (cond (k == 6) (Kef (field f 0))
    (cond (k == 7) (Kemr (field f 0) (field f 1))
    (cond (k == 8) (Mekr (field f 0) (field f 1) (field f 2))
    (cond (k == 9) (Kfmrh (field f 0) (field f 1))
    (Move (field f 0) p)))))))))

-- a batch number, and a position from first to last
abbrev pub numbered : ℕ → ℕ → Block → Bool
numbered first last b = nat_le 1 b.number && (nat_le first b.position && nat_le b.position last)

-- the position of an edit in its batch counts from 0
abbrev pub is_change : Block → Bool
is_change b = (nat_le 1 b.kind && nat_le b.kind 10) && (numbered 0 15 b && rest_zero b)

-- the position of a closing record is the count of its batch
abbrev pub is_closing : Block → Bool
is_closing b = b.kind == 100 && (numbered 1 16 b && rest_zero b)

abbrev pub meaning : Block → Option Record
meaning b =
    cond (is_closing b) (Some (Closing b.number b.position))
    (cond (is_change b) (Some (Change b.number b.position (edit_of b.kind b.fields b.at))) None)

unfoldable pub record_of : List ℕ → Option Record
record_of bs = meaning (parts bs)
