-- Lines, words and numbers of bytes.
--     lines bs       the lines of an input: a line feed or the end ends a line
--     words bs       the words of a line: they stand between spaces
--     number bs      the number that a word writes, if it is one
--     tokens n bs    the words of a line, with their places and values, where the line's first byte stands at the place n
use Rattle.std.specs.Prelude.{ℕ, ◌+◌, ◌-◌, ◌*◌, cond, ◌&&◌, List, [], ◌∷◌, length, ℤ, pos, neg_ℤ, Some, None, Option, ◌==◌, nat_le}
use Rattle.std.specs.Option.{option_map}
use Rattle.std.specs.Str.{all_ascii_digits}

-- the byte b in front of the first piece
abbrev pub onto : ℕ → List (List ℕ) → List (List ℕ)
onto b [] = (b ∷ []) ∷ []
onto b (p ∷ ps) = (b ∷ p) ∷ ps

-- the pieces between the bytes c
abbrev pub cut : ℕ → List ℕ → List (List ℕ)
cut c [] = [] ∷ []
cut c (b ∷ bs) = cond (b == c) ([] ∷ cut c bs) (onto b (cut c bs))

abbrev pub lines : List ℕ → List (List ℕ)
lines bs = cut 10 bs

-- the pieces that are not empty
abbrev pub filled : List (List ℕ) → List (List ℕ)
filled [] = []
filled ([] ∷ ps) = filled ps
filled ((b ∷ p) ∷ ps) = (b ∷ p) ∷ filled ps

abbrev pub words : List ℕ → List (List ℕ)
words bs = filled (cut 32 bs)

-- the number that digits write after the number n
abbrev pub read : ℕ → List ℕ → ℕ
read n [] = n
read n (d ∷ ds) = read (n * 10 + (d - 48)) ds

-- 1 to 9 digits
abbrev pub numeral : List ℕ → Option ℕ
numeral bs = cond (nat_le 1 (length bs) && (nat_le (length bs) 9 && all_ascii_digits bs)) (Some (read 0 bs)) None

-- a minus, or none, and 1 to 9 digits
abbrev pub number : List ℕ → Option ℤ
number [] = None
number (b ∷ bs) = cond (b == 45) (option_map (λ n. neg_ℤ (pos n)) (numeral bs)) (option_map pos (numeral (b ∷ bs)))

-- a word of a line, the place of its first byte, and its value where it is a number
pub record Part : Type 0 where
  pub place : ℕ
  pub text : List ℕ
  pub value : Option ℤ

-- the pieces that are not empty, where the first piece begins at the place n
abbrev pub placed : ℕ → List (List ℕ) → List Part
placed n [] = []
placed n ([] ∷ ps) = placed (n + 1) ps
placed n ((b ∷ p) ∷ ps) = record { place = n; text = b ∷ p; value = number (b ∷ p) } ∷ placed (n + length (b ∷ p) + 1) ps

abbrev pub tokens : ℕ → List ℕ → List Part
tokens n bs = placed n (cut 32 bs)
