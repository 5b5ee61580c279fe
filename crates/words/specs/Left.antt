-- What is left of an input and of a line that is being read.
--     lines_left i     the lines that are left of the input i
--     tokens_left l    the tokens that are left of the line l
--     words_left l     their texts
--     part t           the token t as a part of its line: its place, text and value
--     text_of t        its text
--     Lies t bs        its text lies at its place in the line bs
--     TakesToken       what a call for the next token of a line takes and leaves
use Rattle.std.specs.Prelude.{◌≡◌, ℕ, ◌≤◌, List, [], ◌∷◌, length, take, drop, IfSome, Some, None, Option}
use Rattle.std.specs.Borrow.{Bor}
use Rattle.std.specs.Iterator.{YieldsFirstBy}
use Rattle.words.specs.declared.Lines.{Lines}
use Rattle.words.specs.declared.Line.{Line}
use Rattle.words.specs.declared.Token.{Token}
use Rattle.words.specs.declared.Token.TheVariants.{Word, Number}
use Rattle.words.specs.Words.{Part, lines, words, tokens}

-- where nothing is left, not even an empty line, there is none
abbrev pub lines_behind : Option (Bor (List ℕ)) → List (List ℕ)
lines_behind None = []
lines_behind (Some r) = lines r.now

abbrev pub lines_left : Lines → List (List ℕ)
lines_left i = lines_behind i.rest

abbrev pub tokens_left : Line → List Part
tokens_left l = tokens l.at (drop l.at l.bytes.now)

abbrev pub words_left : Line → List (List ℕ)
words_left l = words (drop l.at l.bytes.now)

abbrev pub part : Token → Part
part (Word text at) = record { place = at; text = text.now; value = None }
part (Number text value at) = record { place = at; text = text.now; value = Some value }

abbrev pub text_of : Token → List ℕ
text_of t = (part t).text

abbrev pub Lies : Token → List ℕ → Type 0
Lies t bs = text_of t ≡ take (length (text_of t)) (drop (part t).place bs)

-- r is the first token of the line bs from the byte n on, with the place behind it, if there is one
abbrev pub Taken : List ℕ → ℕ → Option (Token × ℕ) → Type 0
Taken bs n None = (tokens n (drop n bs) ≡ []) × (words (drop n bs) ≡ [])
Taken bs n (Some p) = (tokens n (drop n bs) ≡ part p.0 ∷ tokens p.1 (drop p.1 bs)) × (words (drop n bs) ≡ text_of p.0 ∷ words (drop p.1 bs)) × Lies p.0 bs × (p.1 ≤ length bs)

-- a call that took the token r from the line l, if there was one, and left the line m
pub record TakesToken (l : Line) (r : Option Token) (m : Line) : Type 0 where
  pub tokens : YieldsFirstBy part tokens_left l r m
  pub words : YieldsFirstBy text_of words_left l r m
  pub lies : IfSome r (λ t. Lies t l.bytes.now)
  pub bytes : m.bytes ≡ l.bytes
