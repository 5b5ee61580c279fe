-- The replies to the lines of an input, and the listing of the solid that they leave.
--     code f               the number by which a user is told of the fault f
--     done b r             how the boundary b answers what a line asks for, and left b r what it leaves
--     line_reply n b ts    the reply to the line with the number n and the tokens ts
--     after_line b ts      the boundary after it
--     shown r              a reply as text
--     drawn bs             all that is written for the input bs
use Rattle.std.specs.Prelude.{ℕ, ◌+◌, List, [], ◌∷◌, ◌++◌, take, Some, None, Ok, Err, codes, decimal, Option, Result}
use Rattle.boundary.specs.declared.Boundary.{Boundary}
use Rattle.boundary.specs.declared.Edit.{Edit}
use Rattle.boundary.specs.declared.Refusal.{Refusal}
use Rattle.boundary.specs.Operators.{empty}
use Rattle.boundary.specs.Refusals.{refusal, after}
use Rattle.boundary.specs.Refusals as refusals
use Rattle.listing.specs.Listing.{listed}
use Rattle.words.specs.Words.{Part, lines, tokens}
use Rattle.drawing.specs.declared.Fault.{Fault}
use Rattle.drawing.specs.declared.Fault.TheVariants.{UnknownOperator, WrongArguments, Refused}
use Rattle.drawing.specs.declared.Reply.{Reply}
use Rattle.drawing.specs.Commands.{asked}

abbrev pub code : Fault → ℕ
code UnknownOperator = 40
code WrongArguments = 41
code (Refused why) = refusals.code why

abbrev pub refused : Option Refusal → Result (Unit {0}) Fault
refused None = Ok tt
refused (Some why) = Err (Refused why)

abbrev pub done : Boundary → Result Edit Fault → Result (Unit {0}) Fault
done b (Ok e) = refused (refusal b e)
done b (Err f) = Err f

-- a fault leaves the boundary as it was
abbrev pub left : Boundary → Result Edit Fault → Boundary
left b (Ok e) = after b e
left b (Err f) = b

-- a line without a word has none
abbrev pub line_reply : ℕ → Boundary → List Part → Option Reply
line_reply n b [] = None
line_reply n b (t ∷ ts) = Some (record { line = n; done = done b (asked t ts) })

abbrev pub after_line : Boundary → List Part → Boundary
after_line b [] = b
after_line b (t ∷ ts) = left b (asked t ts)

abbrev pub shown_at : ℕ → Result (Unit {0}) Fault → List ℕ
shown_at n (Ok u) = codes "ok" ++ 10 ∷ []
shown_at n (Err f) = codes "no " ++ decimal (code f) ++ codes " " ++ decimal n ++ 10 ∷ []

abbrev pub shown : Reply → List ℕ
shown r = shown_at r.line r.done

abbrev pub line_shown : Option Reply → List ℕ
line_shown None = []
line_shown (Some r) = shown r

-- the lines from the line with the number n on
unfoldable pub drawn_from : ℕ → Boundary → List (List ℕ) → List ℕ
drawn_from n b [] = listed b
drawn_from n b (l ∷ ls) = line_shown (line_reply n b (tokens 0 l)) ++ drawn_from (n + 1) (after_line b (tokens 0 l)) ls

-- only the first 32768 bytes are looked at
abbrev pub drawn : List ℕ → List ℕ
drawn bs = drawn_from 1 empty (lines (take 32768 bs))
