-- Worked cases of the solid, the journal and sessions, as one list.
use Rattle.std.specs.Prelude.{◌≡◌, ℕ, List, [], ◌∷◌, ◌++◌, length, replicate, pos, Some, None, codes, Option}
use Prim.Native.String.{String}
use Rattle.boundary.specs.declared.Edit.{Edit}
use Rattle.boundary.specs.declared.Edit.TheVariants.{Mvfs, Mef, Kemr, Mekr, Kfmrh, Move}
use Rattle.boundary.specs.declared.Refusal.{Refusal}
use Rattle.boundary.specs.declared.Refusal.TheVariants.{OutOfRange, Condition}
use Rattle.boundary.specs.Operators.{empty}
use Rattle.boundary.specs.Refusals.{refusal}
use Rattle.disk.specs.declared.Content.{Content}
use Rattle.disk.specs.declared.Content.TheVariants.{Bytes, Unreadable}
use Rattle.faults.specs.declared.JournalFault.TheVariants.{Full}
use Rattle.faults.specs.declared.SessionFault.TheVariants.{FromJournal}
use Rattle.listing.specs.Listing.{listed}
use Rattle.records.specs.declared.Record.TheVariants.{Change}
use Rattle.records.specs.Records.{bytes_of}
use Rattle.rules.specs.Examples.{at, corner, triangle}
use Rattle.rules.specs.Histories.{after_all}
use Rattle.standing.specs.Standing.{standing}
use Rattle.runs.specs.declared.Call.{Call}
use Rattle.runs.specs.declared.Call.TheVariants.{Open, Begin, Apply, Commit}
use Rattle.runs.specs.declared.Reply.{Reply}
use Rattle.runs.specs.declared.Reply.TheVariants.{NotNow, Kept, Refused}
use Rattle.runs.specs.Ledgers.{Ledger, nothing, after_call}
use Rattle.runs.specs.Laws.{foretold}

-- a case: what edits leave, as a listing; what an edit is answered after others; what the last of some calls is answered on a blank disk of n blocks, where no disk call is answered 20; and how many whole batches stand in blocks
pub data Case : Type 0 where
  draws : List Edit → List ℕ → Case
  answers : List Edit → Edit → Option Refusal → Case
  replies : ℕ → List Call → Reply → Case
  stand : List Content → ℕ → Case

-- the reply that the ledger foretells to the last of the calls
abbrev pub last_reply : ℕ → Ledger → List Call → Reply → Reply
last_reply n l [] r = r
last_reply n l (c ∷ cs) r = last_reply n (after_call n l c None) cs (foretold n l.acknowledged l.stage c None)

abbrev pub Holds : Case → Type 0
Holds (draws es text) = listed (after_all empty es) ≡ text
Holds (answers es e o) = refusal (after_all empty es) e ≡ o
Holds (replies n cs r) = last_reply n nothing cs NotNow ≡ r
Holds (stand cs k) = length (standing cs) ≡ k

abbrev pub All : List Case → Type 0
All [] = Unit {0}
All (c ∷ cs) = Holds c × All cs

-- lines of text, each ended by a line feed
abbrev pub text : List String → List ℕ
text [] = []
text (l ∷ ls) = codes l ++ (10 ∷ text ls)

-- the points of the corner and the triangle
abbrev pub points : List String
points = "v 0 0 0 0" ∷ "v 1 256 0 0" ∷ "v 2 256 256 0" ∷ []

-- a point, and fifteen moves of it
abbrev pub sixteen : List Call
sixteen = Apply (Mvfs (pos 0) (pos 0) (pos 0) (pos 0) (at 0 0 0)) ∷ replicate 15 (Apply (Move (pos 0) (at 1 2 3)))

-- sixteen edits in one batch
abbrev pub batch : List Call
batch = Open ∷ Begin ∷ (sixteen ++ Commit ∷ [])

abbrev pub the_cases : List Case
the_cases =
    -- the triangle
    draws triangle (text ("c 3 3 2 2 1 0" ∷ (points ++ "e 0 0 1" ∷ "e 1 1 2" ∷ "e 2 0 2" ∷ "f 0 0 0" ∷ "f 1 0 1" ∷ "l 0 0 1 4 3" ∷ "l 1 1 0 2 5" ∷ [])))
    -- its second edge taken out before the third is drawn: the ring 0 1, and vertex 2 lone on loop 1
    ∷ draws (corner ++ Kemr (pos 2) (pos 1) ∷ []) (text ("c 3 1 1 2 1 0" ∷ (points ++ "e 0 0 1" ∷ "f 0 0 0" ∷ "l 0 0 0 1" ∷ "l 1 0 v 2" ∷ [])))
    -- and put back
    ∷ draws (corner ++ Kemr (pos 2) (pos 1) ∷ Mekr (pos 1) (pos 513) (pos 1) ∷ []) (text ("c 3 2 1 1 1 0" ∷ (points ++ "e 0 0 1" ∷ "e 1 1 2" ∷ "f 0 0 0" ∷ "l 0 0 0 2 3 1" ∷ [])))
    -- a handle: the second face of the triangle becomes a ring of the first
    ∷ draws (triangle ++ Kfmrh (pos 0) (pos 1) ∷ []) (text ("c 3 3 1 2 1 1" ∷ (points ++ "e 0 0 1" ∷ "e 1 1 2" ∷ "e 2 0 2" ∷ "f 0 0 0" ∷ "l 0 0 1 4 3" ∷ "l 1 0 0 2 5" ∷ [])))
    -- no edge goes from a half-edge to itself
    ∷ answers triangle (Mef (pos 0) (pos 0) (pos 3) (pos 2) (pos 2)) (Some Condition)
    -- the largest coordinate, and one above it
    ∷ answers triangle (Move (pos 0) (at 8388607 0 0)) None
    ∷ answers triangle (Move (pos 0) (at 8388608 0 0)) (Some OutOfRange)
    -- sixteen edits commit on 17 blank blocks, and not on 16
    ∷ replies 17 batch (Kept 1)
    ∷ replies 16 batch (Refused (FromJournal (Full 0)))
    -- a good edit in block 0 and an unreadable block 1 are no batch
    ∷ stand (Bytes (bytes_of (Change 1 0 (Mvfs (pos 0) (pos 0) (pos 0) (pos 0) (at 0 0 0)))) ∷ Unreadable ∷ []) 0
    ∷ []
