-- A boundary as text, in bytes: a line of the counts, and then a line for each used row. A line is a letter and then words, each after one space, and ends with a line feed.
--     spaced ws      the words ws
--     words ws       the words ws to the end of a line
--     counts_text n  the line of the counts, but for its line feed
--     counts_line, vertex_line, edge_line, face_line, loop_line    the line of the counts, and of the row k of each table
--     lines text t   the lines of the used rows of the table t, by rising number
--     ring b h       the half-edges of the ring from h on
--     place b l o    the words of where the loop l lies, whose lone vertex is o
--     listed b       the whole text
use Rattle.std.specs.Prelude.{ℕ, zero, suc, ◌+◌, Bool, cond, ◌&&◌, List, [], ◌∷◌, ◌++◌, map, Some, None, codes, decimal, Option, ◌==◌}
use Rattle.std.specs.Fmt.{signed_decimal}
use Rattle.boundary.specs.declared.Point.{Point}
use Rattle.boundary.specs.declared.Edge.{Edge}
use Rattle.boundary.specs.declared.Loop.{Loop}
use Rattle.boundary.specs.declared.Face.{Face}
use Rattle.boundary.specs.declared.Boundary.{Boundary}
use Rattle.boundary.specs.Tables.{count, next, owner, half_used, run}
use Rattle.listing.specs.declared.Counts.{Counts}

abbrev pub spaced : List (List ℕ) → List ℕ
spaced [] = []
spaced (w ∷ ws) = codes " " ++ w ++ spaced ws

abbrev pub words : List (List ℕ) → List ℕ
words [] = 10 ∷ []
words (w ∷ ws) = codes " " ++ w ++ words ws

-- the numbers of used rows, and the handles
abbrev pub counted : Boundary → Counts
counted b = record { vertices = count b.vertices; edges = count b.edges; faces = count b.faces; loops = count b.loops; shells = count b.shells; handles = b.handles }

abbrev pub counts_text : Counts → List ℕ
counts_text n = codes "c" ++ spaced (decimal n.vertices ∷ decimal n.edges ∷ decimal n.faces ∷ decimal n.loops ∷ decimal n.shells ∷ decimal n.handles ∷ [])

abbrev pub counts_line : Counts → List ℕ
counts_line n = codes "c" ++ words (decimal n.vertices ∷ decimal n.edges ∷ decimal n.faces ∷ decimal n.loops ∷ decimal n.shells ∷ decimal n.handles ∷ [])

abbrev pub vertex_line : ℕ → Point → List ℕ
vertex_line k p = codes "v" ++ words (decimal k ∷ signed_decimal p.x ∷ signed_decimal p.y ∷ signed_decimal p.z ∷ [])

-- the starts of its even and its odd half-edge
abbrev pub edge_line : ℕ → Edge → List ℕ
edge_line k e = codes "e" ++ words (decimal k ∷ decimal e.even.start ∷ decimal e.odd.start ∷ [])

abbrev pub face_line : ℕ → Face → List ℕ
face_line k f = codes "f" ++ words (decimal k ∷ decimal f.shell ∷ decimal f.outer ∷ [])

-- the half-edge h is used and lies on the loop l
abbrev pub lies_on : Boundary → ℕ → ℕ → Bool
lies_on b l h = half_used b h && owner b h == l

-- the smallest of the n numbers from h on that passes the test
unfoldable pub smallest : (ℕ → Bool) → ℕ → ℕ → Option ℕ
smallest test zero h = None
smallest test (suc n) h = cond (test h) (Some h) (smallest test n (h + 1))

-- at most 384 half-edges, which makes it total on every table
unfoldable pub ring : Boundary → ℕ → List ℕ
ring b h = h ∷ run (next b) 383 (next b h) h

-- the words of the ring from the half-edge on, and none where there is no half-edge
abbrev pub around : Boundary → Option ℕ → List (List ℕ)
around b None = []
around b (Some h) = map decimal (ring b h)

-- its lone vertex, or else its ring from the smallest half-edge on
abbrev pub place : Boundary → ℕ → Option ℕ → List (List ℕ)
place b l (Some v) = codes "v" ∷ decimal v ∷ []
place b l None = around b (smallest (lies_on b l) 384 0)

abbrev pub loop_line : Boundary → ℕ → Loop → List ℕ
loop_line b k l = codes "l" ++ words (decimal k ∷ decimal l.face ∷ place b k l.lone)

-- an unused row has no line
abbrev pub row_line : {X : Type 0} → (ℕ → X → List ℕ) → ℕ → Option X → List ℕ
row_line text k None = []
row_line text k (Some x) = text k x

-- where the first row has the number k
unfoldable pub lines_from : {X : Type 0} → (ℕ → X → List ℕ) → ℕ → List (Option X) → List ℕ
lines_from text k [] = []
lines_from text k (r ∷ t) = row_line text k r ++ lines_from text (k + 1) t

abbrev pub lines : {X : Type 0} → (ℕ → X → List ℕ) → List (Option X) → List ℕ
lines text t = lines_from text 0 t

-- the counts, the vertices, the edges, the faces and the loops
unfoldable pub listed : Boundary → List ℕ
listed b = counts_line (counted b) ++ lines vertex_line b.vertices ++ lines edge_line b.edges ++ lines face_line b.faces ++ lines (loop_line b) b.loops
