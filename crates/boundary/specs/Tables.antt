-- What the tables of a boundary say. A number that names no used row reads as a row of zeros, so that each definition has a value on every table.
--     row t k        the row k of the table t
--     used t k       whether that row is used
--     count t        how many rows of t are used
--     half b h       the half-edge h; start b h, next b h and owner b h are its fields
--     lone b l       the lone vertex of the loop l, if it has one
--     mate h         the other half of the edge of h
--     in_row w k r   whether the row r is used and lies in k, where w tells what a row lies in
--     parts w t k    how many rows of t lie in k, and first_part w t k the first of them
--     run f n h k    from h on, by the step f, up to just before k: at most n elements
use Rattle.std.specs.Prelude.{ℕ, zero, suc, ◌+◌, ◌-◌, ◌/◌, ◌%◌, Bool, true, false, cond, List, [], ◌∷◌, is_some, Some, None, count_by, Option, ◌==◌, nat_lt, slice_index_or}
use Rattle.std.specs.Option.{unwrap_or}
use Rattle.boundary.specs.declared.HalfEdge.{HalfEdge}
use Rattle.boundary.specs.declared.Edge.{Edge}
use Rattle.boundary.specs.declared.Loop.{Loop}
use Rattle.boundary.specs.declared.Face.{Face}
use Rattle.boundary.specs.declared.Boundary.{Boundary}

abbrev pub row : {X : Type 0} → List (Option X) → ℕ → Option X
row t k = slice_index_or t k None

abbrev pub used : {X : Type 0} → List (Option X) → ℕ → Bool
used t k = is_some (row t k)

abbrev pub count : {X : Type 0} → List (Option X) → ℕ
count t = count_by is_some t

-- what an unused half-edge reads as
abbrev pub blank : HalfEdge
blank = record { start = 0; next = 0; owner = 0 }

-- one half of an edge: the even one, or the odd one
abbrev pub side : Option Edge → Bool → HalfEdge
side None even = blank
side (Some e) true = e.even
side (Some e) false = e.odd

abbrev pub even : ℕ → Bool
even h = h % 2 == 0

-- the half-edge h of a table of edges
abbrev pub half_in : List (Option Edge) → ℕ → HalfEdge
half_in es h = side (row es (h / 2)) (even h)

abbrev pub next_in : List (Option Edge) → ℕ → ℕ
next_in es h = (half_in es h).next

abbrev pub half : Boundary → ℕ → HalfEdge
half b h = half_in b.edges h

abbrev pub start : Boundary → ℕ → ℕ
start b h = (half b h).start

abbrev pub next : Boundary → ℕ → ℕ
next b h = (half b h).next

abbrev pub owner : Boundary → ℕ → ℕ
owner b h = (half b h).owner

-- a half-edge is used where its edge is
abbrev pub half_used : Boundary → ℕ → Bool
half_used b h = used b.edges (h / 2)

abbrev pub mate : ℕ → ℕ
mate h = cond (even h) (h + 1) (h - 1)

abbrev pub lone_of : Option Loop → Option ℕ
lone_of None = None
lone_of (Some l) = l.lone

abbrev pub lone : Boundary → ℕ → Option ℕ
lone b l = lone_of (row b.loops l)

abbrev pub shell_of : Option Face → ℕ
shell_of None = 0
shell_of (Some f) = f.shell

abbrev pub outer_of : Option Face → ℕ
outer_of None = 0
outer_of (Some f) = f.outer

abbrev pub face_of : Option Loop → ℕ
face_of None = 0
face_of (Some l) = l.face

-- the face that the loop l lies in
abbrev pub loop_face : Boundary → ℕ → ℕ
loop_face b l = face_of (row b.loops l)

-- the shell that the face f lies in
abbrev pub face_shell : Boundary → ℕ → ℕ
face_shell b f = shell_of (row b.faces f)

-- the shell that the loop l lies in, by its face
abbrev pub loop_shell : Boundary → ℕ → ℕ
loop_shell b l = face_shell b (loop_face b l)

abbrev pub in_row : {X : Type 0} → (X → ℕ) → ℕ → Option X → Bool
in_row w k None = false
in_row w k (Some x) = w x == k

abbrev pub parts : {X : Type 0} → (X → ℕ) → List (Option X) → ℕ → ℕ
parts w t k = count_by (in_row w k) t

-- the length of the table where no row lies in k
unfoldable pub first_part : {X : Type 0} → (X → ℕ) → List (Option X) → ℕ → ℕ
first_part w [] k = 0
first_part w (r ∷ t) k = cond (in_row w k r) 0 (suc (first_part w t k))

abbrev pub in_shell : Face → ℕ
in_shell f = f.shell

abbrev pub in_face : Loop → ℕ
in_face l = l.face

-- how many faces the shell s has, and how many loops the face f
abbrev pub faces_in : Boundary → ℕ → ℕ
faces_in b s = parts in_shell b.faces s

abbrev pub loops_in : Boundary → ℕ → ℕ
loops_in b f = parts in_face b.loops f

-- a place below 512 is a half-edge, any other the loop 512 below it
abbrev pub is_half_place : ℕ → Bool
is_half_place a = nat_lt a 512

-- the loop of a place, and its vertex
abbrev pub place_loop : Boundary → ℕ → ℕ
place_loop b a = cond (is_half_place a) (owner b a) (a - 512)

abbrev pub place_vertex : Boundary → ℕ → ℕ
place_vertex b a = cond (is_half_place a) (start b a) (unwrap_or (lone b (a - 512)) 0)

-- the `let` keeps a computation from going on behind the end
unfoldable pub run : (ℕ → ℕ) → ℕ → ℕ → ℕ → List ℕ
run f zero h k = []
run f (suc n) h k = let on : List ℕ = h ∷ run f n (f h) k in cond (h == k) [] on
