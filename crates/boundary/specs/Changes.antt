-- The changes that the operators are made of. Each gives the whole boundary afterwards.
--     put_shell, put_face, put_loop, put_edge, put_vertex b k x   the row k becomes x, and is used
--     clear_shell, clear_face, clear_loop, clear_edge, clear_vertex b k   the row k is unused
--     led b h x       what led to h leads to x
--     owned b hs l    the half-edges hs lie on the loop l
--     joined b l m    the half-edges on the loop l lie on the loop m
--     inner b f g     the loops in the face f lie in the face g
--     merged b s t    the faces in the shell s lie in the shell t
use Rattle.std.specs.Prelude.{ℕ, ◌/◌, Bool, true, false, cond, List, [], ◌∷◌, map, Some, None, Option, ◌==◌, slice_set}
use Rattle.std.specs.Option.{option_map}
use Rattle.boundary.specs.declared.Point.{Point}
use Rattle.boundary.specs.declared.HalfEdge.{HalfEdge}
use Rattle.boundary.specs.declared.Edge.{Edge}
use Rattle.boundary.specs.declared.Loop.{Loop}
use Rattle.boundary.specs.declared.Face.{Face}
use Rattle.boundary.specs.declared.Shell.{Shell}
use Rattle.boundary.specs.declared.Boundary.{Boundary}
use Rattle.boundary.specs.Tables.{row, even, face_of}

abbrev pub with_shells : Boundary → List (Option Shell) → Boundary
with_shells b t = record { shells = t; faces = b.faces; loops = b.loops; edges = b.edges; vertices = b.vertices; handles = b.handles }

abbrev pub with_faces : Boundary → List (Option Face) → Boundary
with_faces b t = record { shells = b.shells; faces = t; loops = b.loops; edges = b.edges; vertices = b.vertices; handles = b.handles }

abbrev pub with_loops : Boundary → List (Option Loop) → Boundary
with_loops b t = record { shells = b.shells; faces = b.faces; loops = t; edges = b.edges; vertices = b.vertices; handles = b.handles }

abbrev pub with_edges : Boundary → List (Option Edge) → Boundary
with_edges b t = record { shells = b.shells; faces = b.faces; loops = b.loops; edges = t; vertices = b.vertices; handles = b.handles }

abbrev pub with_vertices : Boundary → List (Option Point) → Boundary
with_vertices b t = record { shells = b.shells; faces = b.faces; loops = b.loops; edges = b.edges; vertices = t; handles = b.handles }

abbrev pub with_handles : Boundary → ℕ → Boundary
with_handles b n = record { shells = b.shells; faces = b.faces; loops = b.loops; edges = b.edges; vertices = b.vertices; handles = n }

abbrev pub put_shell : Boundary → ℕ → Shell → Boundary
put_shell b k x = with_shells b (slice_set b.shells k (Some x))

abbrev pub put_face : Boundary → ℕ → Face → Boundary
put_face b k x = with_faces b (slice_set b.faces k (Some x))

abbrev pub put_loop : Boundary → ℕ → Loop → Boundary
put_loop b k x = with_loops b (slice_set b.loops k (Some x))

abbrev pub put_edge : Boundary → ℕ → Edge → Boundary
put_edge b k x = with_edges b (slice_set b.edges k (Some x))

abbrev pub put_vertex : Boundary → ℕ → Point → Boundary
put_vertex b k x = with_vertices b (slice_set b.vertices k (Some x))

abbrev pub clear_shell : Boundary → ℕ → Boundary
clear_shell b k = with_shells b (slice_set b.shells k None)

abbrev pub clear_face : Boundary → ℕ → Boundary
clear_face b k = with_faces b (slice_set b.faces k None)

abbrev pub clear_loop : Boundary → ℕ → Boundary
clear_loop b k = with_loops b (slice_set b.loops k None)

abbrev pub clear_edge : Boundary → ℕ → Boundary
clear_edge b k = with_edges b (slice_set b.edges k None)

abbrev pub clear_vertex : Boundary → ℕ → Boundary
clear_vertex b k = with_vertices b (slice_set b.vertices k None)

-- the loop l, in its face, has the lone vertex o, if that is one
abbrev pub put_lone : Boundary → ℕ → Option ℕ → Boundary
put_lone b l o = put_loop b l (record { face = face_of (row b.loops l); lone = o })

-- where the ring of the loop l was emptied, the vertex v is lone on it
abbrev pub emptied : Bool → Boundary → ℕ → ℕ → Boundary
emptied true b l v = put_lone b l (Some v)
emptied false b l v = b

-- a half-edge that led to h leads to x
abbrev pub led_half : ℕ → ℕ → HalfEdge → HalfEdge
led_half h x e = record { start = e.start; next = cond (e.next == h) x e.next; owner = e.owner }

abbrev pub led_edge : ℕ → ℕ → Edge → Edge
led_edge h x e = record { even = led_half h x e.even; odd = led_half h x e.odd }

abbrev pub led_in : List (Option Edge) → ℕ → ℕ → List (Option Edge)
led_in es h x = map (option_map (led_edge h x)) es

abbrev pub led : Boundary → ℕ → ℕ → Boundary
led b h x = with_edges b (led_in b.edges h x)

abbrev pub owned_half : ℕ → HalfEdge → HalfEdge
owned_half l e = record { start = e.start; next = e.next; owner = l }

-- one half of an edge, the even one or the odd one, lies on l
abbrev pub owned_side : Bool → ℕ → Edge → Edge
owned_side true l e = record { even = owned_half l e.even; odd = e.odd }
owned_side false l e = record { even = e.even; odd = owned_half l e.odd }

abbrev pub owned_one : List (Option Edge) → ℕ → ℕ → List (Option Edge)
owned_one es h l = slice_set es (h / 2) (option_map (owned_side (even h) l) (row es (h / 2)))

abbrev pub owned_in : List (Option Edge) → List ℕ → ℕ → List (Option Edge)
owned_in es [] l = es
owned_in es (h ∷ hs) l = owned_in (owned_one es h l) hs l

abbrev pub owned : Boundary → List ℕ → ℕ → Boundary
owned b hs l = with_edges b (owned_in b.edges hs l)

abbrev pub joined_half : ℕ → ℕ → HalfEdge → HalfEdge
joined_half l m e = record { start = e.start; next = e.next; owner = cond (e.owner == l) m e.owner }

abbrev pub joined_edge : ℕ → ℕ → Edge → Edge
joined_edge l m e = record { even = joined_half l m e.even; odd = joined_half l m e.odd }

abbrev pub joined_in : List (Option Edge) → ℕ → ℕ → List (Option Edge)
joined_in es l m = map (option_map (joined_edge l m)) es

abbrev pub joined : Boundary → ℕ → ℕ → Boundary
joined b l m = with_edges b (joined_in b.edges l m)

abbrev pub inner_loop : ℕ → ℕ → Loop → Loop
inner_loop f g l = record { face = cond (l.face == f) g l.face; lone = l.lone }

abbrev pub inner : Boundary → ℕ → ℕ → Boundary
inner b f g = with_loops b (map (option_map (inner_loop f g)) b.loops)

abbrev pub merged_face : ℕ → ℕ → Face → Face
merged_face s t f = record { shell = cond (f.shell == s) t f.shell; outer = f.outer }

abbrev pub merged : Boundary → ℕ → ℕ → Boundary
merged b s t = with_faces b (map (option_map (merged_face s t)) b.faces)
