-- The operators: what each leaves of a boundary that does not refuse it. Numbers are those of the edit.
--     empty                 no row is used
--     mvfs, kvfs, mev, kev, mef, kef, kemr, mekr, kfmrh, move      the operators, in their own terms
--     applied b e           the boundary after the edit e
use Rattle.std.specs.Prelude.{ℕ, ◌+◌, ◌-◌, ◌*◌, ◌/◌, min, cond, ◌&&◌, replicate, ℤ, pos, negsuc, Some, None, Option, ◌==◌, nat_lt}
use Rattle.std.specs.Option.{unwrap_or}
use Rattle.boundary.specs.declared.Point.{Point}
use Rattle.boundary.specs.declared.HalfEdge.{HalfEdge}
use Rattle.boundary.specs.declared.Edge.{Edge}
use Rattle.boundary.specs.declared.Boundary.{Boundary}
use Rattle.boundary.specs.declared.Edit.{Edit}
use Rattle.boundary.specs.declared.Edit.TheVariants.{Mvfs, Kvfs, Mev, Kev, Mef, Kef, Kemr, Mekr, Kfmrh, Move}
use Rattle.boundary.specs.Tables.{row, start, next, owner, mate, lone, outer_of, loop_face, face_shell, loop_shell, first_part, in_shell, is_half_place, place_loop, place_vertex, run}
use Rattle.boundary.specs.Changes.{put_shell, put_face, put_loop, put_edge, put_vertex, put_lone, clear_shell, clear_face, clear_loop, clear_edge, clear_vertex, with_handles, emptied, led, owned, joined, inner, merged}

abbrev pub empty : Boundary
empty = record { shells = replicate 8 None; faces = replicate 96 None; loops = replicate 96 None; edges = replicate 192 None; vertices = replicate 128 None; handles = 0 }

-- a half-edge by its start, the half-edge after it and its loop
abbrev pub half_edge : ℕ → ℕ → ℕ → HalfEdge
half_edge s n l = record { start = s; next = n; owner = l }

abbrev pub edge : HalfEdge → HalfEdge → Edge
edge x y = record { even = x; odd = y }

-- shell a, face f with the outer loop l, and on l the lone vertex v at p
abbrev pub mvfs : Boundary → ℕ → ℕ → ℕ → ℕ → Point → Boundary
mvfs b a f l v p =
    put_vertex (put_loop (put_face (put_shell b a (record {})) f (record { shell = a; outer = l })) l (record { face = f; lone = Some v })) v p

-- shell a goes with its face f, the outer loop l of f, and the lone vertex of l
abbrev pub kvfs_of : Boundary → ℕ → ℕ → ℕ → Boundary
kvfs_of b a f l = clear_vertex (clear_loop (clear_face (clear_shell b a) f) l) (unwrap_or (lone b l) 0)

-- the one face of a shell
abbrev pub face_in : Boundary → ℕ → ℕ
face_in b a = first_part in_shell b.faces a

abbrev pub kvfs : Boundary → ℕ → Boundary
kvfs b a = kvfs_of b a (face_in b a) (outer_of (row b.faces (face_in b a)))

-- 2k and 2k + 1 go just before the half-edge h, 2k from the start of h to the new vertex v at p, and 2k + 1 back
abbrev pub mev_before : Boundary → ℕ → ℕ → ℕ → Point → Boundary
mev_before b h k v p =
    put_vertex (put_edge (led b h (2 * k)) k (edge (half_edge (start b h) (2 * k + 1) (owner b h)) (half_edge v h (owner b h)))) v p

-- 2k and 2k + 1 become the ring of the loop l, whose vertex was lone: 2k from that vertex to the new vertex v at p, and 2k + 1 back
abbrev pub mev_lone : Boundary → ℕ → ℕ → ℕ → Point → Boundary
mev_lone b l k v p =
    put_vertex (put_edge (put_lone b l None) k (edge (half_edge (unwrap_or (lone b l) 0) (2 * k + 1) l) (half_edge v (2 * k) l))) v p

abbrev pub mev : Boundary → ℕ → ℕ → ℕ → Point → Boundary
mev b a k v p = cond (is_half_place a) (mev_before b a k v p) (mev_lone b (a - 512) k v p)

-- the edge of h and the vertex at its end go: what led to h leads past its mate, and an emptied ring leaves the start of h lone
abbrev pub kev : Boundary → ℕ → Boundary
kev b h =
    clear_vertex (clear_edge (emptied (next b (mate h) == h) (led b h (next b (mate h))) (owner b h) (start b h)) (h / 2)) (start b (mate h))

-- 2k from the start of h to that of j, and 2k + 1 back: the run from h to just before j, closed by 2k + 1, is the outer loop l of the new face f, and the run from j to just before h, closed by 2k, stays
abbrev pub mef : Boundary → ℕ → ℕ → ℕ → ℕ → ℕ → Boundary
mef b h j k f l =
    put_loop (put_face (put_edge (led (led (owned b (run (next b) 384 h j) l) h (2 * k)) j (2 * k + 1)) k (edge (half_edge (start b h) j (owner b h)) (half_edge (start b j) h l))) f (record { shell = loop_shell b (owner b h); outer = l })) l (record { face = f; lone = None })

-- where a half-edge goes on that led to x, once x and y are gone, whose rings become one: to the half-edge after y, or past x where y was alone
abbrev pub past : Boundary → ℕ → ℕ → ℕ
past b x y = cond (next b y == y) (next b x) (next b y)

-- the ring of x joins that of y without both; where both were alone their start is lone
abbrev pub spliced : Boundary → ℕ → ℕ → Boundary
spliced b x y =
    emptied (next b x == x && next b y == y) (led (led (joined b (owner b x) (owner b y)) x (past b x y)) y (past b y x)) (owner b y) (start b x)

-- the edge, the loop and the face of h go, and the rest of its ring joins the loop of its mate
abbrev pub kef : Boundary → ℕ → Boundary
kef b h = clear_face (clear_loop (clear_edge (spliced b h (mate h)) (h / 2)) (owner b h)) (loop_face b (owner b h))

-- the lone vertex of the new loop where the run between h and its mate is empty
abbrev pub cut_off : Boundary → ℕ → Option ℕ
cut_off b h = cond (next b h == mate h) (Some (start b (mate h))) None

-- the edge of h goes: the run between h and its mate is the new loop l of the same face, and the run from the mate to h stays; an empty run leaves its vertex lone
abbrev pub kemr : Boundary → ℕ → ℕ → Boundary
kemr b h l =
    clear_edge (emptied (next b (mate h) == h) (put_loop (led (led (owned b (run (next b) 384 (next b h) (mate h)) l) (mate h) (next b h)) h (next b (mate h))) l (record { face = loop_face b (owner b h); lone = cut_off b h })) (owner b h) (start b h)) (h / 2)

-- what led to a half-edge leads to x; nothing leads to a lone vertex
abbrev pub led_place : Boundary → ℕ → ℕ → Boundary
led_place b a x = cond (is_half_place a) (led b a x) b

-- the half-edge of a place, or x at a lone vertex
abbrev pub onward : ℕ → ℕ → ℕ
onward a x = cond (is_half_place a) a x

-- 2k from the vertex of a to that of c, and 2k + 1 back: the loop of a becomes 2k, the ring of c from c on, 2k + 1, the ring of a from a on, and the loop of c goes
abbrev pub mekr : Boundary → ℕ → ℕ → ℕ → Boundary
mekr b a c k =
    clear_loop (put_lone (put_edge (led_place (led_place (joined b (place_loop b c) (place_loop b a)) a (2 * k)) c (2 * k + 1)) k (edge (half_edge (place_vertex b a) (onward c (2 * k + 1)) (place_loop b a)) (half_edge (place_vertex b c) (onward a (2 * k)) (place_loop b a)))) (place_loop b a) None) (place_loop b c)

-- no more than the counter holds; a solid never comes near it
abbrev pub one_more : ℕ → ℕ
one_more n = min (n + 1) 4294967295

-- within one shell a handle is made, and of two shells s and t the second goes and its faces take the first
abbrev pub connected : Boundary → ℕ → ℕ → Boundary
connected b s t = cond (s == t) (with_handles b (one_more b.handles)) (clear_shell (merged b t s) t)

-- the loop of the face g becomes an inner loop of f, and g goes
abbrev pub kfmrh : Boundary → ℕ → ℕ → Boundary
kfmrh b f g = connected (clear_face (inner b g f) g) (face_shell b f) (face_shell b g)

-- the vertex v is at p
abbrev pub move : Boundary → ℕ → Point → Boundary
move b v p = put_vertex b v p

-- the number that a field names; one that no table is long enough for names 0
abbrev pub named : ℤ → ℕ
named (pos n) = cond (nat_lt n 65536) n 0
named (negsuc n) = 0

unfoldable pub applied : Boundary → Edit → Boundary
applied b (Mvfs a f l v p) = mvfs b (named a) (named f) (named l) (named v) p
applied b (Kvfs a) = kvfs b (named a)
applied b (Mev a k v p) = mev b (named a) (named k) (named v) p
applied b (Kev h) = kev b (named h)
applied b (Mef h j k f l) = mef b (named h) (named j) (named k) (named f) (named l)
applied b (Kef h) = kef b (named h)
applied b (Kemr h l) = kemr b (named h) (named l)
applied b (Mekr a c k) = mekr b (named a) (named c) (named k)
applied b (Kfmrh f g) = kfmrh b (named f) (named g)
applied b (Move v p) = move b (named v) p
