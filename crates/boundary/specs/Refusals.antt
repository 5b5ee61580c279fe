-- Which edits are refused, and why: out of range comes first, then the use of something unused, then the making of something used, then the operator's own condition.
--     in_range e      every number of the edit e is in its range
--     refusal b e     why the boundary b refuses the edit e, if it does
--     after b e       the boundary after the edit e, which is as before where it is refused
--     answer o        what a caller is answered
use Rattle.std.specs.Prelude.{ℕ, ◌-◌, Bool, true, false, cond, not, ◌&&◌, ◌||◌, List, ℤ, pos, negsuc, is_some, Some, None, Ok, Err, Option, Result, ◌==◌, nat_le, nat_lt}
use Rattle.boundary.specs.declared.Point.{Point}
use Rattle.boundary.specs.declared.Boundary.{Boundary}
use Rattle.boundary.specs.declared.Edit.{Edit}
use Rattle.boundary.specs.declared.Edit.TheVariants.{Mvfs, Kvfs, Mev, Kev, Mef, Kef, Kemr, Mekr, Kfmrh, Move}
use Rattle.boundary.specs.declared.Refusal.{Refusal}
use Rattle.boundary.specs.declared.Refusal.TheVariants.{OutOfRange, Unused, Taken, Condition}
use Rattle.boundary.specs.Tables.{row, used, half_used, next, owner, mate, lone, outer_of, loop_face, faces_in, loops_in, is_half_place, place_loop}
use Rattle.boundary.specs.Operators.{named, applied, face_in}

abbrev pub code : Refusal → ℕ
code OutOfRange = 1
code Taken = 2
code Unused = 3
code Condition = 4

-- a number from 0 to n - 1
abbrev pub below : ℕ → ℤ → Bool
below n (pos k) = nat_lt k n
below n (negsuc k) = false

-- from -8,388,608 to 8,388,607
abbrev pub is_coordinate : ℤ → Bool
is_coordinate (pos k) = nat_lt k 8388608
is_coordinate (negsuc k) = nat_lt k 8388608

abbrev pub is_point : Point → Bool
is_point p = is_coordinate p.x && (is_coordinate p.y && is_coordinate p.z)

abbrev pub is_shell : ℤ → Bool
is_shell = below 8

abbrev pub is_face : ℤ → Bool
is_face = below 96

abbrev pub is_loop : ℤ → Bool
is_loop = below 96

abbrev pub is_edge : ℤ → Bool
is_edge = below 192

abbrev pub is_vertex : ℤ → Bool
is_vertex = below 128

abbrev pub is_half : ℤ → Bool
is_half = below 384

-- a half-edge, or a loop with 512 added
abbrev pub is_place : ℤ → Bool
is_place (pos k) = nat_lt k 384 || (nat_le 512 k && nat_lt k 608)
is_place (negsuc k) = false

-- what the place names is used
abbrev pub place_used : Boundary → ℕ → Bool
place_used b a = cond (is_half_place a) (half_used b a) (used b.loops (a - 512))

-- a half-edge, or a loop that has a lone vertex
abbrev pub has_vertex : Boundary → ℕ → Bool
has_vertex b a = cond (is_half_place a) true (is_some (lone b (a - 512)))

abbrev pub free : {X : Type 0} → List (Option X) → ℕ → Bool
free t k = not (used t k)

-- where the test fails that is the reason, else what follows
abbrev pub unless : Bool → Refusal → Option Refusal → Option Refusal
unless true why others = others
unless false why others = Some why

abbrev pub in_range : Edit → Bool
in_range (Mvfs a f l v p) = is_shell a && (is_face f && (is_loop l && (is_vertex v && is_point p)))
in_range (Kvfs a) = is_shell a
in_range (Mev a k v p) = is_place a && (is_edge k && (is_vertex v && is_point p))
in_range (Kev h) = is_half h
in_range (Mef h j k f l) = is_half h && (is_half j && (is_edge k && (is_face f && is_loop l)))
in_range (Kef h) = is_half h
in_range (Kemr h l) = is_half h && is_loop l
in_range (Mekr a c k) = is_place a && (is_place c && is_edge k)
in_range (Kfmrh f g) = is_face f && is_face g
in_range (Move v p) = is_vertex v && is_point p

abbrev pub mvfs_refusal : Boundary → ℕ → ℕ → ℕ → ℕ → Option Refusal
mvfs_refusal b a f l v = unless (free b.shells a && (free b.faces f && (free b.loops l && free b.vertices v))) Taken None

-- one face, which has one loop, which has a lone vertex
abbrev pub is_minimal : Boundary → ℕ → Bool
is_minimal b a = faces_in b a == 1 && (loops_in b (face_in b a) == 1 && is_some (lone b (outer_of (row b.faces (face_in b a)))))

abbrev pub kvfs_refusal : Boundary → ℕ → Option Refusal
kvfs_refusal b a = unless (used b.shells a) Unused (unless (is_minimal b a) Condition None)

abbrev pub mev_refusal : Boundary → ℕ → ℕ → ℕ → Option Refusal
mev_refusal b a k v =
    unless (place_used b a) Unused
    (unless (free b.edges k && free b.vertices v) Taken
    (unless (has_vertex b a) Condition None))

abbrev pub kev_refusal : Boundary → ℕ → Option Refusal
kev_refusal b h = unless (half_used b h) Unused (unless (next b h == mate h) Condition None)

abbrev pub mef_refusal : Boundary → ℕ → ℕ → ℕ → ℕ → ℕ → Option Refusal
mef_refusal b h j k f l =
    unless (half_used b h && half_used b j) Unused
    (unless (free b.edges k && (free b.faces f && free b.loops l)) Taken
    (unless (not (h == j) && owner b h == owner b j) Condition None))

-- h and its mate lie on two loops, and the face of h has no other loop
abbrev pub kef_refusal : Boundary → ℕ → Option Refusal
kef_refusal b h =
    unless (half_used b h) Unused
    (unless (not (owner b h == owner b (mate h)) && loops_in b (loop_face b (owner b h)) == 1) Condition None)

abbrev pub kemr_refusal : Boundary → ℕ → ℕ → Option Refusal
kemr_refusal b h l =
    unless (half_used b h) Unused
    (unless (free b.loops l) Taken
    (unless (owner b h == owner b (mate h)) Condition None))

-- two loops of one face, the second not its outer one
abbrev pub are_joinable : Boundary → ℕ → ℕ → Bool
are_joinable b l i = not (l == i) && (loop_face b l == loop_face b i && not (outer_of (row b.faces (loop_face b i)) == i))

abbrev pub mekr_refusal : Boundary → ℕ → ℕ → ℕ → Option Refusal
mekr_refusal b a c k =
    unless (place_used b a && place_used b c) Unused
    (unless (free b.edges k) Taken
    (unless (has_vertex b a && (has_vertex b c && are_joinable b (place_loop b a) (place_loop b c))) Condition None))

abbrev pub kfmrh_refusal : Boundary → ℕ → ℕ → Option Refusal
kfmrh_refusal b f g =
    unless (used b.faces f && used b.faces g) Unused
    (unless (not (f == g) && loops_in b g == 1) Condition None)

abbrev pub move_refusal : Boundary → ℕ → Option Refusal
move_refusal b v = unless (used b.vertices v) Unused None

-- the refusal of an edit whose numbers are in range
unfoldable pub refusal_within : Boundary → Edit → Option Refusal
refusal_within b (Mvfs a f l v p) = mvfs_refusal b (named a) (named f) (named l) (named v)
refusal_within b (Kvfs a) = kvfs_refusal b (named a)
refusal_within b (Mev a k v p) = mev_refusal b (named a) (named k) (named v)
refusal_within b (Kev h) = kev_refusal b (named h)
refusal_within b (Mef h j k f l) = mef_refusal b (named h) (named j) (named k) (named f) (named l)
refusal_within b (Kef h) = kef_refusal b (named h)
refusal_within b (Kemr h l) = kemr_refusal b (named h) (named l)
refusal_within b (Mekr a c k) = mekr_refusal b (named a) (named c) (named k)
refusal_within b (Kfmrh f g) = kfmrh_refusal b (named f) (named g)
refusal_within b (Move v p) = move_refusal b (named v)

unfoldable pub refusal : Boundary → Edit → Option Refusal
refusal b e = unless (in_range e) OutOfRange (refusal_within b e)

abbrev pub unchanged : {X : Type 0} → Option Refusal → X → X → X
unchanged None old new = new
unchanged (Some why) old new = old

unfoldable pub after : Boundary → Edit → Boundary
after b e = unchanged (refusal b e) b (applied b e)

abbrev pub answer : Option Refusal → Result (Unit {0}) Refusal
answer None = Ok tt
answer (Some why) = Err why
