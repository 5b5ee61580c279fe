-- The eight rules that a sound boundary keeps, each under its own name.
--     Sizes         the tables have their fixed lengths
--     Named         1: what a used row names is used
--     Continues     2: the half-edge after h starts where h ends, and no two have the same after them
--     LoopRings     3: the half-edges of a loop make one ring under next
--     VertexRings   4: the half-edges that start at a vertex make one ring under the step from h to the one after its mate
--     LoneVertices  5: a loop has a lone vertex or half-edges, and a used vertex is lone on one loop or a start, not both
--     Outer         6: a face's outer loop lies in it, and every used shell has a face
--     OneShell      7: the loops of two mates lie in faces of one shell
--     Balanced      8: v - e + f - r = 2 (s - h), where r = l - f
--     Sound         all of them
use Rattle.std.specs.Prelude.{◌≡◌, ℕ, ◌+◌, ◌*◌, T, ◌≢◌, ◌⊎◌, List, length, Some, None, Option}
use Rattle.boundary.specs.declared.Boundary.{Boundary}
use Rattle.boundary.specs.Tables.{row, used, count, half_used, start, next, owner, mate, lone, outer_of, loop_face, face_shell, loop_shell}
use Rattle.rings.specs.Rings.{Reaches}

-- the row k of a table is used
abbrev pub Has : {X : Type 0} → List (Option X) → ℕ → Type 0
Has t k = T (used t k)

-- the half-edge h is used: its edge is, so its mate is used too
abbrev pub Used : Boundary → ℕ → Type 0
Used b h = T (half_used b h)

-- the step round a vertex
abbrev pub turn : Boundary → ℕ → ℕ
turn b h = next b (mate h)

pub record Sizes (b : Boundary) : Type 0 where
  pub shells : length b.shells ≡ 8
  pub faces : length b.faces ≡ 96
  pub loops : length b.loops ≡ 96
  pub edges : length b.edges ≡ 192
  pub vertices : length b.vertices ≡ 128

pub record Named (b : Boundary) : Type 0 where
  pub start_used : (h : ℕ) → Used b h → Has b.vertices (start b h)
  pub next_used : (h : ℕ) → Used b h → Used b (next b h)
  pub owner_used : (h : ℕ) → Used b h → Has b.loops (owner b h)
  pub lone_used : (l v : ℕ) → lone b l ≡ Some v → Has b.vertices v
  pub face_used : (l : ℕ) → Has b.loops l → Has b.faces (loop_face b l)
  pub shell_used : (f : ℕ) → Has b.faces f → Has b.shells (face_shell b f)
  pub outer_used : (f : ℕ) → Has b.faces f → Has b.loops (outer_of (row b.faces f))

pub record Continues (b : Boundary) : Type 0 where
  pub goes_on : (h : ℕ) → Used b h → start b (next b h) ≡ start b (mate h)
  pub apart : (h k : ℕ) → Used b h → Used b k → next b h ≡ next b k → h ≡ k

pub record LoopRings (b : Boundary) : Type 0 where
  pub stays : (h : ℕ) → Used b h → owner b (next b h) ≡ owner b h
  pub one_ring : (h k : ℕ) → Used b h → Used b k → owner b h ≡ owner b k → Reaches (next b) h k

pub record VertexRings (b : Boundary) : Type 0 where
  pub one_ring : (h k : ℕ) → Used b h → Used b k → start b h ≡ start b k → Reaches (turn b) h k

pub record LoneVertices (b : Boundary) : Type 0 where
  pub lone_alone : (l v h : ℕ) → lone b l ≡ Some v → Used b h → owner b h ≢ l
  pub else_half_edge : (l : ℕ) → Has b.loops l → lone b l ≡ None → (h : ℕ) × Used b h × (owner b h ≡ l)
  pub start_or_lone : (v : ℕ) → Has b.vertices v → ((h : ℕ) × Used b h × (start b h ≡ v)) ⊎ ((l : ℕ) × (lone b l ≡ Some v))
  pub one_loop : (l m v : ℕ) → lone b l ≡ Some v → lone b m ≡ Some v → l ≡ m
  pub not_both : (l v h : ℕ) → lone b l ≡ Some v → Used b h → start b h ≢ v

pub record Outer (b : Boundary) : Type 0 where
  pub lies_in : (f : ℕ) → Has b.faces f → loop_face b (outer_of (row b.faces f)) ≡ f
  pub some_face : (s : ℕ) → Has b.shells s → (f : ℕ) × Has b.faces f × (face_shell b f ≡ s)

abbrev pub OneShell : Boundary → Type 0
OneShell b = (h : ℕ) → Used b h → loop_shell b (owner b h) ≡ loop_shell b (owner b (mate h))

-- with nothing taken away: v + 2 f + 2 h = e + l + 2 s
abbrev pub Balanced : Boundary → Type 0
Balanced b = count b.vertices + 2 * count b.faces + 2 * b.handles ≡ count b.edges + count b.loops + 2 * count b.shells

pub record Sound (b : Boundary) : Type 0 where
  pub sizes : Sizes b
  pub named : Named b
  pub continues : Continues b
  pub loops : LoopRings b
  pub vertices : VertexRings b
  pub lone : LoneVertices b
  pub outer : Outer b
  pub one_shell : OneShell b
  pub balanced : Balanced b
