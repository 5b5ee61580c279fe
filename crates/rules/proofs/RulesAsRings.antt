-- The rules of a boundary as rings of its half-edges, and back.
use Rattle.std.proofs.Common.{◌≡◌, ℕ, ◌<◌, ◌≢◌, ◌⊎◌, Some, sym, ap, ◌∙◌}
use Rattle.boundary.specs.declared.Boundary.{Boundary}
use Rattle.boundary.specs.Tables.{start, next, owner, mate, lone}
use Rattle.rings.specs.Rings.{Rings}
use Rattle.rings.specs.Euler.{Paired}
use Rattle.rings.proofs.Facts.{injective}
use Rattle.rules.specs.Rules.{Used, turn, Continues, LoopRings, VertexRings, Sound, Has}
use Rattle.rules.proofs.Halves.{mate_mate, used_mate, used_small}
use Rattle.rules.proofs.Rows.{has_apart}

-- the loop l has a half-edge, and the vertex v is a start, or lone
abbrev pub HasHalf : Boundary → ℕ → Type 0
HasHalf b l = (h : ℕ) × Used b h × (owner b h ≡ l)

abbrev pub Placed : Boundary → ℕ → Type 0
Placed b v = ((h : ℕ) × Used b h × (start b h ≡ v)) ⊎ ((l : ℕ) × (lone b l ≡ Some v))

pub paired : (b : Boundary) → Paired mate (Used b)
paired b = record { in_use = used_mate b; back = λ h u. mate_mate h }

pub loop_rings : (b : Boundary) → Sound b → Rings (next b) (Used b) (owner b)
loop_rings b s = record { closed = s.named.next_used; label = s.loops.stays; one_ring = s.loops.one_ring }

pub vertex_rings : (b : Boundary) → Sound b → Rings (turn b) (Used b) (start b)
vertex_rings b s = record {
  closed = λ h u. s.named.next_used (mate h) (used_mate b h u);
  label = λ h u. s.continues.goes_on (mate h) (used_mate b h u) ∙ ap (start b) (mate_mate h);
  one_ring = s.vertices.one_ring;
}

pub half_below : (b : Boundary) → Sound b → (h : ℕ) → Used b h → h < 384
half_below b s = used_small b s.sizes.edges

-- no half-edge lies on a loop that is not used, or that has a lone vertex
pub owner_not_free : (b : Boundary) → Sound b → (l : ℕ) → (Has b.loops l → ⊥) → (h : ℕ) → Used b h → owner b h ≢ l
owner_not_free b s l free h u = has_apart b.loops (owner b h) l (s.named.owner_used h u) free

pub lone_not_owner : (b : Boundary) → Sound b → (h : ℕ) → Used b h → (l v : ℕ) → lone b l ≡ Some v → l ≢ owner b h
lone_not_owner b s h u l v e q = s.lone.lone_alone l v h e u (sym q)

-- back: the rules that such rings give
pub loop_rings_by : (b : Boundary) → Rings (next b) (Used b) (owner b) → LoopRings b
loop_rings_by b r = record { stays = r.label; one_ring = r.one_ring }

pub vertex_rings_by : (b : Boundary) → Rings (turn b) (Used b) (start b) → VertexRings b
vertex_rings_by b r = record { one_ring = r.one_ring }

-- the half-edge after h starts where h ends, since the step round a vertex stays at it
pub goes_on_by : (b : Boundary) → Rings (turn b) (Used b) (start b) → (h : ℕ) → Used b h → start b (next b h) ≡ start b (mate h)
goes_on_by b r h u = ap (λ i. start b (next b i)) (sym (mate_mate h)) ∙ r.label (mate h) (used_mate b h u)

pub continues_by : (b : Boundary) → Rings (next b) (Used b) (owner b) → Rings (turn b) (Used b) (start b) → Continues b
continues_by b r v = record { goes_on = goes_on_by b v; apart = injective r }
