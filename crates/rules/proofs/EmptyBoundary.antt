-- No row of the empty boundary is used, so each rule but the sizes and the balance has nothing to hold of.
use Rattle.std.proofs.Common.{◌≡◌, ℕ, ◌/◌, replicate, Some, None, Option, refl, ◌∙◌, arith}
use Rattle.std.proofs.lemmas.List.{length-replicate}
use Rattle.boundary.specs.declared.Edge.{Edge}
use Rattle.boundary.specs.declared.Loop.{Loop}
use Rattle.boundary.specs.declared.Face.{Face}
use Rattle.boundary.specs.declared.Shell.{Shell}
use Rattle.boundary.specs.declared.Point.{Point}
use Rattle.boundary.specs.declared.Boundary.{Boundary}
use Rattle.boundary.specs.Operators.{empty}
use Rattle.boundary.specs.Tables.{lone}
use Rattle.rules.specs.Rules.{Has, Used, Sizes, Named, Continues, LoopRings, VertexRings, LoneVertices, Outer, OneShell, Balanced, Sound}
use Rattle.rules.proofs.Rows.{has_none, lone_has}
use Rattle.rules.proofs.Counts.{count_none}

-- a boundary with no used row, of any lengths
abbrev bare : ℕ → ℕ → ℕ → ℕ → ℕ → Boundary
bare a f l e v = record { shells = replicate a None; faces = replicate f None; loops = replicate l None; edges = replicate e None; vertices = replicate v None; handles = 0 }

module _ (a f l e v : ℕ) where
  no_shell : (k : ℕ) → Has (bare a f l e v).shells k → ⊥
  no_shell k = has_none Shell a k

  no_face : (k : ℕ) → Has (bare a f l e v).faces k → ⊥
  no_face k = has_none Face f k

  no_loop : (k : ℕ) → Has (bare a f l e v).loops k → ⊥
  no_loop k = has_none Loop l k

  no_half : (h : ℕ) → Used (bare a f l e v) h → ⊥
  no_half h = has_none Edge e (h / 2)

  no_vertex : (k : ℕ) → Has (bare a f l e v).vertices k → ⊥
  no_vertex k = has_none Point v k

  no_lone : (k i : ℕ) → lone (bare a f l e v) k ≡ Some i → ⊥
  no_lone k i q = no_loop k (lone_has (bare a f l e v) k i q)

  bare_named : Named (bare a f l e v)
  bare_named = record {
    start_used = λ h u. absurd (no_half h u);
    next_used = λ h u. absurd (no_half h u);
    owner_used = λ h u. absurd (no_half h u);
    lone_used = λ k i q. absurd (no_lone k i q);
    face_used = λ k u. absurd (no_loop k u);
    shell_used = λ k u. absurd (no_face k u);
    outer_used = λ k u. absurd (no_face k u);
  }

  bare_continues : Continues (bare a f l e v)
  bare_continues = record { goes_on = λ h u. absurd (no_half h u); apart = λ h k u w q. absurd (no_half h u) }

  bare_loops : LoopRings (bare a f l e v)
  bare_loops = record { stays = λ h u. absurd (no_half h u); one_ring = λ h k u w q. absurd (no_half h u) }

  bare_vertices : VertexRings (bare a f l e v)
  bare_vertices = record { one_ring = λ h k u w q. absurd (no_half h u) }

  bare_lone : LoneVertices (bare a f l e v)
  bare_lone = record {
    lone_alone = λ k i h q u. absurd (no_half h u);
    else_half_edge = λ k u q. absurd (no_loop k u);
    start_or_lone = λ k u. absurd (no_vertex k u);
    one_loop = λ k m i q r. absurd (no_lone k i q);
    not_both = λ k i h q u. absurd (no_half h u);
  }

  bare_outer : Outer (bare a f l e v)
  bare_outer = record { lies_in = λ k u. absurd (no_face k u); some_face = λ k u. absurd (no_shell k u) }

  bare_one_shell : OneShell (bare a f l e v)
  bare_one_shell h u = absurd (no_half h u)

  bare_balanced : Balanced (bare a f l e v)
  bare_balanced = omega (arith, count_none Point v, count_none Face f, count_none Edge e, count_none Loop l, count_none Shell a)

bare_sizes : (a f l e v : ℕ) → a ≡ 8 → f ≡ 96 → l ≡ 96 → e ≡ 192 → v ≡ 128 → Sizes (bare a f l e v)
bare_sizes a f l e v pa pf pl pe pv = record {
  shells = length-replicate {A = Option Shell} a None ∙ pa;
  faces = length-replicate {A = Option Face} f None ∙ pf;
  loops = length-replicate {A = Option Loop} l None ∙ pl;
  edges = length-replicate {A = Option Edge} e None ∙ pe;
  vertices = length-replicate {A = Option Point} v None ∙ pv;
}

bare_sound : (a f l e v : ℕ) → a ≡ 8 → f ≡ 96 → l ≡ 96 → e ≡ 192 → v ≡ 128 → Sound (bare a f l e v)
bare_sound a f l e v pa pf pl pe pv = record {
  sizes = bare_sizes a f l e v pa pf pl pe pv;
  named = bare_named a f l e v;
  continues = bare_continues a f l e v;
  loops = bare_loops a f l e v;
  vertices = bare_vertices a f l e v;
  lone = bare_lone a f l e v;
  outer = bare_outer a f l e v;
  one_shell = bare_one_shell a f l e v;
  balanced = bare_balanced a f l e v;
}

pub empty_sound : Sound empty
empty_sound = bare_sound 8 96 96 192 128 refl refl refl refl refl
