-- Each of the small tables breaks its rule.
use Rattle.std.proofs.Common.{◌≡◌, ℕ, zero, suc, sym, refl, ap, ◌∙◌, arith}
use Rattle.boundary.specs.Tables.{next}
use Rattle.rings.specs.Rings.{walk, Reaches}
use Rattle.rules.specs.Rules.{turn}
use Rattle.rules.specs.Broken.{Broken, two_rings, two_turns}

-- a step that stays where it is reaches nothing else
stays : (f : ℕ → ℕ) (h n : ℕ) → f h ≡ h → walk f n h ≡ h
stays f h zero e = refl
stays f h (suc n) e = ap f (stays f h n e) ∙ e

apart : (f : ℕ → ℕ) → f 0 ≡ 0 → Reaches f 0 1 → ⊥
apart f e r = let z : ◌≡◌ {A = ℕ} 0 1 = sym (stays f 0 r.steps e) ∙ r.arrives in omega arith

pub broken : Broken
broken = record {
  sizes = λ s. let z : ◌≡◌ {A = ℕ} 0 8 = s.shells in omega arith;
  named = λ r. r.start_used 0 tt;
  continues = λ r. let z : ◌≡◌ {A = ℕ} 0 1 = r.goes_on 0 tt in omega arith;
  loops = λ r. apart (next two_rings) refl (r.one_ring 0 1 tt tt refl);
  vertices = λ r. apart (turn two_turns) refl (r.one_ring 0 1 tt tt refl);
  lone = λ r. (r.else_half_edge 0 tt refl).1;
  outer = λ r. (r.some_face 0 tt).1;
  one_shell = λ r. let z : ◌≡◌ {A = ℕ} 0 1 = r 0 tt in omega arith;
  balanced = λ r. let z : ◌≡◌ {A = ℕ} 1 0 = r in omega arith;
}
