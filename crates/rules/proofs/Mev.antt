-- A new edge and a new vertex, at a half-edge or at a lone vertex, keep the rules.
use Rattle.std.proofs.Common.{◌≡◌, ℕ, ◌-◌, ◌<◌, ◌≤◌, Bool, true, false, cond, ◌&&◌, ◌⊎◌, is_some, Some, None, Option, unwrap_or, sym, refl, ap, ◌∙◌, subst}
use Rattle.boundary.specs.declared.Point.{Point}
use Rattle.boundary.specs.declared.Boundary.{Boundary}
use Rattle.boundary.specs.declared.Refusal.{Refusal}
use Rattle.boundary.specs.declared.Refusal.TheVariants.{Unused, Taken, Condition}
use Rattle.boundary.specs.Tables.{is_half_place, half_used, used, lone}
use Rattle.boundary.specs.Operators.{mev, mev_before, mev_lone}
use Rattle.boundary.specs.Refusals.{free, unless, place_used, has_vertex, mev_refusal}
use Rattle.rules.specs.Rules.{Has, Used, Sound}
use Rattle.rules.proofs.Rows.{true_T, unless_none, free_not_has, some_value}
use Rattle.rules.proofs.MevBefore.{before_sound}
use Rattle.rules.proofs.MevLone.{lone_sound}
use Rattle.std.proofs.lemmas.Bool.{and_parts}

-- what an accepted edit says, at each kind of place
pub record Free (b : Boundary) (k v : ℕ) : Type 0 where
  pub edge : Has b.edges k → ⊥
  pub vertex : Has b.vertices v → ⊥

module _ (b : Boundary) (a k v : ℕ) (q : mev_refusal b a k v ≡ None) where
  abbrev after_used : Option Refusal
  after_used = unless (free b.edges k && free b.vertices v) Taken (unless (has_vertex b a) Condition None)

  place_is_used : place_used b a ≡ true
  place_is_used = (unless_none (place_used b a) Unused after_used q).0

  both_free : (free b.edges k && free b.vertices v) ≡ true
  both_free = (unless_none (free b.edges k && free b.vertices v) Taken (unless (has_vertex b a) Condition None) (unless_none (place_used b a) Unused after_used q).1).0

  pub mev_free : Free b k v
  mev_free =
      let both = and_parts (free b.edges k) (free b.vertices v) both_free in
      record { edge = free_not_has b.edges k both.0; vertex = free_not_has b.vertices v both.1 }

  place_has_vertex : has_vertex b a ≡ true
  place_has_vertex =
      (unless_none (has_vertex b a) Condition None (unless_none (free b.edges k && free b.vertices v) Taken (unless (has_vertex b a) Condition None) (unless_none (place_used b a) Unused after_used q).1).1).0

  pub mev_at_half : is_half_place a ≡ true → Used b a
  mev_at_half e = true_T (half_used b a) (sym (ap (λ c. cond c (half_used b a) (used b.loops (a - 512))) e) ∙ place_is_used)

  pub mev_at_lone : is_half_place a ≡ false → lone b (a - 512) ≡ Some (unwrap_or (lone b (a - 512)) 0)
  mev_at_lone e = some_value (lone b (a - 512)) (true_T (is_some (lone b (a - 512))) (sym (ap (λ c. cond c true (is_some (lone b (a - 512)))) e) ∙ place_has_vertex))

pub mev_keeps : (b : Boundary) (a k v : ℕ) (p : Point) → Sound b → ((a < 384) ⊎ ((512 ≤ a) × (a < 608))) → k < 192 → v < 128 → mev_refusal b a k v ≡ None → Sound (mev b a k v p)
mev_keeps b a k v p s at k-small v-small q = go (is_half_place a) refl
  where
    open_rows : Free b k v
    open_rows = mev_free b a k v q

    go : (c : Bool) → is_half_place a ≡ c → Sound (cond (is_half_place a) (mev_before b a k v p) (mev_lone b (a - 512) k v p))
    go true e = subst (λ c. Sound (cond c (mev_before b a k v p) (mev_lone b (a - 512) k v p))) (sym e) (before_sound b a k v s (mev_at_half b a k v q e) k-small open_rows.edge p open_rows.vertex v-small)
    go false e = subst (λ c. Sound (cond c (mev_before b a k v p) (mev_lone b (a - 512) k v p))) (sym e) (lone_sound b (a - 512) k v (unwrap_or (lone b (a - 512)) 0) s (mev_at_lone b a k v q e) k-small open_rows.edge p open_rows.vertex v-small)
