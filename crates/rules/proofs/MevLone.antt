-- The new edge k at a loop l with a lone vertex w: 2k and 2k + 1 become its ring, and the rules are kept.
use Rattle.std.proofs.Common.{◌≡◌, ℕ, ◌<◌, ◌≢◌, List, Some, None, Option, sym, ap, ◌∙◌, inl, inr}
use native.Mathlib.Decide.{ℕ_discrete}
use Rattle.boundary.specs.declared.Point.{Point}
use Rattle.boundary.specs.declared.Edge.{Edge}
use Rattle.boundary.specs.declared.Loop.{Loop}
use Rattle.boundary.specs.declared.Boundary.{Boundary}
use Rattle.boundary.specs.Tables.{row, lone, lone_of}
use Rattle.rules.specs.Rules.{Has, Sound}
use Rattle.rules.proofs.Rows.{none_not_some, some_same, lone_has}
use Rattle.rules.proofs.OneEdgeMore.{LoopsFor, grown, grown_sound, loops_more, vertices_more, edges_more, new_edge_is}
use Rattle.rules.proofs.Fields.{with_lone, lone_has_in, lone_has_out, lone_other_row, lone_face, lone_row, lone_length, lone_count}
use Rattle.rules.proofs.Places.{at_lone}

abbrev pub ring_edges : Boundary → ℕ → ℕ → ℕ → ℕ → List (Option Edge)
ring_edges b l k w v = edges_more b k w v l None

-- the loop l without its lone vertex
abbrev pub bare_loops : Boundary → ℕ → List (Option Loop)
bare_loops b l = with_lone b.loops l None

module _ (b : Boundary) (l k v w : ℕ) (s : Sound b) (w-lone : lone b l ≡ Some w) (k-small : k < 192) (k-free : Has b.edges k → ⊥) where
  abbrev pub ls : List (Option Loop)
  ls = bare_loops b l

  l_used : Has b.loops l
  l_used = lone_has b l w w-lone

  -- the loops then
  row_other : (m : ℕ) → m ≢ l → row ls m ≡ row b.loops m
  row_other = lone_other_row b.loops l None

  lone_gone : (m u : ℕ) → lone_of (row ls m) ≡ Some u → m ≢ l
  lone_gone m u e q = none_not_some (ap (λ i. lone_of (row ls i)) q ∙ ap lone_of (lone_row b.loops l None l_used)) e

  lone_before : (m u : ℕ) → lone_of (row ls m) ≡ Some u → lone b m ≡ Some u
  lone_before m u e = sym (ap lone_of (row_other m (lone_gone m u e))) ∙ e

  loops_for : LoopsFor b ls w l
  loops_for = record {
    size = lone_length b.loops l None;
    counted = lone_count b.loops l None l_used;
    has_in = lone_has_in b.loops l None;
    has_out = lone_has_out b.loops l None l_used;
    face_same = lone_face b.loops l None l_used;
    lone_out = lone_before;
    lone_not_w = λ m u e q. lone_gone m u e (s.lone.one_loop m l u (lone_before m u e) (w-lone ∙ ap Some (sym q)));
    lone_not_l = lone_gone;
    lone_none = λ m e. elim (ℕ_discrete m l) [ yes q ↦ inl q | no ne ↦ inr (sym (ap lone_of (row_other m ne)) ∙ e) ];
    lone_still = λ m u e. elim (ℕ_discrete m l) [
      | yes q ↦ inl (some_same e (ap (lone b) q ∙ w-lone))
      | no ne ↦ inr (ap lone_of (row_other m ne) ∙ e)
    ];
  }

  pub lone_sound : (p : Point) → (Has b.vertices v → ⊥) → v < 128 → Sound (grown b (bare_loops b l) (ring_edges b l k w v) v p)
  lone_sound p v-free v-small =
      let here = at_lone b s l w w-lone in
      grown_sound b ls (ring_edges b l k w v) k w v l p s (new_edge_is b k w v l None s k-small k-free) loops_for here.vertex_used v-free v-small l_used
      (loops_more b k w v l None s k-small k-free here)
      (vertices_more b k w v l None s k-small k-free here v-free)
