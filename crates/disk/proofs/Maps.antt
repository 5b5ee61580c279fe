-- Calls and chains of calls seen through a map of states.
use Rattle.std.proofs.Common.{ℕ, List, ap, inl, inr}
use Rattle.disk.specs.declared.Content.{Content}
use Rattle.disk.specs.Calls.{Call}
use Rattle.disk.specs.Chains.{Chain, none, first}
use Rattle.disk.specs.Stops.{Stopped}

module _ {S U : Type 0} (f : S → U) (did : S → Call → S → Type 0) (did' : U → Call → U → Type 0) (h : (d : S) (c : Call) (e : S) → did d c e → did' (f d) c (f e)) where
  pub chain_map : {d e : S} {cs : List Call} → Chain did d cs e → Chain did' (f d) cs (f e)
  chain_map none = none
  chain_map (first {d} {e} {c = c} w r) = first (h d c e w) (chain_map r)

  pub stopped_map : (reads : U → List Content) (d : S) (k : ℕ) (c : Call) (e : S) (j : ℕ) → Stopped (λ s. reads (f s)) did d k c e j → Stopped reads did' (f d) k c (f e) j
  stopped_map reads d k c e j (inl w) = inl (w.0, w.1, h d c e w.2)
  stopped_map reads d k c e j (inr (inl w)) = inr (inl (w.0, w.1, ap f w.2, w.3))
  stopped_map reads d k c e j (inr (inr w)) = inr (inr (w.0, w.1, ap f w.2, w.3, w.4))
