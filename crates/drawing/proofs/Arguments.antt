-- The numbers of a line, one after another.
use Rattle.std.proofs.Common.{◌≡◌, Bool, true, false, not, ℕ, suc, ◌+◌, ◌-◌, ◌<◌, ◌≤◌, List, [], ◌∷◌, ◌++◌, length, take, set, ℤ, Some, None, Option, sym, refl, ap, arith}
use Rattle.std.proofs.lemmas.List.{append_assoc, append-nil, take_more_set, take_all}
use Rattle.std.specs.Bool.{then_some}
use Rattle.std.specs.Option.{MatchOption, is_some}
use Rattle.words.specs.Words.{Part}
use Rattle.drawing.specs.Commands.{in_front, numbers}

-- the numbers ns, and then those that are to come
abbrev pub ahead : List ℤ → Option (List ℤ) → Option (List ℤ)
ahead ns None = None
ahead ns (Some ms) = Some (ns ++ ms)

onward : (ns : List ℤ) (v : ℤ) (r : Option (List ℤ)) → ahead ns (in_front (Some v) r) ≡ ahead (ns ++ v ∷ []) r
onward ns v None = refl
onward ns v (Some ms) = ap Some (sym (append_assoc ns (v ∷ []) ms))

-- the loop over the numbers of a line: i of N are taken, and ts are the tokens left
module _ (N i : ℕ) (all : List ℤ) (ts : List Part) (r : Option (List ℤ)) (sofar : ahead (take i all) (numbers (N - i) ts) ≡ r) where
  module _ (p : Part) (us : List Part) (e : ts ≡ p ∷ us) where
    pub number_taken : (v : ℤ) → i < N → length all ≡ N → p.value ≡ Some v → ahead (take (i + 1) (set all i v)) (numbers (N - (i + 1)) us) ≡ r
    number_taken v h long w =
        let one : N - i ≡ suc (N - (i + 1)) = omega arith in
        rw (take_more_set all i v (omega arith), ← onward (take i all) v (numbers (N - (i + 1)) us)) (rw (one, e, w) at sofar)

    more_left : N ≤ i → None ≡ r
    more_left h = let none : N - i ≡ 0 = omega arith in rw (none, e) at sofar

  pub all_taken : N ≤ i → length all ≡ N → ts ≡ [] → Some all ≡ r
  all_taken h long e =
      let none : N - i ≡ 0 = omega arith in
      rw (none, e, take_all i all (omega arith), append-nil all) at sofar

  -- whether a token is left decides
  pub taken : N ≤ i → length all ≡ N → {T : Type 0} (view : T → Part) (o : Option T) (us : List Part) (none : Bool) → MatchOption o ((ts ≡ []) × (us ≡ [])) (λ t. ts ≡ view t ∷ us) → is_some o ≡ not none → then_some none all ≡ r
  taken h long view None us true e is = all_taken h long e.0
  taken h long view None us false e is = absurd (let z : false ≡ true = is in cc)
  taken h long view (Some t) us true e is = absurd (let z : true ≡ false = is in cc)
  taken h long view (Some t) us false e is = more_left (view t) us e h
