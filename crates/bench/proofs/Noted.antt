-- One more act done, in a loop over the acts.
use Rattle.std.proofs.Common.{◌≡◌, ℕ, zero, suc, ◌+◌, ◌<◌, List, [], ◌∷◌, ◌++◌, length, get_or, take, set, sym, refl, ap, subst, arith, add-one}
use Rattle.disk.specs.Calls.{Call}
use Rattle.disk.specs.Chains.{Chain}
use Rattle.disk.proofs.Chains.{then_one}
use Rattle.bench.specs.declared.Act.{Act}
use Rattle.bench.specs.declared.Answer.{Answer}
use Rattle.bench.specs.Steps.{call_of, calls_of}

one_more : (xs : List Act) (ys : List Answer) (i : ℕ) (d : Act) (y : Answer) → i < length xs → length xs ≡ length ys → calls_of (take (suc i) xs) (set ys i y) ≡ calls_of (take i xs) ys ++ (call_of (get_or xs i d) y ∷ [])
one_more [] ys i d y lt n = absurd (omega arith)
one_more (x ∷ xs) [] i d y lt n = absurd (omega (arith, n))
one_more (x ∷ xs) (a ∷ ys) zero d y lt n = refl
one_more (x ∷ xs) (a ∷ ys) (suc i) d y lt n = ap (λ l. call_of x a ∷ l) (one_more xs ys i d y (omega arith) (omega (arith, n)))

pub calls_more : {S : Type 0} (did : S → Call → S → Type 0) (d e z : S) (xs : List Act) (ys : List Answer) (i : ℕ) (x : Act) (y : Answer) → i < length xs → length xs ≡ length ys
    → Chain did d (calls_of (take i xs) ys) e → did e (call_of (get_or xs i x) y) z → Chain did d (calls_of (take (i + 1) xs) (set ys i y)) z
calls_more did d e z xs ys i x y lt n r h = rw add-one (subst (λ cs. Chain did d cs z) (sym (one_more xs ys i x y lt n)) (then_one r h))
