-- A loop that walks the run from `from` to just before `to` and gives each half-edge that it passes the loop l.
use Rattle.std.proofs.Common.{◌≡◌, ℕ, suc, ◌+◌, ◌-◌, ◌<◌, ◌≤◌, ◌≢◌, List, [], ◌∷◌, Option, sym, refl, ap, ◌∙◌, arith}
use Rattle.boundary.specs.declared.Edge.{Edge}
use Rattle.boundary.specs.declared.HalfEdge.{HalfEdge}
use Rattle.boundary.specs.Tables.{half_in, next_in, run}
use Rattle.boundary.specs.Changes.{owned_one, owned_in}
use Rattle.boundary.proofs.Rows.{next_owned, run_on, run_ends, run_none}

-- after i turns, at h: what is left of the run gives what the whole run gives, and each half-edge leads where it led
pub record Owning (old es : List (Option Edge)) (from to l i h : ℕ) : Type 0 where
  pub same : (j : ℕ) → next_in es j ≡ next_in old j
  pub rest : owned_in es (run (next_in old) (384 - i) h to) l ≡ owned_in old (run (next_in old) 384 from to) l

module _ (old : List (Option Edge)) (from to l : ℕ) where
  pub owning_starts : Owning old old from to l 0 from
  owning_starts = record { same = λ j. refl; rest = refl }

  pub owning_goes : (es new : List (Option Edge)) (i h : ℕ) (at : HalfEdge) → Owning old es from to l i h → i < 384 → h ≢ to → new ≡ owned_one es h l → at ≡ half_in new h → Owning old new from to l (i + 1) at.next
  owning_goes es new i h at o lt apart is read = record {
    same = λ j. ap (λ x. next_in x j) is ∙ next_owned es h l j ∙ o.same j;
    rest = ap (λ k. owned_in new (run (next_in old) (384 - (i + 1)) k to) l) leads ∙ ap (λ x. owned_in x (run (next_in old) (384 - (i + 1)) (next_in old h) to) l) is ∙ ap (λ hs. owned_in es hs l) (sym whole) ∙ o.rest;
  }
    where
      leads : at.next ≡ next_in old h
      leads = ap (λ x. x.next) read ∙ ap (λ x. next_in x h) is ∙ next_owned es h l h ∙ o.same h

      whole : run (next_in old) (384 - i) h to ≡ h ∷ run (next_in old) (384 - (i + 1)) (next_in old h) to
      whole = let e : 384 - i ≡ suc (384 - (i + 1)) = omega arith in rw e (run_on (next_in old) (384 - (i + 1)) h to apart)

  pub owning_meets : (es : List (Option Edge)) (i h : ℕ) → Owning old es from to l i h → h ≡ to → es ≡ owned_in old (run (next_in old) 384 from to) l
  owning_meets es i h o same = ap (λ hs. owned_in es hs l) (sym (run_ends (next_in old) (384 - i) h to same)) ∙ o.rest

  pub owning_ends : (es : List (Option Edge)) (i h : ℕ) → Owning old es from to l i h → 384 ≤ i → es ≡ owned_in old (run (next_in old) 384 from to) l
  owning_ends es i h o far = ap (λ hs. owned_in es hs l) (sym none) ∙ o.rest
    where
      none : run (next_in old) (384 - i) h to ≡ []
      none = let e : 384 - i ≡ 0 = omega arith in rw e (run_none (next_in old) h to)
