-- The steps of the loops: what is written so far and what is left to write together are the text.
use Rattle.std.proofs.Common.{◌≡◌, ℕ, zero, suc, ◌+◌, ◌-◌, ◌<◌, ◌≤◌, Bool, true, false, cond, List, [], ◌∷◌, ◌++◌, map, length, get_or, drop, Some, None, decimal, Option, sym, refl, ap, ◌∙◌, append_assoc, append-nil, inl, inr, MatchOption, arith, eq-eqb, ne_eqb}
use Rattle.std.proofs.lemmas.List.{at_drop_more, at_drop_all}
use Rattle.std.proofs.lemmas.Bool.{cases_eq}
use Rattle.std.proofs.Output.{has_written_append, has_written_of_eq}
use Rattle.std.specs.Fmt.{HasWritten}
use Rattle.std.specs.declared.fmt.Formatter.{Formatter}
use Rattle.boundary.specs.declared.Boundary.{Boundary}
use Rattle.boundary.specs.Tables.{next, run}
use Rattle.listing.specs.declared.Counts.{Counts}
use Rattle.listing.specs.Listing.{spaced, words, counts_text, counts_line, smallest, ring, row_line, lines_from}

-- of the text `whole` all but `left` is written, which took the formatter from f to g
pub record Begun {W : Type 0} (took : W → List ℕ → W → Type 0) (f g : Formatter W) (left whole : List ℕ) : Type 0 where
  pub so_far : List ℕ
  pub wrote : HasWritten took f so_far g
  pub joined : so_far ++ left ≡ whole

module _ {W : Type 0} (took : W → List ℕ → W → Type 0) (f g : Formatter W) (left whole : List ℕ) (b : Begun took f g left whole) where
  -- the part p of what is left is written
  pub written : (h : Formatter W) (p rest : List ℕ) → left ≡ p ++ rest → HasWritten took g p h → Begun took f h rest whole
  written h p rest split w = record {
    so_far = b.so_far ++ p;
    wrote = has_written_append took f b.so_far g p h b.wrote w;
    joined = append_assoc b.so_far p rest ∙ sym (ap (λ l. b.so_far ++ l) split) ∙ b.joined;
  }

  -- nothing is left
  pub finished : left ≡ [] → HasWritten took f whole g
  finished none = has_written_of_eq took f b.so_far whole g (sym (append-nil b.so_far) ∙ sym (ap (λ l. b.so_far ++ l) none) ∙ b.joined) b.wrote

module _ {X : Type 0} (text : ℕ → X → List ℕ) (t : List (Option X)) (k : ℕ) where
  pub lines_more : (r : Option X) → k < length t → r ≡ get_or t k r → lines_from text k (drop k t) ≡ row_line text k r ++ lines_from text (k + 1) (drop (k + 1) t)
  unfolding lines_from
  lines_more r lt is = at_drop_more (lines_from text k) t k r lt ∙ ap (λ x. lines_from text k (x ∷ drop (k + 1) t)) (sym is)

  pub lines_past : length t ≤ k → lines_from text k (drop k t) ≡ []
  unfolding lines_from
  lines_past le = at_drop_all (lines_from text k) t k le

-- the first number, of the n from h on, that passes the test
pub smallest_first : (p : ℕ → Bool) (n h : ℕ) (r : Option ℕ) → MatchOption r ((k : ℕ) → h ≤ k → k < h + n → p k ≡ false) (λ i. (h ≤ i) × (i < h + n) × (p i ≡ true) × ((k : ℕ) → h ≤ k → k < i → p k ≡ false)) → r ≡ smallest p n h
unfolding smallest
smallest_first p zero h None none = refl
smallest_first p zero h (Some i) first = absurd (omega (arith, first.0, first.1))
smallest_first p (suc n) h None none =
    smallest_first p n (h + 1) None (λ k lo hi. none k (omega arith) (omega arith))
    ∙ sym (ap (λ t. cond t (Some h) (smallest p n (h + 1))) (none h (omega arith) (omega arith)))
smallest_first p (suc n) h (Some i) first = elim (cases_eq h i) [
  | inl e ↦ ap Some (sym e) ∙ sym (ap (λ t. cond t (Some h) (smallest p n (h + 1))) (ap p e ∙ first.2))
  | inr ne ↦
      smallest_first p n (h + 1) (Some i) (omega (arith, first.0), omega (arith, first.1), first.2, λ k lo hi. first.3 k (omega arith) hi)
      ∙ sym (ap (λ t. cond t (Some h) (smallest p n (h + 1))) (first.3 h (omega arith) (omega (arith, first.0))))
]

-- what is left of a ring, from h on up to just before k
unfoldable pub left : (ℕ → ℕ) → ℕ → ℕ → ℕ → List ℕ
left f n h k = spaced (map decimal (run f n h k))

pub left_stop : (f : ℕ → ℕ) (n h k : ℕ) → h ≡ k → left f n h k ≡ []
unfolding left run
left_stop f zero h k same = refl
left_stop f (suc n) h k same = ap (λ t. spaced (map decimal (cond t [] (h ∷ run f n (f h) k)))) (eq-eqb h k same)

-- c of n turns are done
pub left_past : (f : ℕ → ℕ) (n c h k : ℕ) → n ≤ c → left f (n - c) h k ≡ []
unfolding left run
left_past f n c h k le = let none : n - c ≡ 0 = omega arith in ap (λ m. left f m h k) none

left_suc : (f : ℕ → ℕ) (n h k : ℕ) → (h ≡ k → ⊥) → left f (suc n) h k ≡ (32 ∷ decimal h) ++ left f n (f h) k
unfolding left run
left_suc f n h k apart = ap (λ t. spaced (map decimal (cond t [] (h ∷ run f n (f h) k)))) (ne_eqb h k apart)

pub left_more : (f : ℕ → ℕ) (n c h g k : ℕ) → c < n → (h ≡ k → ⊥) → g ≡ f h → left f (n - c) h k ≡ (32 ∷ decimal h) ++ left f (n - (c + 1)) g k
left_more f n c h g k lt apart on =
    let one : n - c ≡ suc (n - (c + 1)) = omega arith in
    ap (λ m. left f m h k) one ∙ left_suc f (n - (c + 1)) h k apart ∙ ap (λ x. (32 ∷ decimal h) ++ left f (n - (c + 1)) x k) (sym on)

-- its first half-edge, and then the others
pub ring_is : (b : Boundary) (h : ℕ) → (32 ∷ decimal h) ++ left (next b) 383 (next b h) h ≡ spaced (map decimal (ring b h))
unfolding ring left
ring_is b h = refl

-- the words and then the line feed are the words to the end of the line
pub to_end : (ws : List (List ℕ)) → spaced ws ++ (10 ∷ []) ≡ words ws
to_end [] = refl
to_end (w ∷ ws) = append_assoc (32 ∷ w) (spaced ws) (10 ∷ []) ∙ ap (λ l. (32 ∷ w) ++ l) (to_end ws)

-- the lines of the tables, one after another
pub all_lines : (n m : Counts) → n ≡ m → (v e f l : List ℕ) → counts_text n ++ (10 ∷ (v ++ (e ++ (f ++ l)))) ≡ counts_line m ++ v ++ e ++ f ++ l
all_lines n m same v e f l =
    ap (λ k. counts_text k ++ (10 ∷ (v ++ (e ++ (f ++ l))))) same
    ∙ regroup (counts_text m)
    ∙ ap (λ c. (99 ∷ c) ++ v ++ e ++ f ++ l) (to_end (decimal m.vertices ∷ decimal m.edges ∷ decimal m.faces ∷ decimal m.loops ∷ decimal m.shells ∷ decimal m.handles ∷ []))
  where
    regroup : (c : List ℕ) → c ++ (10 ∷ (v ++ (e ++ (f ++ l)))) ≡ (c ++ (10 ∷ [])) ++ v ++ e ++ f ++ l
    regroup c = simp append_assoc
