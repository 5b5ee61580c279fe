-- The lines of an input, one after another.
use Rattle.std.proofs.Common.{◌≡◌, ℕ, ◌+◌, ◌<◌, ◌^◌, ◌≤◌, Bool, true, false, cond, eqb, List, [], ◌∷◌, ◌++◌, length, arith}
use Rattle.std.proofs.lemmas.List.{append_assoc}
use Rattle.boundary.specs.declared.Boundary.{Boundary}
use Rattle.words.specs.Words.{onto, cut, lines, tokens}
use Rattle.listing.specs.Listing.{listed}
use Rattle.drawing.specs.Drawing.{line_reply, after_line, line_shown, drawn_from}

-- one line more: the line l at the index i, with the count n of lines before it and m after
pub line_more : (i n m : ℕ) (out next : List ℕ) (b after : Boundary) (ls ms : List (List ℕ)) (l : List ℕ) (all : List ℕ) → out ++ drawn_from (n + 1) b ls ≡ all → (ls ≡ l ∷ ms) × (i ≡ n) × (m ≡ n + 1) × (i + 1 < 2 ^ 64) → next ≡ out ++ line_shown (line_reply (i + 1) b (tokens 0 l)) → after ≡ after_line b (tokens 0 l) → next ++ drawn_from (m + 1) after ms ≡ all
unfolding drawn_from
line_more i n m out next b after ls ms l all so step text left = rw (text, left, step.1, step.2, append_assoc) (rw step.0 at so)

pub drawn_all : (out : List ℕ) (n : ℕ) (b : Boundary) (ls : List (List ℕ)) (all : List ℕ) → out ++ drawn_from n b ls ≡ all → ls ≡ [] → out ++ listed b ≡ all
unfolding drawn_from
drawn_all out n b ls all so none = rw none at so

cut_length : (c : ℕ) (bs : List ℕ) → length (cut c bs) ≤ length bs + 1
cut_length c [] = omega arith
cut_length c (b ∷ bs) = go (eqb b c) (cut_length c bs)
  where
    longer : (ps : List (List ℕ)) → length (onto b ps) ≤ length ps + 1
    longer [] = omega arith
    longer (p ∷ ps) = omega arith

    go : (t : Bool) → length (cut c bs) ≤ length bs + 1 → length (cond t ([] ∷ cut c bs) (onto b (cut c bs))) ≤ length (b ∷ bs) + 1
    go true h = omega arith
    go false h = omega (arith, longer (cut c bs))

-- so many lines that their numbers fit
pub few_lines : (bs : List ℕ) → length bs ≤ 32768 → 1 + length (lines bs) ≤ 32770
few_lines bs h = omega (arith, cut_length 10 bs)

-- and so their count fits
pub countable : (bs : List ℕ) (n : ℕ) → length bs ≤ 32768 → n ≡ length (lines bs) → 0 + n < 2 ^ 64
countable bs n h is = omega (arith, few_lines bs h, is)
