-- How batches lie in blocks: how many they take, and one edit or one batch more.
use Rattle.std.proofs.Common.{◌≡◌, ℕ, suc, ◌+◌, ◌≤◌, List, [], ◌∷◌, ◌++◌, length, sym, refl, ap, ◌∙◌, append_assoc, append-nil, arith, length-append}
use Rattle.boundary.specs.declared.Edit.{Edit}
use Rattle.records.specs.declared.Record.TheVariants.{Change, Closing}
use Rattle.standing.specs.Batches.{changes, laid, blocks, all_edits, Sized}

pub length_changes : (n p : ℕ) (es : List Edit) → length (changes n p es) ≡ length es
length_changes n p [] = refl
length_changes n p (e ∷ es) = ap suc (length_changes n (p + 1) es)

pub length_laid : (n : ℕ) (bs : List (List Edit)) → length (laid n bs) ≡ blocks bs
length_laid n [] = refl
length_laid n (es ∷ bs) = omega (arith, length-append (changes n 0 es) (Closing n (length es) ∷ laid (n + 1) bs), length_changes n 0 es, length_laid (n + 1) bs)

-- each batch takes a block and more
pub few_blocks : (bs : List (List Edit)) → length bs ≤ blocks bs
few_blocks [] = omega arith
few_blocks (es ∷ bs) = omega (arith, few_blocks bs)

pub changes_more : (n p : ℕ) (es : List Edit) (e : Edit) → changes n p (es ++ e ∷ []) ≡ changes n p es ++ Change n (p + length es) e ∷ []
changes_more n p [] e = let z : p + 0 ≡ p = omega arith in rw z
changes_more n p (x ∷ es) e =
    let z : p + 1 + length es ≡ p + suc (length es) = omega arith in
    ap (λ rs. Change n p x ∷ rs) (rw z at (changes_more n (p + 1) es e))

pub laid_more : (n : ℕ) (bs : List (List Edit)) (es : List Edit) → laid n (bs ++ es ∷ []) ≡ laid n bs ++ (changes (length bs + n) 0 es ++ Closing (length bs + n) (length es) ∷ [])
laid_more n [] es = let z : 0 + n ≡ n = omega arith in rw z
laid_more n (xs ∷ bs) es =
    let z : length bs + (n + 1) ≡ suc (length bs) + n = omega arith in
    let h : laid (n + 1) (bs ++ es ∷ []) ≡ laid (n + 1) bs ++ (changes (suc (length bs) + n) 0 es ++ Closing (suc (length bs) + n) (length es) ∷ []) = rw z at (laid_more (n + 1) bs es) in
    ap (λ rs. changes n 0 xs ++ Closing n (length xs) ∷ rs) h ∙ sym (append_assoc (changes n 0 xs) (Closing n (length xs) ∷ laid (n + 1) bs) _)

pub blocks_more : (bs : List (List Edit)) (es : List Edit) → blocks (bs ++ es ∷ []) ≡ blocks bs + length es + 1
blocks_more [] es = omega arith
blocks_more (xs ∷ bs) es = omega (arith, blocks_more bs es)

pub all_edits_more : (bs : List (List Edit)) (es : List Edit) → all_edits (bs ++ es ∷ []) ≡ all_edits bs ++ es
all_edits_more [] es = append-nil es
all_edits_more (xs ∷ bs) es = ap (λ ys. xs ++ ys) (all_edits_more bs es) ∙ sym (append_assoc xs (all_edits bs) es)

pub sized_more : (bs : List (List Edit)) (es : List Edit) → Sized bs → 1 ≤ length es → length es ≤ 16 → Sized (bs ++ es ∷ [])
sized_more [] es sized some few = (some, few, tt)
sized_more (xs ∷ bs) es sized some few = (sized.0, sized.1, sized_more bs es sized.2 some few)
