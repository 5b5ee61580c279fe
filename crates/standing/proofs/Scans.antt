-- What a scan finds: it reads back the batches that lie in the blocks, finds none where no later closing record stands, and what it finds is the longest list of batches.
use Rattle.std.proofs.Common.{◌≡◌, ℕ, suc, ◌+◌, ◌<◌, ◌≤◌, true, ◌&&◌, eqb, ltb, List, [], ◌∷◌, ◌++◌, map, length, get_or, Some, None, Option, sym, refl, ap, ◌∙◌, ap₂, append_assoc, append-nil, arith}
use Rattle.std.proofs.lemmas.List.{map-append, map_push, length_push}
use Rattle.std.proofs.lemmas.Bool.{eq-eqb, eqb-true, lt-ltb, ltb-true, and_parts, cond_both}
use Rattle.boundary.specs.declared.Edit.{Edit}
use Rattle.disk.specs.declared.Content.{Content}
use Rattle.records.specs.declared.Record.{Record}
use Rattle.records.specs.declared.Record.TheVariants.{Change, Closing}
use Rattle.standing.specs.Batches.{changes, laid, Sized}
use Rattle.standing.specs.Standing.{record_in, scan, Longest}
use Rattle.standing.specs.Pictures.{Old}
use Rattle.standing.proofs.Layouts.{changes_more}

scan_changes : (n : ℕ) (xs es : List Edit) (rs : List (Option Record)) → length xs + length es ≤ 16
    → scan n xs (map Some (changes n (length xs) es) ++ rs) ≡ scan n (xs ++ es) rs
scan_changes n xs [] rs h = ap (λ ys. scan n ys rs) (sym (append-nil xs))
scan_changes n xs (e ∷ es) rs h =
    let a : eqb n n ≡ true = eq-eqb n n refl in
    let b : eqb (length xs) (length xs) ≡ true = eq-eqb (length xs) (length xs) refl in
    let c : ltb (length xs) 16 ≡ true = lt-ltb (length xs) 16 (omega arith) in
    let l : length (xs ++ e ∷ []) ≡ length xs + 1 = length_push xs e in
    let q = scan_changes n (xs ++ e ∷ []) es rs (omega arith) in
    let q' : scan n (xs ++ e ∷ []) (map Some (changes n (length xs + 1) es) ++ rs) ≡ scan n ((xs ++ e ∷ []) ++ es) rs = rw l at q in
    rw (a, b, c) (q' ∙ ap (λ ys. scan n ys rs) (append_assoc xs (e ∷ []) es))

scan_closing : (n : ℕ) (es : List Edit) (rs : List (Option Record)) → 1 ≤ length es → scan n es (Some (Closing n (length es)) ∷ rs) ≡ es ∷ scan (n + 1) [] rs
scan_closing n es rs h =
    let a : eqb n n ≡ true = eq-eqb n n refl in
    let b : eqb (length es) (length es) ≡ true = eq-eqb (length es) (length es) refl in
    let c : ltb 0 (length es) ≡ true = lt-ltb 0 (length es) (omega arith) in
    rw (a, b, c)

-- one edit more, and the records behind it
changes_then : (n : ℕ) (es : List Edit) (e : Edit) (rs : List (Option Record)) → map Some (changes n 0 (es ++ e ∷ [])) ++ rs ≡ map Some (changes n 0 es) ++ (Some (Change n (length es) e) ∷ rs)
changes_then n es e rs =
    let z : 0 + length es ≡ length es = omega arith in
    ap (λ l. map Some l ++ rs) (rw z at (changes_more n 0 es e))
    ∙ ap (λ l. l ++ rs) (map_push Some (changes n 0 es) (Change n (length es) e))
    ∙ append_assoc (map Some (changes n 0 es)) (Some (Change n (length es) e) ∷ []) rs

-- a first batch, and the records behind it
laid_then : (n : ℕ) (es : List Edit) (bs : List (List Edit)) (rs : List (Option Record))
    → map Some (laid n (es ∷ bs)) ++ rs ≡ map Some (changes n 0 es) ++ (Some (Closing n (length es)) ∷ (map Some (laid (n + 1) bs) ++ rs))
laid_then n es bs rs =
    ap (λ l. l ++ rs) (map-append Some (changes n 0 es) (Closing n (length es) ∷ laid (n + 1) bs))
    ∙ append_assoc (map Some (changes n 0 es)) (Some (Closing n (length es)) ∷ map Some (laid (n + 1) bs)) rs

pub scan_laid : (n : ℕ) (bs : List (List Edit)) (rs : List (Option Record)) → Sized bs → scan n [] (map Some (laid n bs) ++ rs) ≡ bs ++ scan (n + length bs) [] rs
scan_laid n [] rs h = let z : n + 0 ≡ n = omega arith in rw z
scan_laid n (es ∷ bs) rs h =
    let more : List (Option Record) = map Some (laid (n + 1) bs) ++ rs in
    let z : n + 1 + length bs ≡ n + suc (length bs) = omega arith in
    let q : scan (n + 1) [] more ≡ bs ++ scan (n + suc (length bs)) [] rs = rw z at (scan_laid (n + 1) bs rs h.2) in
    ap (scan n []) (laid_then n es bs rs) ∙ scan_changes n [] es (Some (Closing n (length es)) ∷ more) (omega (arith, h.1)) ∙ scan_closing n es more h.0 ∙ ap (λ l. es ∷ l) q

-- where no closing record is numbered n or above, no batch n is made whole
pub scan_old : (b n : ℕ) (es : List Edit) (rs : List (Option Record)) → b < n → ((k : ℕ) → k < length rs → Old b (get_or rs k None)) → scan n es rs ≡ []
scan_old b n es [] lt old = refl
scan_old b n es (None ∷ rs) lt old = refl
scan_old b n es (Some (Change m p e) ∷ rs) lt old =
    let ih = scan_old b n (es ++ e ∷ []) rs lt (λ k h. old (suc k) (omega arith)) in
    cond_both (eqb m n && (eqb p (length es) && ltb (length es) 16)) (scan n (es ++ e ∷ []) rs) [] (λ l. l ≡ []) (λ q. ih) (λ q. refl)
scan_old b n es (Some (Closing m c) ∷ rs) lt old =
    cond_both (eqb m n && (eqb c (length es) && ltb 0 (length es))) (es ∷ scan (n + 1) [] rs) [] (λ l. l ≡ [])
    (λ q. absurd (omega (arith, eqb-true m n (and_parts (eqb m n) _ q).0, old 0 (omega arith)))) (λ q. refl)

passed : (m n p q l h : ℕ) → (eqb m n && (eqb p q && ltb l h)) ≡ true → (m ≡ n) × (p ≡ q) × (l < h)
passed m n p q l h t =
    let a = and_parts (eqb m n) _ t in
    let b = and_parts (eqb p q) (ltb l h) a.1 in
    (eqb-true m n a.0, eqb-true p q b.0, ltb-true l h b.1)

-- an edit that goes on with the batch is its next, and a closing record that makes the batch whole is its own
goes_on : (m n p : ℕ) (e : Edit) (es : List Edit) → (eqb m n && (eqb p (length es) && ltb (length es) 16)) ≡ true → (Change m p e ≡ Change n (length es) e) × (length es < 16)
goes_on m n p e es t = let w = passed m n p (length es) (length es) 16 t in (cc, w.2)

makes_whole : (m n c : ℕ) (es : List Edit) → (eqb m n && (eqb c (length es) && ltb 0 (length es))) ≡ true → (Closing m c ≡ Closing n (length es)) × (0 < length es)
makes_whole m n c es t = let w = passed m n c (length es) 0 (length es) t in (cc, w.2)

scan_sized : (n : ℕ) (es : List Edit) (rs : List (Option Record)) → length es ≤ 16 → Sized (scan n es rs)
scan_sized n es [] few = tt
scan_sized n es (None ∷ rs) few = tt
scan_sized n es (Some (Change m p e) ∷ rs) few =
    cond_both (eqb m n && (eqb p (length es) && ltb (length es) 16)) (scan n (es ++ e ∷ []) rs) [] Sized
    (λ t. scan_sized n (es ++ e ∷ []) rs (omega (arith, (goes_on m n p e es t).1, length_push es e))) (λ t. tt)
scan_sized n es (Some (Closing m c) ∷ rs) few =
    cond_both (eqb m n && (eqb c (length es) && ltb 0 (length es))) (es ∷ scan (n + 1) [] rs) [] Sized
    (λ t. ((makes_whole m n c es t).1, few, scan_sized (n + 1) [] rs (omega arith))) (λ t. tt)

-- the records of the edits es of batch n, with the records rs behind them, begin with those of the batches bs
abbrev BeginsAt : ℕ → List Edit → List (Option Record) → List (List Edit) → Type 0
BeginsAt n es rs bs = (rest : List (Option Record)) × (map Some (changes n 0 es) ++ rs ≡ map Some (laid n bs) ++ rest)

begins_none : (n : ℕ) (es : List Edit) (rs : List (Option Record)) → BeginsAt n es rs []
begins_none n es rs = (map Some (changes n 0 es) ++ rs, refl)

scan_begins : (n : ℕ) (es : List Edit) (rs : List (Option Record)) → BeginsAt n es rs (scan n es rs)
scan_begins n es [] = begins_none n es []
scan_begins n es (None ∷ rs) = begins_none n es (None ∷ rs)
scan_begins n es (Some (Change m p e) ∷ rs) =
    let ih = scan_begins n (es ++ e ∷ []) rs in
    cond_both (eqb m n && (eqb p (length es) && ltb (length es) 16)) (scan n (es ++ e ∷ []) rs) [] (BeginsAt n es (Some (Change m p e) ∷ rs))
    (λ t. (ih.0, ap (λ r. map Some (changes n 0 es) ++ (Some r ∷ rs)) (goes_on m n p e es t).0 ∙ sym (changes_then n es e rs) ∙ ih.1))
    (λ t. begins_none n es (Some (Change m p e) ∷ rs))
scan_begins n es (Some (Closing m c) ∷ rs) =
    let ih = scan_begins (n + 1) [] rs in
    cond_both (eqb m n && (eqb c (length es) && ltb 0 (length es))) (es ∷ scan (n + 1) [] rs) [] (BeginsAt n es (Some (Closing m c) ∷ rs))
    (λ t. (ih.0, ap₂ (λ r l. map Some (changes n 0 es) ++ (Some r ∷ l)) (makes_whole m n c es t).0 ih.1 ∙ sym (laid_then n es (scan (n + 1) [] rs) ih.0)))
    (λ t. begins_none n es (Some (Closing m c) ∷ rs))

pub longest : (cs : List Content) → Longest cs
longest cs = record {
  sized = scan_sized 1 [] (map record_in cs) (omega arith);
  begins = record { rest = (scan_begins 1 [] (map record_in cs)).0; is = (scan_begins 1 [] (map record_in cs)).1 };
  front = λ bs sized b. (scan (1 + length bs) [] b.rest, ap (scan 1 []) b.is ∙ scan_laid 1 bs b.rest sized);
}
