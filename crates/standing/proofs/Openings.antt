-- What is found in a journal that holds batches: those batches, and where all their edits are accepted, the solid that they build.
use Rattle.std.proofs.Common.{◌≡◌, ℕ, suc, ◌+◌, ◌<◌, ◌≤◌, List, [], ◌∷◌, ◌++◌, map, length, get_or, drop, Some, None, Ok, Err, Option, Result, sym, refl, ap, ◌∙◌, subst, append-nil, arith, length-drop}
use Rattle.std.proofs.lemmas.List.Prefix.{front_from_reads}
use Rattle.std.proofs.lemmas.List.{length-map, get_or-drop, get_or-map}
use Rattle.boundary.specs.declared.Boundary.{Boundary}
use Rattle.boundary.specs.declared.Edit.{Edit}
use Rattle.boundary.specs.declared.Refusal.{Refusal}
use Rattle.boundary.specs.Operators.{empty}
use Rattle.boundary.specs.Refusals.{after}
use Rattle.disk.specs.declared.Content.{Content}
use Rattle.disk.specs.declared.Content.TheVariants.{Unreadable}
use Rattle.faults.specs.declared.SolidFault.{SolidFault}
use Rattle.faults.specs.declared.SolidFault.TheVariants.{Refused}
use Rattle.faults.specs.declared.JournalFault.{JournalFault}
use Rattle.faults.specs.declared.JournalFault.TheVariants.{Unfit}
use Rattle.records.specs.declared.Record.{Record}
use Rattle.rules.specs.Histories.{after_all}
use Rattle.rules.proofs.Accepted.{accepted}
use Rattle.standing.specs.Batches.{laid, blocks, all_edits, Sized, InRange, Accepted}
use Rattle.standing.specs.Standing.{record_in, scan, standing}
use Rattle.standing.specs.Openings.{Found, applied_all, position_of, outcome, opening}
use Rattle.standing.specs.Pictures.{no_record, Old, Holds}
use Rattle.standing.proofs.Layouts.{length_laid}
use Rattle.standing.proofs.Scans.{scan_laid, scan_old}

pub accepted_in_range : (b : Boundary) (es : List Edit) → Accepted b es → InRange es
accepted_in_range b [] a = tt
accepted_in_range b (e ∷ es) a = ((accepted b e a.0).0, accepted_in_range (after b e) es a.1)

pub after_all_append : (b : Boundary) (xs ys : List Edit) → after_all b (xs ++ ys) ≡ after_all (after_all b xs) ys
after_all_append b [] ys = refl
after_all_append b (x ∷ xs) ys = after_all_append (after b x) xs ys

-- a list is accepted exactly where its front is, and then its back
pub accepted_append : (b : Boundary) (xs ys : List Edit) → Accepted b xs → Accepted (after_all b xs) ys → Accepted b (xs ++ ys)
accepted_append b [] ys f g = g
accepted_append b (x ∷ xs) ys f g = (f.0, accepted_append (after b x) xs ys f.1 g)

pub accepted_front : (b : Boundary) (xs ys : List Edit) → Accepted b (xs ++ ys) → Accepted b xs
accepted_front b [] ys a = tt
accepted_front b (x ∷ xs) ys a = (a.0, accepted_front (after b x) xs ys a.1)

pub accepted_back : (b : Boundary) (xs ys : List Edit) → Accepted b (xs ++ ys) → Accepted (after_all b xs) ys
accepted_back b [] ys a = a
accepted_back b (x ∷ xs) ys a = accepted_back (after b x) xs ys a.1

pub accepted_all : (b : Boundary) (i : ℕ) (es : List Edit) → Accepted b es → applied_all b i es ≡ Ok (after_all b es)
accepted_all b i [] a = refl
accepted_all b i (e ∷ es) a =
    ap (λ (o : Option Refusal). elim o as (λ _. Result Boundary SolidFault) [ None ↦ applied_all (after b e) (i + 1) es | Some why ↦ Err (Refused why i) ]) a.0
    ∙ accepted_all (after b e) (i + 1) es a.1

-- what is found where the edits of the first batch gave r
abbrev pub found_after : ℕ → ℕ → List Edit → List (List Edit) → Result Boundary SolidFault → Result Found JournalFault
found_after t n es bs r = elim r [ Ok b ↦ outcome (t + length es + 1) (n + 1) b bs | Err fault ↦ Err (Unfit (t + position_of fault) fault) ]

abbrev found_at : Boundary → ℕ → ℕ → Result Found JournalFault
found_at b n t = Ok (record { boundary = b; batches = n; tail = t })

pub accepted_outcome : (t n : ℕ) (b : Boundary) (bs : List (List Edit)) → Accepted b (all_edits bs)
    → outcome t n b bs ≡ Ok (record { boundary = after_all b (all_edits bs); batches = n + length bs; tail = t + blocks bs })
accepted_outcome t n b [] a = let x : n + 0 ≡ n = omega arith in let y : t + 0 ≡ t = omega arith in rw (x, y)
accepted_outcome t n b (es ∷ bs) a =
    let x : n + 1 + length bs ≡ n + suc (length bs) = omega arith in
    let y : t + length es + 1 + blocks bs ≡ t + (length es + 1 + blocks bs) = omega arith in
    ap (found_after t n es bs) (accepted_all b 0 es (accepted_front b es (all_edits bs) a))
    ∙ accepted_outcome (t + length es + 1) (n + 1) (after_all b es) bs (accepted_back b es (all_edits bs) a)
    ∙ same_found (sym (after_all_append b es (all_edits bs))) x y
  where
    same_found : {b c : Boundary} {m n t u : ℕ} → b ≡ c → m ≡ n → t ≡ u → found_at b m t ≡ found_at c n u
    same_found p q r = cc

-- where the blocks begin with the records of batches and no later closing record stands behind them, those batches are what stands
laid_stands : (bs : List (List Edit)) (cs : List Content) → Sized bs → blocks bs ≤ length cs → ((k : ℕ) → k < blocks bs → record_in (get_or cs k Unreadable) ≡ Some (get_or (laid 1 bs) k no_record))
    → ((k : ℕ) → blocks bs ≤ k → k < length cs → Old (length bs) (record_in (get_or cs k Unreadable))) → standing cs ≡ bs
laid_stands bs cs sized room front behind =
    ap (scan 1 []) (front_from_reads None all laid_in (omega (arith, laid_long, long)) at_front)
    ∙ scan_laid 1 bs rest sized
    ∙ ap (λ l. bs ++ l) (scan_old (length bs) (1 + length bs) [] rest (omega arith) at_rest)
    ∙ append-nil bs
  where
    all : List (Option Record)
    all = map record_in cs

    laid_in : List (Option Record)
    laid_in = map Some (laid 1 bs)

    rest : List (Option Record)
    rest = drop (length laid_in) all

    long : length all ≡ length cs
    long = length-map cs record_in

    laid_long : length laid_in ≡ blocks bs
    laid_long = length-map (laid 1 bs) Some ∙ length_laid 1 bs

    at : (k : ℕ) → k < length cs → get_or all k None ≡ record_in (get_or cs k Unreadable)
    at k lt = get_or-map record_in cs k Unreadable None lt

    at_front : (k : ℕ) → k < length laid_in → get_or all k None ≡ get_or laid_in k None
    at_front k lt =
        let l : k < blocks bs = omega (arith, laid_long) in
        at k (omega arith) ∙ front k l ∙ sym (get_or-map Some (laid 1 bs) k no_record None (omega (arith, length_laid 1 bs)))

    at_rest : (k : ℕ) → k < length rest → Old (length bs) (get_or rest k None)
    at_rest k lt =
        let i : length laid_in + k < length cs = omega (arith, length-drop (length laid_in) all, long) in
        subst (Old (length bs)) (sym (get_or-drop (length laid_in) all k None ∙ at (length laid_in + k) i)) (behind (length laid_in + k) (omega (arith, laid_long)) i)

module _ {S : Type 0} (reads : S → List Content) (may : S → ℕ → Content → Type 0) (stands : (d : S) (k : ℕ) → k < length (reads d) → may d k (get_or (reads d) k Unreadable)) where
  pub holds_standing : (bs : List (List Edit)) (d : S) → Holds reads may bs d → Sized bs → standing (reads d) ≡ bs
  holds_standing bs d h sized = laid_stands bs (reads d) sized h.room
      (λ k lt. let z : 0 + k ≡ k = omega arith in h.stand k (omega (arith, length_laid 1 bs)) (get_or (reads d) k Unreadable) (rw z (stands d k (omega (arith, h.room)))))
      (λ k le lt. h.behind k le lt (get_or (reads d) k Unreadable) (stands d k lt))

  pub holds_opening : (bs : List (List Edit)) (d : S) → Holds reads may bs d → Sized bs → Accepted empty (all_edits bs)
      → opening (reads d) ≡ Ok (record { boundary = after_all empty (all_edits bs); batches = length bs; tail = blocks bs })
  holds_opening bs d h sized a =
      let x : 0 + length bs ≡ length bs = omega arith in
      let y : 0 + blocks bs ≡ blocks bs = omega arith in
      ap (outcome 0 0 empty) (holds_standing bs d h sized) ∙ (rw (x, y) at (accepted_outcome 0 0 empty bs a))
