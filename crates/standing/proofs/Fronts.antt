-- A front of the blocks holds a front of the batches, so that where all edits are accepted no front is refused.
use Rattle.std.proofs.Common.{◌≡◌, ℕ, ◌+◌, Bool, true, false, cond, ◌&&◌, eqb, ltb, List, [], ◌∷◌, ◌++◌, map, length, take, drop, Some, None, Err, Option, sym, refl, ap, ◌∙◌, subst, append_assoc, arith}
use Rattle.std.proofs.lemmas.List.{take-append-drop, map-append}
use Rattle.boundary.specs.declared.Edit.{Edit}
use Rattle.boundary.specs.Operators.{empty}
use Rattle.disk.specs.declared.Content.{Content}
use Rattle.faults.specs.declared.JournalFault.{JournalFault}
use Rattle.records.specs.declared.Record.{Record}
use Rattle.records.specs.declared.Record.TheVariants.{Change, Closing}
use Rattle.standing.specs.Batches.{all_edits, Accepted}
use Rattle.standing.specs.Standing.{record_in, scan, standing}
use Rattle.standing.specs.Openings.{opening}
use Rattle.standing.proofs.Openings.{accepted_front, accepted_outcome}

scan_front : (n : ℕ) (es : List Edit) (xs ys : List (Option Record)) → (more : List (List Edit)) × (scan n es (xs ++ ys) ≡ scan n es xs ++ more)
scan_front n es [] ys = (scan n es ys, refl)
scan_front n es (None ∷ xs) ys = ([], refl)
scan_front n es (Some (Change m p e) ∷ xs) ys = go (eqb m n && (eqb p (length es) && ltb (length es) 16)) (scan_front n (es ++ e ∷ []) xs ys)
  where
    go : (t : Bool) → (more : List (List Edit)) × (scan n (es ++ e ∷ []) (xs ++ ys) ≡ scan n (es ++ e ∷ []) xs ++ more) → (more : List (List Edit)) × (cond t (scan n (es ++ e ∷ []) (xs ++ ys)) [] ≡ cond t (scan n (es ++ e ∷ []) xs) [] ++ more)
    go true h = h
    go false h = ([], refl)
scan_front n es (Some (Closing m c) ∷ xs) ys = go (eqb m n && (eqb c (length es) && ltb 0 (length es))) (scan_front (n + 1) [] xs ys)
  where
    go : (t : Bool) → (more : List (List Edit)) × (scan (n + 1) [] (xs ++ ys) ≡ scan (n + 1) [] xs ++ more) → (more : List (List Edit)) × (cond t (es ∷ scan (n + 1) [] (xs ++ ys)) [] ≡ cond t (es ∷ scan (n + 1) [] xs) [] ++ more)
    go true h = (h.0, ap (λ l. es ∷ l) h.1)
    go false h = ([], refl)

all_edits_append : (xs ys : List (List Edit)) → all_edits (xs ++ ys) ≡ all_edits xs ++ all_edits ys
all_edits_append [] ys = refl
all_edits_append (es ∷ xs) ys = ap (λ l. es ++ l) (all_edits_append xs ys) ∙ sym (append_assoc es (all_edits xs) (all_edits ys))

pub front_opens : (cs : List Content) (k : ℕ) (f : JournalFault) → Accepted empty (all_edits (standing cs)) → opening (take k cs) ≡ Err f → ⊥
front_opens cs k f ok h =
    let split : map record_in cs ≡ map record_in (take k cs) ++ map record_in (drop k cs) = ap (map record_in) (sym (take-append-drop k cs)) ∙ map-append record_in (take k cs) (drop k cs) in
    let p = scan_front 1 [] (map record_in (take k cs)) (map record_in (drop k cs)) in
    let whole : all_edits (standing cs) ≡ all_edits (standing (take k cs)) ++ all_edits p.0 = ap all_edits (ap (scan 1 []) split ∙ p.1) ∙ all_edits_append (standing (take k cs)) p.0 in
    let front = accepted_front empty (all_edits (standing (take k cs))) (all_edits p.0) (subst (Accepted empty) whole ok) in
    let is = accepted_outcome 0 0 empty (standing (take k cs)) front in
    let z : ◌≡◌ {A = ℕ} 0 1 = cc in omega arith
