-- The disk calls of an append: one more record written, and the steps that end it.
use Rattle.std.proofs.Common.{◌≡◌, ℕ, zero, suc, ◌+◌, ◌<◌, ◌≤◌, List, [], ◌∷◌, ◌++◌, length, get_or, take, Ok, Err, Result, sym, refl, ap, ◌∙◌, subst, append_assoc, arith}
use Rattle.std.proofs.lemmas.List.{take_more, take_all, length-take-le}
use Rattle.boundary.specs.declared.Edit.{Edit}
use Rattle.disk.specs.declared.DiskFault.{DiskFault}
use Rattle.disk.specs.Calls.{Call, writing, flushing}
use Rattle.disk.specs.Chains.{Chain}
use Rattle.disk.proofs.Chains.{then_one}
use Rattle.records.specs.declared.Record.TheVariants.{Change}
use Rattle.records.specs.Records.{bytes_of}
use Rattle.faults.specs.declared.JournalFault.TheVariants.{Disk}
use Rattle.journal.specs.declared.Extent.{Extent}
use Rattle.journal.specs.Appends.{Appends, carried, next_number, extended, append_answer}
use Rattle.standing.specs.Plans.{Step, put, settle, as_call, served, puts, closing_steps, plan, Carried}

served_append : (xs ys : List Step) → served (xs ++ ys) ≡ served xs ++ served ys
served_append [] ys = refl
served_append (x ∷ xs) ys = ap (λ l. as_call x (Ok tt) ∷ l) (served_append xs ys)

-- a write of bytes that are known otherwise
pub with_bytes : {S : Type 0} (did : S → Call → S → Type 0) {d e : S} {k : ℕ} {bs cs : List ℕ} {r : Result (Unit {0}) DiskFault} → bs ≡ cs → did d (writing k bs r) e → did d (writing k cs r) e
with_bytes did {d} {e} {k} {r = r} q h = subst (λ b. did d (writing k b r) e) q h

module _ (n t : ℕ) where
  puts_append : (p : ℕ) (xs ys : List Edit) → puts n t p (xs ++ ys) ≡ puts n t p xs ++ puts n t (p + length xs) ys
  puts_append p [] ys = let z : p + 0 ≡ p = omega arith in rw z
  puts_append p (x ∷ xs) ys = let z : p + 1 + length xs ≡ p + suc (length xs) = omega arith in ap (λ l. put (t + p) (Change n p x) ∷ l) (rw z at (puts_append (p + 1) xs ys))

  take_puts : (p : ℕ) (es : List Edit) (more : List Step) (i : ℕ) → i ≤ length es → take i (puts n t p es ++ more) ≡ puts n t p (take i es)
  take_puts p es more zero le = refl
  take_puts p [] more (suc i) le = absurd (omega arith)
  take_puts p (e ∷ es) more (suc i) le = ap (λ l. put (t + p) (Change n p e) ∷ l) (take_puts (p + 1) es more i (omega arith))

  get_puts : (p : ℕ) (es : List Edit) (more : List Step) (d : Edit) (i : ℕ) → i < length es → get_or (puts n t p es ++ more) i settle ≡ put (t + (p + i)) (Change n (p + i) (get_or es i d))
  get_puts p [] more d i lt = absurd (omega arith)
  get_puts p (e ∷ es) more d zero lt = let z : p + 0 ≡ p = omega arith in rw z
  get_puts p (e ∷ es) more d (suc i) lt = let z : p + 1 + i ≡ p + suc i = omega arith in let q : get_or (puts n t (p + 1) es ++ more) i settle ≡ put (t + (p + 1 + i)) (Change n (p + 1 + i) (get_or es i d)) = get_puts (p + 1) es more d i (omega arith) in rw z at q

  take_past : (p : ℕ) (es : List Edit) (more : List Step) (j : ℕ) → take (length es + j) (puts n t p es ++ more) ≡ puts n t p es ++ take j more
  take_past p [] more j = let z : 0 + j ≡ j = omega arith in rw z
  take_past p (e ∷ es) more j = let z : suc (length es) + j ≡ suc (length es + j) = omega arith in rw z (ap (λ l. put (t + p) (Change n p e) ∷ l) (take_past (p + 1) es more j))

  get_past : (p : ℕ) (es : List Edit) (more : List Step) (j : ℕ) → get_or (puts n t p es ++ more) (length es + j) settle ≡ get_or more j settle
  get_past p [] more j = let z : 0 + j ≡ j = omega arith in rw z
  get_past p (e ∷ es) more j = let z : suc (length es) + j ≡ suc (length es + j) = omega arith in rw z (get_past (p + 1) es more j)

  length_puts : (p : ℕ) (es : List Edit) (more : List Step) → length (puts n t p es ++ more) ≡ length es + length more
  length_puts p [] more = omega arith
  length_puts p (e ∷ es) more = omega (arith, length_puts (p + 1) es more)

  module _ {S : Type 0} {did : S → Call → S → Type 0} (es : List Edit) where
    pub written_more : {d e z : S} (i : ℕ) (x : Edit) (bytes : List ℕ) (u : Unit {0}) → i < length es → Chain did d (served (puts n t 0 (take i es))) e → bytes ≡ bytes_of (Change n i (get_or es i x)) → did e (writing (t + i) bytes (Ok u)) z → Chain did d (served (puts n t 0 (take (i + 1) es))) z
    written_more {d} {e} {z} i x bytes u lt r q h = subst (λ cs. Chain did d cs z) (sym all) (then_one r (subst (λ b. did e (writing (t + i) b (Ok tt)) z) q h))
      where
        long : length (take i es) ≡ i
        long = omega (arith, length-take-le i es (omega arith))

        all : served (puts n t 0 (take (i + 1) es)) ≡ served (puts n t 0 (take i es)) ++ (writing (t + i) (bytes_of (Change n i (get_or es i x))) (Ok tt) ∷ [])
        all = ap (λ l. served (puts n t 0 l)) (take_more es i x lt) ∙ ap served (puts_append 0 (take i es) (get_or es i x ∷ [])) ∙ served_append (puts n t 0 (take i es)) _ ∙ ap (λ k. served (puts n t 0 (take i es)) ++ (writing (t + k) (bytes_of (Change n k (get_or es i x))) (Ok tt) ∷ [])) (let w : 0 + length (take i es) ≡ i = omega (arith, long) in w)

    pub written_cut : {d e z : S} (i : ℕ) (x : Edit) (bytes : List ℕ) (f : DiskFault) → i < length es → Chain did d (served (puts n t 0 (take i es))) e → bytes ≡ bytes_of (Change n i (get_or es i x)) → did e (writing (t + i) bytes (Err f)) z → Carried did d (plan n t es) (Err f) z
    written_cut {d} {e} {z} i x bytes f lt r q h = (i, omega (arith, length_puts 0 es (closing_steps n t (length es))), subst (λ cs. Chain did d cs z) (sym all) (then_one r (subst (λ b. did e (writing (t + i) b (Err f)) z) q h)))
      where
        all : served (take i (plan n t es)) ++ as_call (get_or (plan n t es) i settle) (Err f) ∷ [] ≡ served (puts n t 0 (take i es)) ++ (writing (t + i) (bytes_of (Change n i (get_or es i x))) (Err f) ∷ [])
        all = let w : 0 + i ≡ i = omega arith in ap (λ l. served l ++ as_call (get_or (plan n t es) i settle) (Err f) ∷ []) (take_puts 0 es (closing_steps n t (length es)) i (omega arith)) ∙ ap (λ s. served (puts n t 0 (take i es)) ++ as_call s (Err f) ∷ []) (rw w at (get_puts 0 es (closing_steps n t (length es)) x i lt))

    -- the edits are written: the next steps are those of the end
    pub ended_cut : {d e z : S} (i j : ℕ) (f : DiskFault) → length es ≤ i → j < 3 → Chain did d (served (puts n t 0 (take i es)) ++ served (take j (closing_steps n t (length es)))) e → did e (as_call (get_or (closing_steps n t (length es)) j settle) (Err f)) z → Carried did d (plan n t es) (Err f) z
    ended_cut {d} {e} {z} i j f le lt r h = (length es + j, omega (arith, length_puts 0 es (closing_steps n t (length es))), subst (λ cs. Chain did d cs z) (sym all) (then_one r h))
      where
        all : served (take (length es + j) (plan n t es)) ++ as_call (get_or (plan n t es) (length es + j) settle) (Err f) ∷ [] ≡ (served (puts n t 0 (take i es)) ++ served (take j (closing_steps n t (length es)))) ++ as_call (get_or (closing_steps n t (length es)) j settle) (Err f) ∷ []
        all =
            ap (λ l. served l ++ as_call (get_or (plan n t es) (length es + j) settle) (Err f) ∷ []) (take_past 0 es (closing_steps n t (length es)) j)
            ∙ ap (λ s. served (puts n t 0 es ++ take j (closing_steps n t (length es))) ++ as_call s (Err f) ∷ []) (get_past 0 es (closing_steps n t (length es)) j)
            ∙ ap (λ l. l ++ as_call (get_or (closing_steps n t (length es)) j settle) (Err f) ∷ []) (served_append (puts n t 0 es) (take j (closing_steps n t (length es))) ∙ ap (λ l. served (puts n t 0 l) ++ served (take j (closing_steps n t (length es)))) (sym (take_all i es le)))

    pub ended_ok : {d e : S} (i : ℕ) → length es ≤ i → Chain did d (served (puts n t 0 (take i es)) ++ served (closing_steps n t (length es))) e → Chain did d (served (plan n t es)) e
    ended_ok {d} {e} i le r = subst (λ cs. Chain did d cs e) (sym (served_append (puts n t 0 es) (closing_steps n t (length es)) ∙ ap (λ l. served (puts n t 0 l) ++ served (closing_steps n t (length es))) (sym (take_all i es le)))) r

    pub ended_last : {d e z : S} (i : ℕ) (r : Result (Unit {0}) DiskFault) → length es ≤ i → Chain did d (served (puts n t 0 (take i es)) ++ served (take 2 (closing_steps n t (length es)))) e → did e (flushing r) z → Carried did d (plan n t es) r z
    ended_last {d} {e} {z} i (Ok u) le r h = ended_ok i le (subst (λ cs. Chain did d cs z) (append_assoc (served (puts n t 0 (take i es))) _ _) (then_one r h))
    ended_last i (Err f) le r h = ended_cut i 2 f le (omega arith) r h

-- a batch that has edits and fits, appended as the code appends it
module _ {S : Type 0} {did : S → Call → S → Type 0} {d e : S} (x : Extent) (es xs : List Edit) (t n : ℕ) (same : xs ≡ es) (at : t ≡ x.tail) (numbered : n ≡ next_number x) (some : 0 < length xs) (room : t + length xs + 1 ≤ x.count) where
  carried_as : (w : Result (Unit {0}) DiskFault) → Carried did d (plan n t xs) w e → Appends did d x es (append_answer x (length es) w) e
  carried_as w h =
      let l : length xs ≡ length es = ap length same in
      let p : plan n t xs ≡ plan (next_number x) x.tail es = ap (λ k. plan k t xs) numbered ∙ ap (λ k. plan (next_number x) k xs) at ∙ ap (plan (next_number x) x.tail) same in
      carried (omega arith) (omega arith) w (subst (λ ss. Carried did d ss w e) p h) refl

  pub appended_ok : Carried did d (plan n t xs) (Ok tt) e → Appends did d x es (Ok (record { count = x.count; batches = n; tail = t + length xs + 1 })) e
  appended_ok h =
      let q : extended x (length es) ≡ record { count = x.count; batches = n; tail = t + length xs + 1 } =
      ap (λ k. record { count = x.count; batches = k; tail = x.tail + length es + 1 }) (sym numbered)
      ∙ ap (λ k. record { count = x.count; batches = n; tail = k + length es + 1 }) (sym at)
      ∙ ap (λ (l : List Edit). record { count = x.count; batches = n; tail = t + length l + 1 }) (sym same) in
      subst (λ y. Appends did d x es (Ok y) e) q (carried_as (Ok tt) h)

  pub appended_err : (f : DiskFault) → Carried did d (plan n t xs) (Err f) e → Appends did d x es (Err (Disk f)) e
  appended_err f h = carried_as (Err f) h
