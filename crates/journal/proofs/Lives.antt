-- A reading and an append go on with the life of a journal.
use Rattle.std.proofs.Common.{◌≡◌, ℕ, suc, ◌+◌, ◌<◌, ◌≤◌, Bool, List, [], ◌∷◌, ◌++◌, length, get_or, take, None, Ok, Err, Option, Result, sym, ap, ◌∙◌, subst, arith}
use Rattle.std.proofs.lemmas.List.{length_push}
use Rattle.boundary.specs.declared.Boundary.{Boundary}
use Rattle.boundary.specs.declared.Edit.{Edit}
use Rattle.boundary.specs.Operators.{empty}
use Rattle.disk.specs.declared.Content.{Content}
use Rattle.disk.specs.declared.Content.TheVariants.{Unreadable}
use Rattle.disk.specs.declared.DiskFault.{DiskFault}
use Rattle.disk.specs.Calls.{Call, reading}
use Rattle.disk.specs.Rule.{Allowed}
use Rattle.faults.specs.declared.SolidFault.{SolidFault}
use Rattle.faults.specs.declared.JournalFault.{JournalFault}
use Rattle.faults.specs.declared.JournalFault.TheVariants.{Disk, NoEdits, Full, BadSize, Unfit}
use Rattle.standing.specs.Batches.{blocks, InRange}
use Rattle.standing.specs.Openings.{Found, applied_all, outcome}
use Rattle.standing.specs.Plans.{served_reads, plan, Carried}
use Rattle.standing.specs.Journals.{Reads, Appendable, Kept, looked, appended, cut}
use Rattle.standing.proofs.Layouts.{few_blocks, blocks_more}
use Rattle.standing.proofs.Openings.{found_after}
use Rattle.standing.proofs.Journals.{kept_left}
use Rattle.journal.specs.declared.Extent.{Extent}
use Rattle.journal.specs.Readings.{Failed, Looked}
use Rattle.journal.specs.Appends.{Appends, no_edits, no_room, carried, next_number, append_answer}
use Rattle.journal.specs.Lives.{ExtentOf, ReadsOn, AppendsOn}

reads_served : (k : ℕ) (cs : List Content) → Reads (served_reads k cs)
reads_served k [] = tt
reads_served k (c ∷ cs) = reads_served (k + 1) cs

reads_cut : (k : ℕ) (cs : List Content) (j : ℕ) (f : DiskFault) → Reads (served_reads k cs ++ reading j (Err f) ∷ [])
reads_cut k [] j f = tt
reads_cut k (c ∷ cs) j f = reads_cut (k + 1) cs j f

-- where no edit is refused the batches are all counted
outcome_counts : (t n : ℕ) (b : Boundary) (bs : List (List Edit)) (f : Found) → outcome t n b bs ≡ Ok f → (f.batches ≡ n + length bs) × (f.tail ≡ t + blocks bs)
outcome_counts t n b [] f h = let q : f ≡ record { boundary = b; batches = n; tail = t } = cc in (ap (λ x. x.batches) q ∙ omega arith, ap (λ x. x.tail) q ∙ omega arith)
outcome_counts t n b (es ∷ bs) f h = go (applied_all b 0 es) h (λ b'. outcome_counts (t + length es + 1) (n + 1) b' bs f)
  where
    go : (r : Result Boundary SolidFault) → found_after t n es bs r ≡ Ok f → ((b' : Boundary) → outcome (t + length es + 1) (n + 1) b' bs ≡ Ok f → (f.batches ≡ n + 1 + length bs) × (f.tail ≡ t + length es + 1 + blocks bs)) → (f.batches ≡ n + suc (length bs)) × (f.tail ≡ t + (length es + 1 + blocks bs))
    go (Ok b') h more = let p = more b' h in (omega (arith, p.0), omega (arith, p.1))
    go (Err w) h more = let z : ◌≡◌ {A = ℕ} 0 1 = cc in absurd (omega arith)

not_ok : {A E : Type 0} {x : A} {e : E} → ◌≡◌ {A = Result A E} (Err e) (Ok x) → ⊥
not_ok q = let z : ◌≡◌ {A = ℕ} 0 1 = cc in omega arith

-- the number of the batch behind bs
pub numbered : {n : ℕ} (bs : List (List Edit)) (x : Extent) → ExtentOf n bs x → blocks bs ≤ 1000 → next_number x ≡ length bs + 1
numbered bs x at few = omega (arith, at.batches, few_blocks bs)

-- the steps of its append
pub same_plan : {n : ℕ} (bs : List (List Edit)) (es : List Edit) (x : Extent) → ExtentOf n bs x → blocks bs ≤ 1000 → plan (next_number x) x.tail es ≡ plan (length bs + 1) (blocks bs) es
same_plan bs es x at few = ap (λ n. plan n x.tail es) (numbered bs x at few) ∙ ap (λ t. plan (length bs + 1) t es) at.tail

module _ {S : Type 0} (reads : S → List Content) (may : S → ℕ → Content → Type 0) (gone : S → Bool) (did : S → Call → S → Type 0)
    (stands : (d : S) (k : ℕ) → k < length (reads d) → may d k (get_or (reads d) k Unreadable)) (keeps : (d : S) (c : Call) (e : S) → did d c e → Allowed reads may gone d c e)
    (d : S) (small : length (reads d) ≤ 1000) where
  -- a refused reading
  failed_on : {bs : List (List Edit)} {q : Option (List Edit)} {e : S} (f : JournalFault) (z : S) → Kept reads may did d bs q e → Failed reads did e f z → Kept reads may did d bs q z
  failed_on {bs} {q} {e} (Disk f) z k h = looked _ k (reads_cut 0 (take h.1 (reads e)) h.1 f) h.5
  failed_on (NoEdits t) z k h = absurd h
  failed_on (Full t) z k h = absurd h
  failed_on {bs} {q} (BadSize n) z k h = subst (Kept reads may did d bs q) (sym h.2) k
  failed_on {bs} {q} {e} (Unfit b f) z k h = looked _ k (reads_served 0 (take (h.1 + 1) (reads e))) h.5

  pub reads_on : {e : S} (b : Boundary) (r : Result Extent JournalFault) (z : S) → Looked reads did e b r z → (bs : List (List Edit)) (q : Option (List Edit)) → Kept reads may did d bs q e → ReadsOn reads may did d bs q b r z
  reads_on {e} b (Ok x) z h bs q k = record {
    goes_on = looked _ k (reads_served 0 (reads e)) h.0.calls;
    shows = λ sure y is.
        let same : x ≡ y = cc in
        let l = kept_left reads may gone did stands keeps d small k in
        let found : outcome 0 0 empty bs ≡ Ok (record { boundary = b; batches = x.batches; tail = x.tail }) = ap (outcome 0 0 empty) (sym (l.stands sure)) ∙ h.0.is in
        let n = outcome_counts 0 0 empty bs _ found in
        let m : x.batches ≡ length bs = omega (arith, n.0) in
        let t : x.tail ≡ blocks bs = omega (arith, n.1) in (
          subst (ExtentOf (length (reads d)) bs) same (record { count = h.1 ∙ l.count; batches = m; tail = t }),
          found ∙ ap (λ j. Ok (record { boundary = b; batches = j; tail = x.tail })) m ∙ ap (λ j. Ok (record { boundary = b; batches = length bs; tail = j })) t,
        );
  }
  reads_on b (Err f) z h bs q k = record { goes_on = failed_on f z k h.0; shows = λ sure y is. absurd (not_ok is) }

  -- the disk calls of an append are those of the batch behind bs
  module _ {e : S} (bs : List (List Edit)) (es : List Edit) (x : Extent) (k : Kept reads may did d bs None e) (at : ExtentOf (length (reads d)) bs x) (few : length es ≤ 16) (in_range : InRange es) (some : 0 < length es) (room : x.tail + length es + 1 ≤ x.count) (z : S) where
    fits : Appendable (length (reads d)) bs es
    fits = record { some = some; few = few; in_range = in_range; room = omega (arith, at.count, at.tail) }

    number : next_number x ≡ length bs + 1
    number = numbered bs x at (omega (arith, at.count, at.tail))

    the_plan : plan (next_number x) x.tail es ≡ plan (length bs + 1) (blocks bs) es
    the_plan = same_plan bs es x at (omega (arith, at.count, at.tail))

    carried_on : (w : Result (Unit {0}) DiskFault) → Carried did e (plan (next_number x) x.tail es) w z → AppendsOn reads may did d bs es (append_answer x (length es) w) z
    carried_on (Ok u) h = (
      appended es k fits (subst (λ ss. Carried did e ss (Ok tt) z) the_plan h),
      record { count = at.count; batches = number ∙ sym (length_push bs es); tail = omega (arith, at.tail, blocks_more bs es) },
    )
    carried_on (Err f) h = cut es f k fits (subst (λ ss. Carried did e ss (Err f) z) the_plan h)

  pub appends_on : {e : S} (x : Extent) (es : List Edit) (r : Result Extent JournalFault) (z : S) → Appends did e x es r z → length es ≤ 16 → (bs : List (List Edit)) → Kept reads may did d bs None e → ExtentOf (length (reads d)) bs x → InRange es → AppendsOn reads may did d bs es r z
  appends_on x es r z (no_edits n is same) few bs k at in_range = subst (λ y. AppendsOn reads may did d bs es y z) (sym is) (subst (Kept reads may did d bs None) (sym same) k)
  appends_on x es r z (no_room some full is same) few bs k at in_range = subst (λ y. AppendsOn reads may did d bs es y z) (sym is) (subst (Kept reads may did d bs None) (sym same) k)
  appends_on x es r z (carried some room w h is) few bs k at in_range = subst (λ y. AppendsOn reads may did d bs es y z) (sym is) (carried_on bs es x k at few in_range some room z w h)
