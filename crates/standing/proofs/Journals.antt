-- What the life of a journal leaves.
use Rattle.std.proofs.Common.{◌≡◌, ℕ, ◌+◌, ◌<◌, ◌≤◌, Bool, List, [], ◌∷◌, ◌++◌, length, get_or, Some, None, Ok, Err, Option, Result, sym, refl, ◌∙◌, subst, arith}
use Rattle.std.proofs.lemmas.Bool.{cond_both}
use Rattle.boundary.specs.declared.Edit.{Edit}
use Rattle.disk.specs.declared.Content.{Content}
use Rattle.disk.specs.declared.Content.TheVariants.{Unreadable}
use Rattle.disk.specs.declared.DiskFault.{DiskFault}
use Rattle.disk.specs.declared.DiskFault.TheVariants.{PowerGone, NoSuchBlock}
use Rattle.disk.specs.Calls.{Call, reading, writing, flushing}
use Rattle.disk.specs.Chains.{Chain, none, first}
use Rattle.disk.specs.Contents.{zeros}
use Rattle.disk.specs.Rule.{Allowed}
use Rattle.records.specs.Blocks.{parts}
use Rattle.records.specs.Records.{record_of}
use Rattle.standing.specs.Batches.{blocks, Sized}
use Rattle.standing.specs.Standing.{record_in, closes, settled}
use Rattle.standing.specs.Pictures.{Old, Holding}
use Rattle.standing.specs.Journals.{Reads, Kept, blank, looked, appended, cut, lost, Left}
use Rattle.standing.proofs.Layouts.{sized_more}
use Rattle.standing.proofs.Crashes.{Within, within_same, within_trans, within_quiet, within_holding, loss_settles, append_ok, append_cut}
use Rattle.standing.proofs.Openings.{holds_standing}

-- 32 zero bytes are no record
zeros_none : record_in zeros ≡ None
unfolding record_of parts
zeros_none = refl

-- a batch whose append has been cut has 1 to 16 edits
abbrev CutSized : Option (List Edit) → Type 0
CutSized None = Unit {0}
CutSized (Some es) = (1 ≤ length es) × (length es ≤ 16)

settled_sized : (bs : List (List Edit)) (q : Option (List Edit)) (cs : List Content) → Sized bs → CutSized q → Sized (settled bs q cs)
settled_sized bs None cs sized s = sized
settled_sized bs (Some es) cs sized s =
    cond_both (closes (record_in (get_or cs (blocks bs + length es) Unreadable)) (length bs + 1) (length es)) (bs ++ es ∷ []) bs Sized
    (λ t. sized_more bs es sized s.0 s.1) (λ t. sized)

module _ {S : Type 0} (reads : S → List Content) (may : S → ℕ → Content → Type 0) (did : S → Call → S → Type 0) where
  all_sized : {d : S} {bs : List (List Edit)} {q : Option (List Edit)} {e : S} → Kept reads may did d bs q e → Sized bs × CutSized q
  all_sized (blank b) = (tt, tt)
  all_sized (looked cs k r h) = all_sized k
  all_sized (appended {bs = bs} es k a h) = (sized_more bs es (all_sized k).0 a.some a.few, tt)
  all_sized (cut es f k a h) = ((all_sized k).0, (a.some, a.few))
  all_sized (lost {bs = bs} {q = q} {z = z} k a) = (settled_sized bs q (reads z) (all_sized k).0 (all_sized k).1, tt)

  pub kept_sized : {d : S} {bs : List (List Edit)} {q : Option (List Edit)} {e : S} → Kept reads may did d bs q e → Sized bs
  kept_sized k = (all_sized k).0

module _ {S : Type 0} (reads : S → List Content) (may : S → ℕ → Content → Type 0) (gone : S → Bool) (did : S → Call → S → Type 0)
    (stands : (d : S) (k : ℕ) → k < length (reads d) → may d k (get_or (reads d) k Unreadable)) (keeps : (d : S) (c : Call) (e : S) → did d c e → Allowed reads may gone d c e) where
  read_within : (k : ℕ) (r : Result Content DiskFault) (d e : S) → Allowed reads may gone d (reading k r) e → Within reads may d e
  read_within k (Ok c) d e a = within_quiet reads may a.3.quiet
  read_within k (Err (PowerGone p)) d e a = within_quiet reads may a.3
  read_within k (Err (NoSuchBlock p)) d e a = within_quiet reads may a.3.quiet

  pub reads_within : (cs : List Call) {d e : S} → Reads cs → Chain did d cs e → Within reads may d e
  reads_within [] r none = within_same reads may
  reads_within (reading k a ∷ cs) r (first {d = d} {e = m} h rest) = within_trans reads may (read_within k a d m (keeps d (reading k a) m h)) (reads_within cs r rest)
  reads_within (writing k bs a ∷ cs) r h = absurd r
  reads_within (flushing a ∷ cs) r h = absurd r

  module _ (d : S) (small : length (reads d) ≤ 1000) where
    -- as many blocks, and the fact behind the tail
    record Lasts (bs : List (List Edit)) (q : Option (List Edit)) (e : S) : Type 0 where
      count : length (reads e) ≡ length (reads d)
      holding : Holding reads may bs q e

    lasts : {bs : List (List Edit)} {q : Option (List Edit)} {e : S} → Kept reads may did d bs q e → Lasts bs q e
    lasts (blank b) = record {
      count = refl;
      holding = record {
        room = omega arith;
        stand = λ k lt c m. absurd (omega arith);
        behind = λ k le lt c m. subst (λ x. Old 0 (record_in x)) (sym (b.only k c m)) (subst (Old 0) (sym zeros_none) tt);
      };
    }
    lasts (looked {bs = bs} {q = q} cs k r h) =
        let w = reads_within cs r h in
        record { count = w.count ∙ (lasts k).count; holding = within_holding reads may bs q w (lasts k).holding }
    lasts (appended {bs = bs} es k a h) =
        let o = append_ok reads may gone did stands keeps bs es (length (reads d)) a.room small a.some a.few (lasts k).count (lasts k).holding a.in_range h in
        record { count = o.1; holding = o.0 }
    lasts (cut {bs = bs} es f k a h) =
        let o = append_cut reads may gone did stands keeps bs es (length (reads d)) a.room small a.some a.few f h.0 h.1 (lasts k).count (lasts k).holding a.in_range h.2 in
        record { count = o.count; holding = o.last }
    lasts (lost {bs = bs} {q = q} k a) = record { count = a.count ∙ (lasts k).count; holding = loss_settles reads may stands bs q a (lasts k).holding }

    pub kept_count : {bs : List (List Edit)} {q : Option (List Edit)} {e : S} → Kept reads may did d bs q e → length (reads e) ≡ length (reads d)
    kept_count k = (lasts k).count

    pub kept_holding : {bs : List (List Edit)} {q : Option (List Edit)} {e : S} → Kept reads may did d bs q e → Holding reads may bs q e
    kept_holding k = (lasts k).holding

    pub kept_left : {bs : List (List Edit)} {q : Option (List Edit)} {e : S} → Kept reads may did d bs q e → Left reads may did d bs q e
    kept_left {bs} {q} {e} k = record {
      count = kept_count k;
      holding = kept_holding k;
      stands = λ p. holds_standing reads may stands bs e (subst (λ o. Holding reads may bs o e) p (kept_holding k)) (kept_sized reads may did k);
    }
