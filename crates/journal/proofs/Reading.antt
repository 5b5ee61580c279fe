-- A reader, one block on.
use Rattle.std.proofs.Common.{◌≡◌, ℕ, suc, ◌+◌, ◌<◌, Bool, true, List, [], ◌∷◌, ◌++◌, map, length, get_or, take, is_ok, Some, None, Ok, Err, Option, sym, refl, ap, ◌∙◌, subst, append_assoc, append-nil, arith}
use Rattle.std.proofs.lemmas.List.{take_more, map-append, length-take-le}
use Rattle.boundary.specs.Operators.{empty}
use Rattle.records.specs.declared.Record.{Record}
use Rattle.disk.specs.declared.Content.{Content}
use Rattle.disk.specs.declared.Content.TheVariants.{Unreadable}
use Rattle.disk.specs.declared.DiskFault.{DiskFault}
use Rattle.disk.specs.declared.DiskFault.TheVariants.{PowerGone, NoSuchBlock}
use Rattle.disk.specs.Calls.{Call, reading}
use Rattle.disk.specs.Chains.{Chain}
use Rattle.disk.specs.Rule.{Allowed}
use Rattle.disk.proofs.Chains.{then_one}
use Rattle.faults.specs.declared.JournalFault.{JournalFault}
use Rattle.faults.specs.declared.JournalFault.TheVariants.{Disk, NoEdits, Full, BadSize, Unfit}
use Rattle.standing.specs.Standing.{record_in, scan}
use Rattle.standing.specs.Openings.{outcome, found, opening}
use Rattle.standing.specs.Plans.{served_reads}
use Rattle.journal.specs.declared.Reader.{Reader}
use Rattle.journal.specs.declared.draft.Draft.{Draft}
use Rattle.journal.specs.Drafts.{drafted}
use Rattle.journal.specs.Readings.{to_find, found_with, found_so_far, Advanced, Starts, HoldsJournal, Failed}

-- served reads of the blocks from k on, and more behind them
reads_append : (k : ℕ) (xs ys : List Content) → served_reads k (xs ++ ys) ≡ served_reads k xs ++ served_reads (k + length xs) ys
reads_append k [] ys = let z : k + 0 ≡ k = omega arith in rw z
reads_append k (x ∷ xs) ys = let z : k + 1 + length xs ≡ k + suc (length xs) = omega arith in ap (λ l. reading k (Ok x) ∷ l) (rw z at (reads_append (k + 1) xs ys))

-- where no block is to come, what was found so far is found
pub to_find_none : (r : Reader) → to_find r [] ≡ Ok (found_so_far r)
to_find_none r = either r.draft
  where
    either : (o : Option Draft) → found_with (found_so_far r) o [] ≡ Ok (found_so_far r)
    either None = refl
    either (Some d) = refl

-- what a reader is to the blocks cs, of which it has seen the first k
abbrev pub Seen : List Content → ℕ → Reader → Type 0
Seen cs k r = (rs : List (Option Record)) → to_find r rs ≡ found (map record_in (take k cs) ++ rs)

-- the blocks seen, and one more
module _ (cs : List Content) (k : ℕ) (c : Content) (lt : k < length cs) (is : c ≡ get_or cs k Unreadable) (x : Option Record) (of : x ≡ record_in c) where
  next_seen : (rs : List (Option Record)) → map record_in (take k cs) ++ (x ∷ rs) ≡ map record_in (take (k + 1) cs) ++ rs
  next_seen rs =
      sym (append_assoc (map record_in (take k cs)) (x ∷ []) rs)
      ∙ ap (λ y. (map record_in (take k cs) ++ (y ∷ [])) ++ rs) (of ∙ ap record_in is)
      ∙ ap (λ l. l ++ rs) (sym (map-append record_in (take k cs) (get_or cs k Unreadable ∷ [])))
      ∙ ap (λ l. map record_in l ++ rs) (sym (take_more cs k Unreadable lt))

  pub seen_more : (r s : Reader) → ((rs : List (Option Record)) → to_find r (x ∷ rs) ≡ to_find s rs) → Seen cs k r → Seen cs (k + 1) s
  seen_more r s h seen rs = sym (h rs) ∙ seen (x ∷ rs) ∙ ap found (next_seen rs)

  pub seen_refused : (r : Reader) (f : JournalFault) → ((rs : List (Option Record)) → to_find r (x ∷ rs) ≡ Err f) → Seen cs k r → opening (take (k + 1) cs) ≡ Err f
  seen_refused r f h seen = ap found (sym (append-nil (map record_in (take (k + 1) cs)))) ∙ ap found (sym (next_seen [])) ∙ sym (seen (x ∷ [])) ∙ h []

  pub read_more : {S : Type 0} {did : S → Call → S → Type 0} {d e z : S} → Chain did d (served_reads 0 (take k cs)) e → did e (reading k (Ok c)) z → Chain did d (served_reads 0 (take (k + 1) cs)) z
  read_more {S} {did} {d} {e} {z} r h = subst (λ l. Chain did d l z) (sym all) (then_one r h)
    where
      all : served_reads 0 (take (k + 1) cs) ≡ served_reads 0 (take k cs) ++ (reading k (Ok c) ∷ [])
      all =
          let w : 0 + length (take k cs) ≡ k = omega (arith, length-take-le k cs (omega arith)) in
          ap (served_reads 0) (take_more cs k Unreadable lt ∙ ap (λ y. take k cs ++ y ∷ []) (sym is)) ∙ reads_append 0 (take k cs) (c ∷ []) ∙ ap (λ j. served_reads 0 (take k cs) ++ (reading j (Ok c) ∷ [])) w

pub seen_opening : (cs : List Content) (k : ℕ) (r : Reader) → Seen cs k r → opening (take k cs) ≡ Ok (found_so_far r)
seen_opening cs k r seen = ap found (sym (append-nil (map record_in (take k cs)))) ∙ sym (seen []) ∙ to_find_none r

pub seen_ok : (cs : List Content) (k : ℕ) (r : Reader) → Seen cs k r → is_ok (opening (take k cs)) ≡ true
seen_ok cs k r seen = ap is_ok (seen_opening cs k r seen)

-- a read of a block below the count is refused for want of power alone
pub read_cut : {S : Type 0} (reads : S → List Content) (may : S → ℕ → Content → Type 0) (gone : S → Bool) (d e : S) (k : ℕ) (f : DiskFault) → k < length (reads d) → Allowed reads may gone d (reading k (Err f)) e → f ≡ PowerGone (Some k)
read_cut reads may gone d e k (PowerGone p) lt a = ap PowerGone a.1
read_cut reads may gone d e k (NoSuchBlock p) lt a = absurd (omega (arith, a.0))

-- a reading that a refused edit ended
pub failed_at : {S : Type 0} (reads : S → List Content) (did : S → Call → S → Type 0) {d z : S} (k : ℕ) (c : Content) (x : Option Record) (r s : Reader) (f : JournalFault)
    → HoldsJournal (length (reads d)) → k < length (reads d) → c ≡ get_or (reads d) k Unreadable → x ≡ record_in c → Seen (reads d) k r → Advanced r x (Err f) s → Chain did d (served_reads 0 (take (k + 1) (reads d))) z → Failed reads did d f z
failed_at reads did k c x r s (Disk f) n lt is of seen a h = absurd a
failed_at reads did k c x r s (NoEdits t) n lt is of seen a h = absurd a
failed_at reads did k c x r s (Full t) n lt is of seen a h = absurd a
failed_at reads did k c x r s (BadSize m) n lt is of seen a h = absurd a
failed_at reads did {d} k c x r s (Unfit b f) n lt is of seen a h = (n, k, lt, seen_ok (reads d) k r seen, seen_refused (reads d) k c lt is x of r (Unfit b f) a seen, h)

-- a reader that has seen no block
pub starts : (n : ℕ) (cs : List Content) (r : Reader) → Starts n r → Seen cs 0 r
starts n cs r s rs =
    ap (λ o. found_with (found_so_far r) o rs) s.reads
    ∙ ap (λ t. outcome t r.extent.batches r.solid.boundary (scan (r.extent.batches + 1) (drafted s.draft) rs)) s.tail
    ∙ ap (λ m. outcome 0 m r.solid.boundary (scan (m + 1) (drafted s.draft) rs)) s.batches
    ∙ ap (λ b. outcome 0 0 b (scan 1 (drafted s.draft) rs)) s.boundary
    ∙ ap (λ es. outcome 0 0 empty (scan 1 es rs)) s.none
