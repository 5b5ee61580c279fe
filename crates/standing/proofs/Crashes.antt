-- What lost power leaves of a journal: at every point of an append, and after every loss, the batches that stood stand, and the last one stands whole or not at all.
use Rattle.std.proofs.Common.{◌≡◌, ℕ, zero, suc, ◌+◌, ◌-◌, ◌^◌, ◌<◌, ◌≤◌, Bool, true, false, eqb, ◌⊎◌, List, [], ◌∷◌, ◌++◌, length, get_or, take, Some, None, Ok, Err, Option, sym, refl, ap, ◌∙◌, subst, inl, inr, arith, length-append}
use native.Mathlib.Decide.{dec_lt, ℕ_discrete}
use Rattle.std.proofs.lemmas.List.{get_or-set_same, get_or-set_other, get_or_append_left, get_or-append_right}
use Rattle.std.proofs.lemmas.Bool.{eqb-true, eq-eqb, and_parts, and_from, both_ways, cond_both}
use Rattle.boundary.specs.declared.Edit.{Edit}
use Rattle.boundary.specs.Refusals.{in_range}
use Rattle.disk.specs.declared.Content.{Content}
use Rattle.disk.specs.declared.Content.TheVariants.{Bytes, Unreadable}
use Rattle.disk.specs.declared.DiskFault.{DiskFault}
use Rattle.disk.specs.declared.DiskFault.TheVariants.{PowerGone, NoSuchBlock}
use Rattle.disk.specs.Calls.{Call, writing, flushing}
use Rattle.disk.specs.Chains.{Chain, none, first}
use Rattle.disk.specs.Losses.{AfterLoss}
use Rattle.disk.specs.Rule.{Allowed, Quiet, Gains}
use Rattle.disk.specs.Rule.{Settled as Flushed}
use Rattle.disk.proofs.Rules.{same_count}
use Rattle.records.specs.declared.Record.{Record}
use Rattle.records.specs.declared.Record.TheVariants.{Change, Closing}
use Rattle.records.specs.Records.{bytes_of}
use Rattle.records.proofs.Laws.{round}
use Rattle.standing.specs.Batches.{changes, laid, blocks, InRange}
use Rattle.standing.specs.Standing.{record_in, closes, settled}
use Rattle.standing.specs.Plans.{settle, as_call, served, puts, closing_steps, plan}
use Rattle.standing.specs.Pictures.{no_record, Old, Settled, NoneLater, Holds, Last, HoldsOrLast, Holding}
use Rattle.standing.proofs.Layouts.{length_changes, length_laid, blocks_more, few_blocks, laid_more}

old_more : (b : ℕ) (r : Option Record) → Old b r → Old (b + 1) r
old_more b None h = tt
old_more b (Some (Change n p e)) h = tt
old_more b (Some (Closing n c)) h = omega arith

old_at : (b : ℕ) (r s : Option Record) → r ≡ s → Old b s → Old b r
old_at b r s e h = subst (Old b) (sym e) h

closes_is : (x : Option Record) (n c : ℕ) → closes x n c ≡ true → x ≡ Some (Closing n c)
closes_is None n c h = absurd (both_ways false refl h)
closes_is (Some (Change m p e)) n c h = absurd (both_ways false refl h)
closes_is (Some (Closing m k)) n c h =
    let w = and_parts (eqb m n) (eqb k c) h in
    let u = eqb-true m n w.0 in let v = eqb-true k c w.1 in cc

is_closes : (x : Option Record) (n c : ℕ) → x ≡ Some (Closing n c) → closes x n c ≡ true
is_closes x n c e = subst (λ y. closes y n c ≡ true) (sym e) (and_from (eqb n n) (eqb c c) (eq-eqb n n refl) (eq-eqb c c refl))

module _ {S : Type 0} (reads : S → List Content) (may : S → ℕ → Content → Type 0) where
  settled_join : (d : S) (t : ℕ) (xs ys : List Record) → Settled reads may d t xs → Settled reads may d (t + length xs) ys → Settled reads may d t (xs ++ ys)
  settled_join d t xs ys f g k lt c m = elim (dec_lt k (length xs)) [
    | yes h ↦ f k h c m ∙ ap Some (sym (get_or_append_left xs ys no_record k h))
    | no h ↦
        let le : length xs ≤ k = omega arith in
        let q : t + length xs + (k - length xs) ≡ t + k = omega arith in
        let w : k - length xs < length ys = omega (arith, length-append xs ys) in
        g (k - length xs) w c (subst (λ j. may d j c) (sym q) m) ∙ ap Some (sym (get_or-append_right xs ys (length xs) k no_record refl le))
  ]

  -- one batch more stands
  one_more : (bs : List (List Edit)) (es : List Edit) (d : S) → blocks bs + length es + 1 ≤ length (reads d) → Settled reads may d 0 (laid 1 bs) → Settled reads may d (blocks bs) (changes (length bs + 1) 0 es)
      → Settled reads may d (blocks bs + length es) (Closing (length bs + 1) (length es) ∷ []) → NoneLater reads may (length bs) (blocks bs + length es + 1) d → Holds reads may (bs ++ es ∷ []) d
  one_more bs es d room st ed cl be = record {
    room = omega (arith, blocks_more bs es);
    stand = subst (Settled reads may d 0) (sym (laid_more 1 bs es)) (settled_join d 0 (laid 1 bs) (changes (length bs + 1) 0 es ++ Closing (length bs + 1) (length es) ∷ []) st (subst (λ t. Settled reads may d t (changes (length bs + 1) 0 es ++ Closing (length bs + 1) (length es) ∷ [])) at_tail batch));
    behind = λ k le lt c m. subst (λ b. Old b (record_in c)) (sym (length-append bs (es ∷ []))) (old_more (length bs) (record_in c) (be k (omega (arith, blocks_more bs es)) lt c m));
  }
    where
      at_tail : blocks bs ≡ 0 + length (laid 1 bs)
      at_tail = omega (arith, length_laid 1 bs)

      batch : Settled reads may d (blocks bs) (changes (length bs + 1) 0 es ++ Closing (length bs + 1) (length es) ∷ [])
      batch = settled_join d (blocks bs) (changes (length bs + 1) 0 es) (Closing (length bs + 1) (length es) ∷ []) ed (subst (λ t. Settled reads may d t (Closing (length bs + 1) (length es) ∷ [])) (ap (λ l. blocks bs + l) (sym (length_changes (length bs + 1) 0 es))) cl)

  -- the sets of e lie within those of d
  pub record Within (d e : S) : Type 0 where
    pub count : length (reads e) ≡ length (reads d)
    pub sub : (k : ℕ) → k < length (reads d) → (c : Content) → may e k c → may d k c

  pub within_same : {d : S} → Within d d
  within_same = record { count = refl; sub = λ k lt c m. m }

  pub within_trans : {d e z : S} → Within d e → Within e z → Within d z
  within_trans v w = record { count = w.count ∙ v.count; sub = λ k lt c m. v.sub k lt c (w.sub k (omega (arith, v.count)) c m) }

  pub within_quiet : {d e : S} → Quiet reads may d e → Within d e
  within_quiet q = record { count = ap length q.as_read; sub = λ k lt c m. q.no_gain k c m }

  pub within_holds : {bs : List (List Edit)} {d e : S} → Within d e → Holds reads may bs d → Holds reads may bs e
  within_holds {bs} w h = record {
    room = omega (arith, w.count, h.room);
    stand = λ k lt c m. h.stand k lt c (w.sub (0 + k) (omega (arith, length_laid 1 bs, h.room)) c m);
    behind = λ k le lt c m. h.behind k le (omega (arith, w.count)) c (w.sub k (omega (arith, w.count)) c m);
  }

  pub within_last : {bs : List (List Edit)} {es : List Edit} {d e : S} → Within d e → HoldsOrLast reads may bs es d → HoldsOrLast reads may bs es e
  within_last {bs} {es} w h = record {
    room = omega (arith, w.count, h.room);
    stand = λ k lt c m. h.stand k lt c (w.sub (0 + k) (omega (arith, length_laid 1 bs, h.room)) c m);
    behind = λ k le lt c m. elim (h.behind k le (omega (arith, w.count)) c (w.sub k (omega (arith, w.count)) c m)) [
      | inl o ↦ inl o
      | inr l ↦ inr (record { place = l.place; is = l.is; edits = λ j lt' c' m'. l.edits j lt' c' (w.sub (blocks bs + j) (omega (arith, length_changes (length bs + 1) 0 es, h.room)) c' m') })
    ];
  }

  pub within_holding : (bs : List (List Edit)) (q : Option (List Edit)) {d e : S} → Within d e → Holding reads may bs q d → Holding reads may bs q e
  within_holding bs None w h = within_holds w h
  within_holding bs (Some es) w h = within_last w h

  holds_last : {bs : List (List Edit)} {es : List Edit} {d : S} → blocks bs + length es + 1 ≤ length (reads d) → Holds reads may bs d → HoldsOrLast reads may bs es d
  holds_last r h = record { room = r; stand = h.stand; behind = λ k le lt c m. inl (h.behind k le lt c m) }

  within_loss : {d e : S} → AfterLoss reads may d e → Within d e
  within_loss {d} a = record { count = a.count; sub = λ k lt c m. subst (may d k) (sym (a.only k c m)) (a.member k lt) }

  pub loss_holds : {bs : List (List Edit)} {d e : S} → AfterLoss reads may d e → Holds reads may bs d → Holds reads may bs e
  loss_holds a h = within_holds (within_loss a) h

  -- where the closing record of a cut batch does not read after a loss, the batches before it stand as before
  pub loss_none : {bs : List (List Edit)} {es : List Edit} {d e : S} → AfterLoss reads may d e → HoldsOrLast reads may bs es d
      → (record_in (get_or (reads e) (blocks bs + length es) Unreadable) ≡ Some (Closing (length bs + 1) (length es)) → ⊥) → Holds reads may bs e
  loss_none {bs} {es} {d} {e} a h otherwise = record {
    room = omega (arith, h'.room);
    stand = h'.stand;
    behind = λ k le lt c m. elim (h'.behind k le lt c m) [ inl o ↦ o | inr l ↦ absurd (otherwise (sym (ap (λ j. record_in (get_or (reads e) j Unreadable)) l.place) ∙ ap record_in (sym (a.only k c m)) ∙ l.is)) ];
  }
    where
      h' : HoldsOrLast reads may bs es e
      h' = within_last (within_loss a) h

  -- no set gains anything but bytes that close no later batch, in a block behind the tail
  gains_holds : {bs : List (List Edit)} {d e : S} (k : ℕ) (new : List ℕ) → length (reads e) ≡ length (reads d) → Gains reads may d k new e → blocks bs ≤ k → Old (length bs) (record_in (Bytes new)) → Holds reads may bs d → Holds reads may bs e
  gains_holds {bs} {d} {e} k new count g le o h = record {
    room = omega (arith, h.room);
    stand = λ j lt c m. elim (g (0 + j) c m) [ inl w ↦ h.stand j lt c w | inr w ↦ absurd (omega (arith, w.0, length_laid 1 bs)) ];
    behind = λ j le' lt c m. elim (g j c m) [
      | inl w ↦ h.behind j le' (omega arith) c w
      | inr w ↦ elim w.1 [ inl q ↦ old_at (length bs) (record_in c) (record_in (Bytes new)) (ap record_in q) o | inr q ↦ old_at (length bs) (record_in c) None (ap record_in q) tt ]
    ];
  }

  module _ (stands : (d : S) (k : ℕ) → k < length (reads d) → may d k (get_or (reads d) k Unreadable)) where
    -- where the closing record of a cut batch reads after a loss, the batch stands whole
    pub loss_whole : {bs : List (List Edit)} {es : List Edit} {d e : S} → AfterLoss reads may d e → HoldsOrLast reads may bs es d
        → record_in (get_or (reads e) (blocks bs + length es) Unreadable) ≡ Some (Closing (length bs + 1) (length es)) → Holds reads may (bs ++ es ∷ []) e
    loss_whole {bs} {es} {d} {e} a h reads_so = go (h'.behind (blocks bs + length es) (omega arith) (omega (arith, h'.room)) (get_or (reads e) (blocks bs + length es) Unreadable) (stands e (blocks bs + length es) (omega (arith, h'.room))))
      where
        h' : HoldsOrLast reads may bs es e
        h' = within_last (within_loss a) h

        behind : NoneLater reads may (length bs) (blocks bs + length es + 1) e
        behind k le lt c m = elim (h'.behind k (omega arith) lt c m) [ inl o ↦ o | inr l ↦ absurd (omega (arith, l.place)) ]

        closing : Settled reads may e (blocks bs + length es) (Closing (length bs + 1) (length es) ∷ [])
        closing zero lt c m =
            let z : blocks bs + length es + 0 ≡ blocks bs + length es = omega arith in
            ap record_in (a.only (blocks bs + length es) c (subst (λ k. may e k c) z m)) ∙ reads_so
        closing (suc k) lt c m = absurd (omega arith)

        go : Old (length bs) (record_in (get_or (reads e) (blocks bs + length es) Unreadable)) ⊎ Last reads may bs es e (blocks bs + length es) (get_or (reads e) (blocks bs + length es) Unreadable) → Holds reads may (bs ++ es ∷ []) e
        go (inl o) = let n : length bs + 1 ≤ length bs = subst (Old (length bs)) reads_so o in absurd (omega arith)
        go (inr l) = one_more bs es e h'.room h'.stand l.edits closing behind

    -- a loss settles whether a cut batch stands
    pub loss_settles : (bs : List (List Edit)) (q : Option (List Edit)) {d e : S} → AfterLoss reads may d e → Holding reads may bs q d → Holds reads may (settled bs q (reads e)) e
    loss_settles bs None a h = loss_holds a h
    loss_settles bs (Some es) {e = e} a h =
        let last = record_in (get_or (reads e) (blocks bs + length es) Unreadable) in
        cond_both (closes last (length bs + 1) (length es)) (bs ++ es ∷ []) bs (λ l. Holds reads may l e)
        (λ t. loss_whole a h (closes_is last (length bs + 1) (length es) t))
        (λ t. loss_none a h (λ i. both_ways _ t (is_closes last (length bs + 1) (length es) i)))

    -- a flush leaves what a loss could leave
    flushed : {d e : S} → Flushed reads may d e → AfterLoss reads may d e
    flushed {d} f = record {
      count = ap length f.as_read;
      member = λ k lt. subst (λ cs. may d k (get_or cs k Unreadable)) (sym f.as_read) (stands d k lt);
      only = λ k c m. f.only k c m ∙ ap (λ cs. get_or cs k Unreadable) (sym f.as_read);
    }

module _ {S : Type 0} (reads : S → List Content) (may : S → ℕ → Content → Type 0) (gone : S → Bool) (did : S → Call → S → Type 0)
    (stands : (d : S) (k : ℕ) → k < length (reads d) → may d k (get_or (reads d) k Unreadable)) (keeps : (d : S) (c : Call) (e : S) → did d c e → Allowed reads may gone d c e) where
  -- an append of the batch es behind the batches bs, on a disk of N blocks
  module _ (bs : List (List Edit)) (es : List Edit) (N : ℕ) (room : blocks bs + length es + 1 ≤ N) (small : N ≤ 1000) (some : 1 ≤ length es) (few : length es ≤ 16) where
    abbrev t : ℕ
    t = blocks bs

    abbrev n : ℕ
    n = length bs + 1

    abbrev rs : List Record
    rs = changes n 0 es

    n_small : n < 2 ^ 32
    n_small = omega (arith, few_blocks bs)

    -- the first p edits are written
    record At (d : S) (p : ℕ) : Type 0 where
      count : length (reads d) ≡ N
      holds : Holds reads may bs d
      written : (j : ℕ) → j < p → record_in (get_or (reads d) (t + j) Unreadable) ≡ Some (get_or rs j no_record)

    -- the edits are settled
    record Ready (d : S) : Type 0 where
      count : length (reads d) ≡ N
      holds : Holds reads may bs d
      edits : Settled reads may d t rs

    -- the closing record is written
    record Closed (d : S) : Type 0 where
      count : length (reads d) ≡ N
      last : HoldsOrLast reads may bs es d
      reads_so : record_in (get_or (reads d) (t + length es) Unreadable) ≡ Some (Closing n (length es))

    -- a call was answered 20
    pub record Cutoff (d : S) (f : DiskFault) : Type 0 where
      pub count : length (reads d) ≡ N
      pub last : HoldsOrLast reads may bs es d
      pub off : gone d ≡ true
      pub block : Option ℕ
      pub power : f ≡ PowerGone block

    -- a call left as many blocks
    counted : {d e : S} {c : Call} → did d c e → length (reads e) ≡ length (reads d)
    counted {d} {e} {c} h = same_count reads may gone d c e (keeps d c e h)

    change_round : (p : ℕ) (x : Edit) → p < length es → in_range x ≡ true → record_in (Bytes (bytes_of (Change n p x))) ≡ Some (Change n p x)
    change_round p x lt v = round (Change n p x) ((omega arith, omega arith), n_small, v)

    closing_round : record_in (Bytes (bytes_of (Closing n (length es)))) ≡ Some (Closing n (length es))
    closing_round = round (Closing n (length es)) ((omega arith, some, few), n_small)

    put_ok : {d e : S} (p : ℕ) (x : Edit) → p < length es → in_range x ≡ true → get_or rs p no_record ≡ Change n p x → At d p → did d (writing (t + p) (bytes_of (Change n p x)) (Ok tt)) e → At e (p + 1)
    put_ok {d} {e} p x lt v is a h = record {
      count = counted h ∙ a.count;
      holds = gains_holds reads may (t + p) (bytes_of (Change n p x)) (counted h) w.3 (omega arith) (old_at (length bs) _ _ (change_round p x lt v) tt) a.holds;
      written = λ j lt'. elim (ℕ_discrete j p) [
        | yes q ↦ ap (λ i. record_in (get_or (reads e) (t + i) Unreadable)) q ∙ here ∙ ap (λ i. Some (get_or rs i no_record)) (sym q)
        | no q ↦ ap record_in (ap (λ cs. get_or cs (t + j) Unreadable) w.2 ∙ get_or-set_other (reads d) (t + p) (t + j) (Bytes (bytes_of (Change n p x))) Unreadable (omega arith)) ∙ a.written j (omega arith)
      ];
    }
      where
        w : Allowed reads may gone d (writing (t + p) (bytes_of (Change n p x)) (Ok tt)) e
        w = keeps d _ e h

        here : record_in (get_or (reads e) (t + p) Unreadable) ≡ Some (get_or rs p no_record)
        here = ap record_in (ap (λ cs. get_or cs (t + p) Unreadable) w.2 ∙ get_or-set_same (reads d) (t + p) (Bytes (bytes_of (Change n p x))) Unreadable w.0) ∙ change_round p x lt v ∙ ap Some (sym is)

    put_cut : {d e : S} (p : ℕ) (x : Edit) (f : DiskFault) → p < length es → in_range x ≡ true → At d p → did d (writing (t + p) (bytes_of (Change n p x)) (Err f)) e → Cutoff e f
    put_cut {d} {e} p x (PowerGone q) lt v a h =
        let w = keeps d _ e h in
        let count : length (reads e) ≡ N = counted h ∙ a.count in
        record {
          count = count;
          last = holds_last reads may (omega arith) (gains_holds reads may (t + p) (bytes_of (Change n p x)) (counted h) w.4 (omega arith) (old_at (length bs) _ _ (change_round p x lt v) tt) a.holds);
          off = w.2;
          block = q;
          power = refl;
        }
    put_cut {d} {e} p x (NoSuchBlock q) lt v a h = absurd (omega (arith, (keeps d _ e h).0, a.count))

    settle_ok : {d e : S} → At d (length es) → did d (flushing (Ok tt)) e → Ready e
    settle_ok {d} {e} a h =
        let w = (keeps d _ e h).1 in
        record {
          count = counted h ∙ a.count;
          holds = loss_holds reads may (flushed reads may stands w) a.holds;
          edits = λ j lt c m. ap record_in (w.only (t + j) c m) ∙ a.written j (omega (arith, length_changes n 0 es));
        }

    settle_cut : {d e : S} (f : DiskFault) → length (reads d) ≡ N → HoldsOrLast reads may bs es d → did d (flushing (Err f)) e → Cutoff e f
    settle_cut {d} {e} (PowerGone q) c l h =
        let w = keeps d _ e h in
        record { count = counted h ∙ c; last = within_last reads may (within_quiet reads may w.2) l; off = w.1; block = q; power = refl }
    settle_cut {d} {e} (NoSuchBlock q) c l h = absurd (keeps d _ e h)

    -- the closing record is written, or the write answered 20
    closing_gains : {d e : S} → Ready d → length (reads e) ≡ length (reads d) → Gains reads may d (t + length es) (bytes_of (Closing n (length es))) e → HoldsOrLast reads may bs es e
    closing_gains {d} {e} r count g = record {
      room = omega (arith, r.count);
      stand = λ j lt c m. elim (g (0 + j) c m) [ inl w ↦ r.holds.stand j lt c w | inr w ↦ absurd (omega (arith, w.0, length_laid 1 bs)) ];
      behind = λ j le lt c m. elim (g j c m) [
        | inl w ↦ inl (r.holds.behind j le (omega arith) c w)
        | inr w ↦ elim w.1 [
          | inl q ↦ inr (record { place = w.0; is = ap record_in q ∙ closing_round; edits = edits })
          | inr q ↦ inl (old_at (length bs) (record_in c) None (ap record_in q) tt)
        ]
      ];
    }
      where
        edits : Settled reads may e t rs
        edits j lt c m = elim (g (t + j) c m) [ inl w ↦ r.edits j lt c w | inr w ↦ absurd (omega (arith, w.0, length_changes n 0 es)) ]

    closing_ok : {d e : S} → Ready d → did d (writing (t + length es) (bytes_of (Closing n (length es))) (Ok tt)) e → Closed e
    closing_ok {d} {e} r h =
        let w = keeps d _ e h in
        record {
          count = counted h ∙ r.count;
          last = closing_gains r (counted h) w.3;
          reads_so = ap record_in (ap (λ cs. get_or cs (t + length es) Unreadable) w.2 ∙ get_or-set_same (reads d) (t + length es) (Bytes (bytes_of (Closing n (length es)))) Unreadable w.0) ∙ closing_round;
        }

    closing_cut : {d e : S} (f : DiskFault) → Ready d → did d (writing (t + length es) (bytes_of (Closing n (length es))) (Err f)) e → Cutoff e f
    closing_cut {d} {e} (PowerGone q) r h =
        let w = keeps d _ e h in
        record { count = counted h ∙ r.count; last = closing_gains r (counted h) w.4; off = w.2; block = q; power = refl }
    closing_cut {d} {e} (NoSuchBlock q) r h = absurd (omega (arith, (keeps d _ e h).0, r.count))

    last_ok : {d e : S} → Closed d → did d (flushing (Ok tt)) e → Holds reads may (bs ++ es ∷ []) e × (length (reads e) ≡ N)
    last_ok {d} {e} c h =
        let w = (keeps d _ e h).1 in
        (loss_whole reads may stands (flushed reads may stands w) c.last (ap (λ cs. record_in (get_or cs (t + length es) Unreadable)) w.as_read ∙ c.reads_so), counted h ∙ c.count)

    -- the edits xs are those of the batch from the position p on
    record Rest (p : ℕ) (xs : List Edit) : Type 0 where
      all : p + length xs ≡ length es
      agree : (j : ℕ) → j < length xs → get_or rs (p + j) no_record ≡ get_or (changes n p xs) j no_record

    rest_here : (p : ℕ) (x : Edit) (xs : List Edit) → Rest p (x ∷ xs) → get_or rs p no_record ≡ Change n p x
    rest_here p x xs r = let z : p + 0 ≡ p = omega arith in rw z at (r.agree 0 (omega arith))

    rest_next : (p : ℕ) (x : Edit) (xs : List Edit) → Rest p (x ∷ xs) → Rest (p + 1) xs
    rest_next p x xs r = record { all = omega (arith, r.all); agree = λ j lt. let z : p + suc j ≡ p + 1 + j = omega arith in rw z at (r.agree (suc j) (omega arith)) }

    tail_ok : {d e : S} → At d (length es) → Chain did d (served (closing_steps n t (length es))) e → Holds reads may (bs ++ es ∷ []) e × (length (reads e) ≡ N)
    tail_ok a (first h₁ (first h₂ (first h₃ none))) = last_ok (closing_ok (settle_ok a h₁) h₂) h₃

    tail_cut : {d e : S} (f : DiskFault) (i : ℕ) → i < 3 → At d (length es) → Chain did d (served (take i (closing_steps n t (length es))) ++ as_call (get_or (closing_steps n t (length es)) i settle) (Err f) ∷ []) e → Cutoff e f
    tail_cut f zero lt a (first h none) = settle_cut f a.count (holds_last reads may (omega (arith, a.count)) a.holds) h
    tail_cut f (suc zero) lt a (first h₁ (first h none)) = closing_cut f (settle_ok a h₁) h
    tail_cut f (suc (suc zero)) lt a (first h₁ (first h₂ (first h none))) = let c = closing_ok (settle_ok a h₁) h₂ in settle_cut f c.count c.last h
    tail_cut f (suc (suc (suc i))) lt a h = absurd (omega arith)

    puts_ok : (p : ℕ) (xs : List Edit) {d e : S} → Rest p xs → InRange xs → At d p → Chain did d (served (puts n t p xs ++ closing_steps n t (length es))) e → Holds reads may (bs ++ es ∷ []) e × (length (reads e) ≡ N)
    puts_ok p [] l v a h = let z : p ≡ length es = omega (arith, l.all) in tail_ok (rw z at a) h
    puts_ok p (x ∷ xs) l v a (first h r) = puts_ok (p + 1) xs (rest_next p x xs l) v.1 (put_ok p x (omega (arith, l.all)) v.0 (rest_here p x xs l) a h) r

    puts_cut : (p : ℕ) (xs : List Edit) {d e : S} (f : DiskFault) (i : ℕ) → i < length (puts n t p xs ++ closing_steps n t (length es)) → Rest p xs → InRange xs → At d p
        → Chain did d (served (take i (puts n t p xs ++ closing_steps n t (length es))) ++ as_call (get_or (puts n t p xs ++ closing_steps n t (length es)) i settle) (Err f) ∷ []) e → Cutoff e f
    puts_cut p [] f i lt l v a h = let z : p ≡ length es = omega (arith, l.all) in tail_cut f i (omega arith) (rw z at a) h
    puts_cut p (x ∷ xs) f zero lt l v a (first h none) = put_cut p x f (omega (arith, l.all)) v.0 a h
    puts_cut p (x ∷ xs) f (suc i) lt l v a (first h r) = puts_cut (p + 1) xs f i (omega arith) (rest_next p x xs l) v.1 (put_ok p x (omega (arith, l.all)) v.0 (rest_here p x xs l) a h) r

    start_rest : Rest 0 es
    start_rest = record { all = omega arith; agree = λ j lt. let z : 0 + j ≡ j = omega arith in rw z }

    start_at : {d : S} → length (reads d) ≡ N → Holds reads may bs d → At d 0
    start_at c h = record { count = c; holds = h; written = λ j lt. absurd (omega arith) }

    -- an append whose steps were all served: the batch stands behind the others
    pub append_ok : {d e : S} → length (reads d) ≡ N → Holds reads may bs d → InRange es → Chain did d (served (plan n t es)) e → Holds reads may (bs ++ es ∷ []) e × (length (reads e) ≡ N)
    append_ok c h v r = puts_ok 0 es start_rest v (start_at c h) r

    -- an append with a step that was refused: by a 20, which leaves the batch to stand or not
    pub append_cut : {d e : S} (f : DiskFault) (i : ℕ) → i < length (plan n t es) → length (reads d) ≡ N → Holds reads may bs d → InRange es → Chain did d (served (take i (plan n t es)) ++ as_call (get_or (plan n t es) i settle) (Err f) ∷ []) e → Cutoff e f
    append_cut f i lt c h v r = puts_cut 0 es f i lt start_rest v (start_at c h) r
