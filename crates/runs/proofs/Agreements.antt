-- The ledger and the session agree, through every call and every loss.
use Rattle.std.proofs.Common.{◌≡◌, ℕ, ◌+◌, ◌<◌, ◌≤◌, Bool, true, false, cond, ltb, leb, ◌⊎◌, List, [], ◌∷◌, ◌++◌, length, get_or, take, Some, None, Ok, Err, Option, Result, sym, refl, ap, ◌∙◌, subst, inl, inr, ⊎_elim, arith, le-ltb, lt-ltb, le-leb}
use borrow.Author.Tests.{lt-leb}
use Rattle.std.specs.Result.{IsOk}
use Rattle.std.proofs.lemmas.List.{length_push, length-take-le}
use Rattle.boundary.specs.declared.Boundary.{Boundary}
use Rattle.boundary.specs.declared.Edit.{Edit}
use Rattle.boundary.specs.declared.Refusal.{Refusal}
use Rattle.boundary.specs.Operators.{empty}
use Rattle.boundary.specs.Refusals.{refusal, after}
use Rattle.disk.specs.declared.Content.{Content}
use Rattle.disk.specs.declared.Content.TheVariants.{Unreadable}
use Rattle.disk.specs.declared.DiskFault.{DiskFault}
use Rattle.disk.specs.declared.DiskFault.TheVariants.{PowerGone}
use Rattle.disk.specs.Calls.{Call as DiskCall, reading}
use Rattle.disk.specs.Rule.{Allowed}
use Rattle.disk.specs.Losses.{AfterLoss, Blank}
use Rattle.disk.specs.Chains.{Chain, none}
use Rattle.faults.specs.declared.SolidFault.{SolidFault}
use Rattle.faults.specs.declared.SolidFault.TheVariants.{Refused as Refuses, TooMany}
use Rattle.faults.specs.declared.JournalFault.{JournalFault}
use Rattle.faults.specs.declared.JournalFault.TheVariants.{Disk, NoEdits, Full, BadSize, Unfit}
use Rattle.faults.specs.declared.SessionFault.{SessionFault}
use Rattle.faults.specs.declared.SessionFault.TheVariants.{FromJournal, FromSolid}
use Rattle.rules.specs.Histories.{after_all}
use Rattle.standing.specs.Batches.{blocks, all_edits, Accepted}
use Rattle.standing.specs.Standing.{settled}
use Rattle.standing.specs.Openings.{outcome}
use Rattle.standing.specs.Plans.{Step as Plan, served, served_reads, as_call, settle, plan, Carried}
use Rattle.standing.specs.Journals.{Kept, blank, lost}
use Rattle.standing.proofs.Layouts.{all_edits_more}
use Rattle.standing.proofs.Openings.{accepted_in_range, after_all_append, accepted_append, accepted_outcome}
use Rattle.standing.proofs.Journals.{kept_left, kept_holding, kept_count}
use Rattle.standing.proofs.Crashes.{append_cut, Cutoff}
use Rattle.standing.proofs.Fronts.{front_opens}
use Rattle.journal.specs.declared.Extent.{Extent}
use Rattle.journal.specs.Drafts.{drafted}
use Rattle.journal.specs.Readings.{Looked, Failed}
use Rattle.journal.specs.Appends.{Appends, no_edits, no_room, carried, next_number, append_answer, extended}
use Rattle.journal.specs.Lives.{ExtentOf, ReadsOn, AppendsOn}
use Rattle.journal.proofs.Lives.{reads_on, appends_on, numbered, same_plan}
use Rattle.session.specs.declared.Session.{Session}
use Rattle.session.specs.declared.Batch.{Batch}
use Rattle.session.specs.Sessions.{Opens, opened, answered, BatchOf, Edits, fault_first, seventeenth, refused, joined, Commits, faulted, appended, committed}
use Rattle.runs.specs.declared.Phase.{Phase}
use Rattle.runs.specs.declared.Phase.TheVariants.{Idle, Opened, Editing}
use Rattle.runs.specs.declared.Call.{Call}
use Rattle.runs.specs.declared.Call.TheVariants.{Open, Begin, Apply, Commit, Abandon, Close, Lose}
use Rattle.runs.specs.declared.Reply.{Reply}
use Rattle.runs.specs.declared.Reply.TheVariants.{NotNow, Done, Shown, Placed, Kept as KeptAs, Refused}
use Rattle.runs.specs.declared.Step.{Step}
use Rattle.runs.specs.Ledgers as ledgers
use Rattle.runs.specs.Ledgers.{Ledger, Stage, idle, in_session, in_batch, nothing, built, joins, roomy, drops, with_edit, after_call, after_loss, first_cut}
use Rattle.runs.specs.Laws.{all_read, read_cut, all_served, cut_at, dropped, not_dropped, Made, foretold, Promised, edit_told, commit_told, carried_told, told_20, Runs, start, by_call, by_loss}
use Rattle.runs.specs.Steps.{Stepped, Turned, disk_of, open_reply, edit_reply, commit_reply}
use Rattle.runs.proofs.Cuts.{uncut_reads, uncut_served, cut_last, step_cut, read_gone, none_served}
use Rattle.runs.proofs.Promises.{not_some, open_promise, commit_promise}

ok_same : {A E : Type 0} {x y : A} {r : Result A E} → r ≡ Ok x → r ≡ Ok y → x ≡ y
ok_same p q = cc

err_same : {A E : Type 0} {x y : E} {r : Result A E} → r ≡ Err x → r ≡ Err y → x ≡ y
err_same p q = cc

not_both : {A E : Type 0} {x : A} {y : E} {r : Result A E} → r ≡ Ok x → r ≡ Err y → ⊥
not_both p q = let z : ◌≡◌ {A = ℕ} 0 1 = cc in omega arith

-- what is no fault is an extent
extent_of : {A E : Type 0} (r : Result A E) → IsOk r → (x : A) × (r ≡ Ok x)
extent_of (Ok x) h = (x, refl)
extent_of (Err y) h = let z : ◌≡◌ {A = ℕ} 0 1 = cc in absurd (omega arith)

-- the ledger with these batches, at this stage
abbrev pub led : List (List Edit) → Option (List Edit) → Stage → Ledger
led a q st = record { acknowledged = a; doubt = q; stage = st }

module _ {S : Type 0} (reads : S → List Content) (may : S → ℕ → Content → Type 0) (gone : S → Bool) (did : S → DiskCall → S → Type 0)
    (stands : (d : S) (k : ℕ) → k < length (reads d) → may d k (get_or (reads d) k Unreadable)) (keeps : (d : S) (c : DiskCall) (e : S) → did d c e → Allowed reads may gone d c e)
    (d₀ : S) (lo : 2 ≤ length (reads d₀)) (hi : length (reads d₀) ≤ 1000) where
  abbrev n : ℕ
  n = length (reads d₀)

  -- a batch in doubt: the power is gone, and no edit of it was refused
  abbrev pub Doubted : List (List Edit) → Option (List Edit) → S → Type 0
  Doubted a None d = Unit {0}
  Doubted a (Some es) d = (gone d ≡ true) × Accepted (built a) es

  -- a session that no 20 has met
  pub record Clean (a : List (List Edit)) (q : Option (List Edit)) (s : Session S) : Type 0 where
    pub place : Extent
    pub next : s.next ≡ Ok place
    pub solid : s.solid.boundary ≡ built a
    pub extent : ExtentOf n a place
    pub sure : q ≡ None

  -- a session that a 20 has met
  pub record Dirty (f : DiskFault) (s : Session S) : Type 0 where
    pub is : s.next ≡ Err (Disk f)
    pub off : gone s.disk ≡ true

  abbrev pub InSession : List (List Edit) → Option (List Edit) → Option DiskFault → Session S → Type 0
  InSession a q None s = Clean a q s
  InSession a q (Some f) s = Dirty f s

  pub record Drafted (a : List (List Edit)) (m : Option DiskFault) (es : List Edit) (b : Batch S) : Type 0 where
    pub edits : drafted b.edits ≡ es
    pub few : length es ≤ 16
    pub draft : m ≡ None → b.draft.boundary ≡ after_all (built a) es
    pub fit : Accepted (built a) es

  abbrev pub AtStage : List (List Edit) → Option (List Edit) → Stage → Phase S → Type 0
  AtStage a q idle (Idle d) = Unit {0}
  AtStage a q idle (Opened s) = ⊥
  AtStage a q idle (Editing b) = ⊥
  AtStage a q (in_session m) (Idle d) = ⊥
  AtStage a q (in_session m) (Opened s) = InSession a q m s
  AtStage a q (in_session m) (Editing b) = ⊥
  AtStage a q (in_batch m es) (Idle d) = ⊥
  AtStage a q (in_batch m es) (Opened s) = ⊥
  AtStage a q (in_batch m es) (Editing b) = InSession a q m b.session × Drafted a m es b

  pub record Agrees (a : List (List Edit)) (q : Option (List Edit)) (st : Stage) (p : Phase S) : Type 0 where
    pub kept : Kept reads may did d₀ a q (disk_of p)
    pub fits : Accepted empty (all_edits a)
    pub doubt : Doubted a q (disk_of p)
    pub at : AtStage a q st p

  -- a run so far, with a ledger that agrees with the phase
  pub record Going (ss : List Step) (p : Phase S) : Type 0 where
    pub acknowledged : List (List Edit)
    pub doubt : Option (List Edit)
    pub stage : Stage
    pub run : Runs reads may did d₀ ss (disk_of p) (led acknowledged doubt stage)
    pub agrees : Agrees acknowledged doubt stage p

  -- the run goes on by a call
  abbrev Goes : List Step → Call → Reply → Phase S → Type 0
  Goes ss c r p = Going (ss ++ record { call = c; reply = r } ∷ []) p

  -- a call with its disk calls, the first of them that was answered 20, and the ledger that it leads to
  goes : {ss : List Step} {a a' : List (List Edit)} {q q' : Option (List Edit)} {st st' : Stage} (p z : Phase S) (c : Call) (r : Reply) (ds : List DiskCall) (cut : Option DiskFault) → Runs reads may did d₀ ss (disk_of p) (led a q st) → Chain did (disk_of p) ds (disk_of z)
      → first_cut ds ≡ cut → after_call n (led a q st) c cut ≡ led a' q' st' → Made n a st c ds → r ≡ foretold n a st c cut → Promised n (led a q st) st c r cut → Agrees a' q' st' z → Goes ss c r z
  goes {ss} {a} {a'} {q} {q'} {st} {st'} p z c r ds cut run chain e g made reply promised agrees = record {
    acknowledged = a';
    doubt = q';
    stage = st';
    run = subst (Runs reads may did d₀ (ss ++ record { call = c; reply = r } ∷ []) (disk_of z)) (ap (after_call n (led a q st) c) e ∙ g)
        (by_call c r ds run chain (record { calls = made; reply = reply ∙ ap (foretold n a st c) (sym e); promised = subst (Promised n (led a q st) st c r) (sym e) promised }));
    agrees = agrees;
  }

  -- a call that makes no disk call and leaves the disk
  quiet : {ss : List Step} {a : List (List Edit)} {q : Option (List Edit)} {st st' : Stage} (p z : Phase S) (c : Call) (r : Reply) → Runs reads may did d₀ ss (disk_of p) (led a q st) → disk_of p ≡ disk_of z
      → after_call n (led a q st) c None ≡ led a q st' → Made n a st c [] → r ≡ foretold n a st c None → Promised n (led a q st) st c r None → Agrees a q st p → AtStage a q st' z → Goes ss c r z
  quiet {ss} {a} {q} {st} {st'} p z c r run same g made reply promised agrees at =
      goes p z c r [] None run (subst (Chain did (disk_of p) []) same none) refl g made reply promised
      (record { kept = subst (Kept reads may did d₀ a q) same agrees.kept; fits = agrees.fits; doubt = subst (Doubted a q) same agrees.doubt; at = at })

  -- a call that the phase does not allow
  stay : {ss : List Step} {a : List (List Edit)} {q : Option (List Edit)} {st : Stage} (p z : Phase S) (c : Call) (r : Reply) → Runs reads may did d₀ ss (disk_of p) (led a q st) → Agrees a q st p → Turned p z r
      → after_call n (led a q st) c None ≡ led a q st → Made n a st c [] → NotNow ≡ foretold n a st c None → Promised n (led a q st) st c NotNow None → Goes ss c r z
  stay {ss} {a} {q} {st} p z c r run agrees t g made reply promised =
      subst (λ v. Goes ss c v z) (sym t.reply) (subst (Goes ss c NotNow) (sym t.same) (quiet p p c NotNow run refl g made reply promised agrees agrees.at))

  -- a loss of power
  loses : {ss : List Step} (a : List (List Edit)) (q : Option (List Edit)) (st : Stage) (p : Phase S) (e : S) → Runs reads may did d₀ ss (disk_of p) (led a q st) → Agrees a q st p → AfterLoss reads may (disk_of p) e → Goes ss Lose Done (Idle e)
  loses a q st p e run g h = record {
    acknowledged = settled a q (reads e);
    doubt = None;
    stage = idle;
    run = by_loss run h;
    agrees = record { kept = lost g.kept h; fits = still q g.doubt; doubt = tt; at = tt };
  }
    where
      more : (es : List Edit) → Accepted (built a) es → Accepted empty (all_edits (a ++ es ∷ []))
      more es ok = subst (Accepted empty) (sym (all_edits_more a es)) (accepted_append empty (all_edits a) es g.fits ok)

      either : (b : Bool) (es : List Edit) → Accepted (built a) es → Accepted empty (all_edits (cond b (a ++ es ∷ []) a))
      either true es ok = more es ok
      either false es ok = g.fits

      still : (o : Option (List Edit)) → Doubted a o (disk_of p) → Accepted empty (all_edits (settled a o (reads e)))
      still None w = g.fits
      still (Some es) w = either _ es w.1

  -- opening
  module _ {ss : List Step} (a : List (List Edit)) (q : Option (List Edit)) (d : S) (run : Runs reads may did d₀ ss d (led a q idle)) (g : Agrees a q idle (Idle d)) where
    count : length (reads d) ≡ n
    count = kept_count reads may gone did stands keeps d₀ hi g.kept

    -- a served read shows that no batch is in doubt
    sure_by : (o : Option (List Edit)) → Doubted a o d → (cs : List Content) {e : S} → 0 < length cs → Chain did d (served_reads 0 cs) e → o ≡ None
    sure_by None w cs lt h = refl
    sure_by (Some es) w cs lt h = absurd (none_served reads may gone did keeps 0 cs lt w.0 h)

    opens_well : (b : Boundary) (x : Extent) (e : S) → Looked reads did d b (Ok x) e → Goes ss Open (Shown x.batches (record { boundary = b })) (Opened (opened e b (Ok x)))
    opens_well b x e h = goes (Idle d) (Opened (opened e b (Ok x))) Open (Shown x.batches (record { boundary = b })) (served_reads 0 (reads d)) None run h.0.calls (uncut_reads 0 (reads d)) refl
        (all_read (reads d) count refl) reply (open_promise a _ None reply)
        (record { kept = on.goes_on; fits = g.fits; doubt = subst (λ o. Doubted a o e) (sym sure) tt; at = record { place = x; next = refl; solid = solid; extent = shown.0; sure = sure } })
      where
        sure : q ≡ None
        sure = sure_by q g.doubt (reads d) (omega (arith, count)) h.0.calls

        on : ReadsOn reads may did d₀ a q b (Ok x) e
        on = reads_on reads may gone did stands keeps d₀ hi b (Ok x) e h a q g.kept

        shown : ExtentOf n a x × (outcome 0 0 empty a ≡ Ok (record { boundary = b; batches = length a; tail = blocks a }))
        shown = on.shows sure x refl

        solid : b ≡ built a
        solid = ap (λ f. f.boundary) (ok_same shown.1 (accepted_outcome 0 0 empty a g.fits))

        reply : Shown x.batches (record { boundary = b }) ≡ Shown (length a) (record { boundary = built a })
        reply = ap (λ k. Shown k (record { boundary = b })) shown.0.batches ∙ ap (λ v. Shown (length a) (record { boundary = v })) solid

    opens_cut : (f : DiskFault) (e : S) → Looked reads did d empty (Err (Disk f)) e → Goes ss Open (told_20 f) (Opened (opened e empty (Err (Disk f))))
    opens_cut f e h = goes (Idle d) (Opened (opened e empty (Err (Disk f)))) Open (told_20 f) (served_reads 0 (take k (reads d)) ++ reading k (Err f) ∷ []) (Some f) run h.0.5
        (cut_last (served_reads 0 (take k (reads d))) (reading k (Err f)) f (uncut_reads 0 (take k (reads d))) (ap (λ x. ledgers.cut_of (reading k (Err x))) power ∙ ap Some (sym power))) refl
        (read_cut (take k (reads d)) (omega (arith, long, h.0.2, count)) (ap (λ x. served_reads 0 (take k (reads d)) ++ reading k (Err x) ∷ []) power ∙ ap (λ j. served_reads 0 (take k (reads d)) ++ reading j (Err (PowerGone (Some j))) ∷ []) (sym long)))
        refl (open_promise a _ (Some f) refl)
        (record { kept = (reads_on reads may gone did stands keeps d₀ hi empty (Err (Disk f)) e h a q g.kept).goes_on; fits = g.fits; doubt = doubted q g.doubt; at = record { is = refl; off = off } })
      where
        k : ℕ
        k = h.0.1

        power : f ≡ PowerGone (Some k)
        power = h.0.3

        long : length (take k (reads d)) ≡ k
        long = length-take-le k (reads d) (omega (arith, h.0.2))

        off : gone e ≡ true
        off = read_gone reads may gone did keeps (served_reads 0 (take k (reads d))) k (Some k) (subst (λ x. Chain did d (served_reads 0 (take k (reads d)) ++ reading k (Err x) ∷ []) e) power h.0.5)

        doubted : (o : Option (List Edit)) → Doubted a o d → Doubted a o e
        doubted None w = tt
        doubted (Some es) w = (off, w.1)

    -- no edit of the batches that stand is refused
    never_unfit : (b : ℕ) (f : SolidFault) (e : S) → Failed reads did d (Unfit b f) e → ⊥
    never_unfit b f e h =
        let sure = sure_by q g.doubt (take (h.1 + 1) (reads d)) (omega (arith, length-take-le (h.1 + 1) (reads d) (omega (arith, h.2)))) h.5 in
        front_opens (reads d) (h.1 + 1) (Unfit b f) (subst (λ bs. Accepted empty (all_edits bs)) (sym ((kept_left reads may gone did stands keeps d₀ hi g.kept).stands sure)) g.fits) h.4

    opens_by : (b : Boundary) (y : Result Extent JournalFault) (e : S) → Looked reads did d b y e → Goes ss Open (open_reply (opened e b y) (answered y)) (Opened (opened e b y))
    opens_by b (Ok x) e h = opens_well b x e h
    opens_by b (Err (Disk f)) e h = subst (λ v. Goes ss Open (told_20 f) (Opened (opened e v (Err (Disk f))))) (sym h.1) (opens_cut f e (h.0, refl))
    opens_by b (Err (NoEdits t)) e h = absurd h.0
    opens_by b (Err (Full t)) e h = absurd h.0
    opens_by b (Err (BadSize m)) e h = absurd (⊎_elim (λ w. omega (arith, h.0.0, count)) (λ w. omega (arith, h.0.0, count)) h.0.1)
    opens_by b (Err (Unfit k f)) e h = absurd (never_unfit k f e h.0)

    opens : (z : Phase S) (r : Reply) (s : Session S) (x : Result ℕ SessionFault) → Opens reads did d s x → z ≡ Opened s → r ≡ open_reply s x → Goes ss Open r z
    opens z r s x h eq er =
        let shown : r ≡ open_reply (opened h.disk h.boundary h.journal) (answered h.journal) = er ∙ ap (open_reply s) h.reply ∙ ap (λ v. open_reply v (answered h.journal)) h.session in
        subst (λ v. Goes ss Open v z) (sym shown) (subst (Goes ss Open (open_reply (opened h.disk h.boundary h.journal) (answered h.journal))) (sym (eq ∙ ap Opened h.session)) (opens_by h.boundary h.journal h.disk h.looked))

  -- a batch
  module _ {ss : List Step} (a : List (List Edit)) (q : Option (List Edit)) (m : Option DiskFault) (es : List Edit) (b : Batch S) (run : Runs reads may did d₀ ss b.session.disk (led a q (in_batch m es))) (g : Agrees a q (in_batch m es) (Editing b)) where
    dr : Drafted a m es b
    dr = g.at.1

    -- whether a 20 has met the session
    sides : (o : Option DiskFault) → InSession a q o b.session → ((f : DiskFault) × (o ≡ Some f) × Dirty f b.session) ⊎ ((o ≡ None) × Clean a q b.session)
    sides None h = inr (refl, h)
    sides (Some f) h = inl (f, refl, h)

    clean : (x : Extent) → b.session.next ≡ Ok x → (m ≡ None) × Clean a q b.session
    clean x h = elim (sides m g.at.0) [ inl w ↦ absurd (not_both h w.2.is) | inr w ↦ w ]

    no_fault : IsOk b.session.next → m ≡ None
    no_fault h = let e = extent_of b.session.next h in (clean e.0 e.1).0

    dirty : (x : JournalFault) → b.session.next ≡ Err x → (f : DiskFault) × (m ≡ Some f) × (x ≡ Disk f)
    dirty x h = elim (sides m g.at.0) [ inl w ↦ (w.0, w.1, err_same h w.2.is) | inr w ↦ absurd (not_both w.1.next h) ]

    long : length (drafted b.edits) ≡ length es
    long = ap length dr.edits

    -- the draft, where no 20 has met the session
    draft_says : m ≡ None → (e : Edit) (o : Option Refusal) → refusal b.draft.boundary e ≡ o → refusal (after_all (built a) es) e ≡ o
    draft_says mm e o h = ap (λ v. refusal v e) (sym (dr.draft mm)) ∙ h

    -- an edit that does not join leaves the ledger
    edit_no : (e : Edit) (f : SessionFault) → Refused f ≡ edit_told a m es e → with_edit a m es e ≡ es → Goes ss (Apply e) (Refused f) (Editing b)
    edit_no e f reply same = quiet (Editing b) (Editing b) (Apply e) (Refused f) run refl (ap (λ l. led a q (in_batch m l)) same) refl reply tt g g.at

    -- the reply and the phase, as the step has them
    told_as : (c : Call) {r y : Reply} {z p : Phase S} → r ≡ y → z ≡ p → Goes ss c y p → Goes ss c r z
    told_as c {r} {y} {z} {p} er eq h = subst (λ v. Goes ss c v z) (sym er) (subst (Goes ss c y) (sym eq) h)

    edit_yes : (e : Edit) (c : Batch S) → m ≡ None → length es < 16 → refusal (after_all (built a) es) e ≡ None → BatchOf b.session (after b.draft.boundary e) (drafted b.edits ++ e ∷ []) c → Goes ss (Apply e) (Placed (length es)) (Editing c)
    edit_yes e c mm lt ok u = quiet (Editing b) (Editing c) (Apply e) (Placed (length es)) run (ap (λ s. s.disk) (sym u.session))
        (ap (λ l. led a q (in_batch m l)) (ap (λ o. with_edit a o es e) mm ∙ rw (room, ok))) refl (sym (ap (λ o. edit_told a o es e) mm ∙ rw (room, ok))) tt g (
          subst (InSession a q m) (sym u.session) g.at.0,
          record {
            edits = u.edits ∙ ap (λ l. l ++ e ∷ []) dr.edits;
            few = omega (arith, length_push es e);
            draft = λ w. u.draft ∙ ap (λ v. after v e) (dr.draft w) ∙ sym (after_all_append (built a) es (e ∷ []));
            fit = accepted_append (built a) es (e ∷ []) dr.fit (ok, tt);
          },
        )
      where
        room : ltb (length es) 16 ≡ true
        room = lt-ltb (length es) 16 lt

    edits : (z : Phase S) (r : Reply) (e : Edit) (c : Batch S) (x : Result ℕ SessionFault) → Edits b e c x → z ≡ Editing c → r ≡ edit_reply x → Goes ss (Apply e) r z
    edits z r e c x (fault_first f h u v) eq er =
        let w = dirty f h in
        told_as (Apply e) (er ∙ ap edit_reply v) (eq ∙ ap Editing u) (edit_no e (FromJournal f) (ap (λ y. Refused (FromJournal y)) w.2 ∙ sym (ap (λ o. edit_told a o es e) w.1)) (ap (λ o. with_edit a o es e) w.1))
    edits z r e c x (seventeenth h le u v) eq er =
        let mm = no_fault h in
        let full : ltb (length es) 16 ≡ false = le-ltb (length es) 16 (omega (arith, long)) in
        told_as (Apply e) (er ∙ ap edit_reply v) (eq ∙ ap Editing u) (edit_no e (FromSolid TooMany) (sym (ap (λ o. edit_told a o es e) mm ∙ rw full)) (ap (λ o. with_edit a o es e) mm ∙ rw full))
    edits z r e c x (refused w h lt ref u v) eq er =
        let mm = no_fault h in
        let room : ltb (length es) 16 ≡ true = lt-ltb (length es) 16 (omega (arith, long)) in
        let why = draft_says mm e (Some w) ref in
        told_as (Apply e) (er ∙ ap edit_reply v ∙ ap (λ k. Refused (FromSolid (Refuses w k))) long) (eq ∙ ap Editing u)
        (edit_no e (FromSolid (Refuses w (length es))) (sym (ap (λ o. edit_told a o es e) mm ∙ rw (room, why))) (ap (λ o. with_edit a o es e) mm ∙ rw (room, why)))
    edits z r e c x (joined h lt ok u v) eq er =
        let mm = no_fault h in
        told_as (Apply e) (er ∙ ap edit_reply v ∙ ap Placed long) eq (edit_yes e c mm (omega (arith, long)) (draft_says mm e None ok) u)

    -- a commit that is dropped
    commit_no : (f : SessionFault) → drops n a m es ≡ true → Refused f ≡ commit_told n a m es None → Goes ss Commit (Refused f) (Opened b.session)
    commit_no f h reply = quiet (Editing b) (Opened b.session) Commit (Refused f) run refl
        (ap (λ t. cond t (ledgers.staged (led a q (in_batch m es)) (in_session m)) (ledgers.carried (led a q (in_batch m es)) es None)) h) (dropped h refl) reply (commit_promise n a q es m None (Refused f) reply) g g.at.0

    -- a commit that is appended
    module _ (x : Extent) (at : ExtentOf n a x) (mm : m ≡ None) (cl : Clean a q b.session) (some : 0 < length es) (room : x.tail + length es + 1 ≤ x.count) where
      fits_in : blocks a + length es + 1 ≤ n
      fits_in = omega (arith, at.tail, at.count)

      goes_in : drops n a m es ≡ false
      goes_in =
          let x : ltb 0 (length es) ≡ true = lt-ltb 0 (length es) some in
          let y : leb (blocks a + length es + 1) n ≡ true = le-leb (blocks a + length es + 1) n fits_in in
          ap (λ o. drops n a o es) mm ∙ rw (x, y)

      the_plan : plan (next_number x) x.tail es ≡ plan (length a + 1) (blocks a) es
      the_plan = same_plan a es x at (omega arith)

      number : next_number x ≡ length a + 1
      number = numbered a x at (omega arith)

      kept : Kept reads may did d₀ a None b.session.disk
      kept = subst (λ o. Kept reads may did d₀ a o b.session.disk) cl.sure g.kept

      on : (y : Result Extent JournalFault) (e : S) → Appends did b.session.disk x es y e → AppendsOn reads may did d₀ a es y e
      on y e h = appends_on reads may gone did stands keeps d₀ hi x es y e h dr.few a kept at (accepted_in_range (built a) es dr.fit)

      reply_is : (cut : Option DiskFault) → commit_told n a m es cut ≡ carried_told a cut
      reply_is cut =
          let x : ltb 0 (length es) ≡ true = lt-ltb 0 (length es) some in
          let y : leb (blocks a + length es + 1) n ≡ true = le-leb (blocks a + length es + 1) n fits_in in
          ap (λ o. commit_told n a o es cut) mm ∙ rw (x, y)

      after_is : (cut : Option DiskFault) → after_call n (led a q (in_batch m es)) Commit cut ≡ ledgers.carried (led a q (in_batch m es)) es cut
      after_is cut = ap (λ t. cond t (ledgers.staged (led a q (in_batch m es)) (in_session m)) (ledgers.carried (led a q (in_batch m es)) es cut)) goes_in

      commit_yes : (e : S) → Chain did b.session.disk (served (plan (next_number x) x.tail es)) e → Goes ss Commit (KeptAs (next_number x)) (Opened (committed b x e (Ok (extended x (length es)))))
      commit_yes e chain = goes (Editing b) (Opened (committed b x e (Ok (extended x (length es))))) Commit (KeptAs (next_number x)) (served (plan (length a + 1) (blocks a) es)) None run
          (subst (λ ps. Chain did b.session.disk (served ps) e) the_plan chain) (uncut_served (plan (length a + 1) (blocks a) es)) (after_is None) (not_dropped goes_in (all_served refl)) reply (commit_promise n a q es m None _ reply)
          (record {
            kept = subst (λ o. Kept reads may did d₀ (a ++ es ∷ []) o e) (sym cl.sure) left.0;
            fits = subst (Accepted empty) (sym (all_edits_more a es)) (accepted_append empty (all_edits a) es g.fits dr.fit);
            doubt = subst (λ o. Doubted (a ++ es ∷ []) o e) (sym cl.sure) tt;
            at = record {
              place = extended x (length es);
              next = refl;
              solid = dr.draft mm ∙ sym (ap (after_all empty) (all_edits_more a es) ∙ after_all_append empty (all_edits a) es);
              extent = left.1;
              sure = cl.sure;
            };
          })
        where
          left : Kept reads may did d₀ (a ++ es ∷ []) None e × ExtentOf n (a ++ es ∷ []) (extended x (length es))
          left = on (Ok (extended x (length es))) e (carried some room (Ok tt) chain refl)

          reply : KeptAs (next_number x) ≡ commit_told n a m es None
          reply = ap KeptAs number ∙ sym (reply_is None)

      commit_cut : (e : S) (f : DiskFault) → Carried did b.session.disk (plan (next_number x) x.tail es) (Err f) e → Goes ss Commit (told_20 f) (Opened (committed b x e (Err (Disk f))))
      commit_cut e f h = goes (Editing b) (Opened (committed b x e (Err (Disk f)))) Commit (told_20 f) (served (take i p) ++ as_call (get_or p i settle) (Err f) ∷ []) (Some f) run h'.2
          (cut_last (served (take i p)) (as_call (get_or p i settle) (Err f)) f (uncut_served (take i p)) (ap (λ x. ledgers.cut_of (as_call (get_or p i settle) (Err x))) off.power ∙ step_cut (get_or p i settle) off.block ∙ ap Some (sym off.power)))
          (after_is (Some f)) (not_dropped goes_in (cut_at i off.block h'.1 (ap (λ x. served (take i p) ++ as_call (get_or p i settle) (Err x) ∷ []) off.power))) reply (commit_promise n a q es m (Some f) _ reply)
          (record { kept = on (Err (Disk f)) e (carried some room (Err f) h refl); fits = g.fits; doubt = (off.off, dr.fit); at = record { is = refl; off = off.off } })
        where
          p : List Plan
          p = plan (length a + 1) (blocks a) es

          h' : Carried did b.session.disk (plan (length a + 1) (blocks a) es) (Err f) e
          h' = subst (λ ps. Carried did b.session.disk ps (Err f) e) the_plan h

          i : ℕ
          i = h'.0

          off : Cutoff reads may gone did stands keeps a es n fits_in hi some dr.few e f
          off = append_cut reads may gone did stands keeps a es n fits_in hi some dr.few f h'.0 h'.1 (kept_count reads may gone did stands keeps d₀ hi g.kept) (kept_holding reads may gone did stands keeps d₀ hi kept) (accepted_in_range (built a) es dr.fit) h'.2

          reply : told_20 f ≡ commit_told n a m es (Some f)
          reply = sym (reply_is (Some f))

      commit_by : (w : Result (Unit {0}) DiskFault) (e : S) → Carried did b.session.disk (plan (next_number x) x.tail es) w e
          → Goes ss Commit (commit_reply (answered (append_answer x (length es) w))) (Opened (committed b x e (append_answer x (length es) w)))
      commit_by (Ok u) e h = commit_yes e h
      commit_by (Err f) e h = commit_cut e f h

    -- a refused append that made no disk call leaves the session
    same_session : (x : Extent) (e : S) → e ≡ b.session.disk → b.session.next ≡ Ok x → record { disk = e; solid = b.session.solid; next = Ok x } ≡ b.session
    same_session x e same h =
        ap (λ d. record { disk = d; solid = b.session.solid; next = Ok x }) same
        ∙ ap (λ r. record { disk = b.session.disk; solid = b.session.solid; next = r }) (sym h)

    -- the extent of the session is that of the acknowledged batches
    extent_is : (x : Extent) → b.session.next ≡ Ok x → ExtentOf n a x
    extent_is x h = let cl = (clean x h).1 in subst (ExtentOf n a) (ok_same cl.next h) cl.extent

    commits_by : (x : Extent) (y : Result Extent JournalFault) (e : S) → b.session.next ≡ Ok x → Appends did b.session.disk x es y e → Goes ss Commit (commit_reply (answered y)) (Opened (committed b x e y))
    commits_by x y e h (no_edits z is same) =
        let mm = (clean x h).0 in
        let t = (extent_is x h).tail in
        let none_in : ltb 0 (length es) ≡ false = le-ltb 0 (length es) (omega arith) in
        told_as Commit (ap (λ v. commit_reply (answered v)) is ∙ ap (λ k. Refused (FromJournal (NoEdits k))) t) (ap (λ v. Opened (committed b x e v)) is ∙ ap Opened (same_session x e same h))
        (commit_no (FromJournal (NoEdits (blocks a))) (ap (λ o. drops n a o es) mm ∙ rw none_in) (sym (ap (λ o. commit_told n a o es None) mm ∙ rw none_in)))
    commits_by x y e h (no_room some full is same) =
        let mm = (clean x h).0 in
        let at = extent_is x h in
        let in_it : ltb 0 (length es) ≡ true = lt-ltb 0 (length es) some in
        let over : leb (blocks a + length es + 1) n ≡ false = lt-leb (blocks a + length es + 1) n (omega (arith, at.tail, at.count)) in
        told_as Commit (ap (λ v. commit_reply (answered v)) is ∙ ap (λ k. Refused (FromJournal (Full k))) at.tail) (ap (λ v. Opened (committed b x e v)) is ∙ ap Opened (same_session x e same h))
        (commit_no (FromJournal (Full (blocks a))) (ap (λ o. drops n a o es) mm ∙ rw (in_it, over)) (sym (ap (λ o. commit_told n a o es None) mm ∙ rw (in_it, over))))
    commits_by x y e h (carried some room w c is) =
        told_as Commit (ap (λ v. commit_reply (answered v)) is) (ap (λ v. Opened (committed b x e v)) is) (commit_by x (extent_is x h) (clean x h).0 (clean x h).1 some room w e c)

    commits : (z : Phase S) (r : Reply) (s : Session S) (x : Result ℕ SessionFault) → Commits did b s x → z ≡ Opened s → r ≡ commit_reply x → Goes ss Commit r z
    commits z r s y (faulted f h u v) eq er =
        let w = dirty f h in
        told_as Commit (er ∙ ap commit_reply v) (eq ∙ ap Opened u) (commit_no (FromJournal f) (ap (λ o. drops n a o es) w.1) (ap (λ y. Refused (FromJournal y)) w.2 ∙ sym (ap (λ o. commit_told n a o es None) w.1)))
    commits z r s w (appended x h y e c u v) eq er =
        told_as Commit (er ∙ ap commit_reply v) (eq ∙ ap Opened u) (commits_by x y e h (subst (λ l. Appends did b.session.disk x l y e) dr.edits c))

  -- every call, from every phase
  from_idle : {ss : List Step} (a : List (List Edit)) (q : Option (List Edit)) (d : S) (c : Call) (z : Phase S) (r : Reply) → Runs reads may did d₀ ss d (led a q idle) → Agrees a q idle (Idle d) → Stepped reads may did (Idle d) c z r → Goes ss c r z
  from_idle a q d Open z r run g t = opens a q d run g z r t.0 t.1 t.2 t.3 t.4
  from_idle a q d Begin z r run g t = stay (Idle d) z Begin r run g t refl refl refl tt
  from_idle a q d (Apply e) z r run g t = stay (Idle d) z (Apply e) r run g t refl refl refl tt
  from_idle a q d Commit z r run g t = stay (Idle d) z Commit r run g t refl refl refl tt
  from_idle a q d Abandon z r run g t = stay (Idle d) z Abandon r run g t refl refl refl tt
  from_idle a q d Close z r run g t = stay (Idle d) z Close r run g t refl refl refl tt
  from_idle {ss} a q d Lose z r run g t = subst (λ v. Goes ss Lose v z) (sym t.3) (subst (Goes ss Lose Done) (sym t.2) (loses a q idle (Idle d) t.0 run g t.1))

  from_opened : {ss : List Step} (a : List (List Edit)) (q : Option (List Edit)) (m : Option DiskFault) (s : Session S) (c : Call) (z : Phase S) (r : Reply) → Runs reads may did d₀ ss s.disk (led a q (in_session m)) → Agrees a q (in_session m) (Opened s) → Stepped reads may did (Opened s) c z r → Goes ss c r z
  from_opened a q m s Open z r run g t = stay (Opened s) z Open r run g t refl refl refl tt
  from_opened {ss} a q m s Begin z r run g t = subst (λ v. Goes ss Begin v z) (sym t.3) (subst (Goes ss Begin Done) (sym t.2)
      (quiet (Opened s) (Editing t.0) Begin Done run (ap (λ v. v.disk) (sym t.1.session)) refl refl refl tt g
      (subst (InSession a q m) (sym t.1.session) g.at, record { edits = t.1.edits; few = omega arith; draft = λ w. t.1.draft ∙ solid_is m g.at w; fit = tt })))
    where
      solid_is : (o : Option DiskFault) → InSession a q o s → o ≡ None → s.solid.boundary ≡ built a
      solid_is None h w = h.solid
      solid_is (Some f) h w = absurd (not_some w refl)
  from_opened a q m s (Apply e) z r run g t = stay (Opened s) z (Apply e) r run g t refl refl refl tt
  from_opened a q m s Commit z r run g t = stay (Opened s) z Commit r run g t refl refl refl tt
  from_opened a q m s Abandon z r run g t = stay (Opened s) z Abandon r run g t refl refl refl tt
  from_opened {ss} a q m s Close z r run g t = subst (λ v. Goes ss Close v z) (sym t.1) (subst (Goes ss Close Done) (sym t.0) (quiet (Opened s) (Idle s.disk) Close Done run refl refl refl refl tt g tt))
  from_opened {ss} a q m s Lose z r run g t = subst (λ v. Goes ss Lose v z) (sym t.3) (subst (Goes ss Lose Done) (sym t.2) (loses a q (in_session m) (Opened s) t.0 run g t.1))

  from_editing : {ss : List Step} (a : List (List Edit)) (q : Option (List Edit)) (m : Option DiskFault) (es : List Edit) (b : Batch S) (c : Call) (z : Phase S) (r : Reply) → Runs reads may did d₀ ss b.session.disk (led a q (in_batch m es)) → Agrees a q (in_batch m es) (Editing b) → Stepped reads may did (Editing b) c z r → Goes ss c r z
  from_editing a q m es b Open z r run g t = stay (Editing b) z Open r run g t refl refl refl tt
  from_editing a q m es b Begin z r run g t = stay (Editing b) z Begin r run g t refl refl refl tt
  from_editing a q m es b (Apply e) z r run g t = edits a q m es b run g z r e t.0 t.1 t.2 t.3 t.4
  from_editing a q m es b Commit z r run g t = commits a q m es b run g z r t.0 t.1 t.2 t.3 t.4
  from_editing {ss} a q m es b Abandon z r run g t = subst (λ v. Goes ss Abandon v z) (sym t.1) (subst (Goes ss Abandon Done) (sym t.0) (quiet (Editing b) (Opened b.session) Abandon Done run refl refl refl refl tt g g.at.0))
  from_editing a q m es b Close z r run g t = stay (Editing b) z Close r run g t refl refl refl tt
  from_editing {ss} a q m es b Lose z r run g t = subst (λ v. Goes ss Lose v z) (sym t.3) (subst (Goes ss Lose Done) (sym t.2) (loses a q (in_batch m es) (Editing b) t.0 run g t.1))

  by_stage : {ss : List Step} (a : List (List Edit)) (q : Option (List Edit)) (st : Stage) (p : Phase S) (c : Call) (z : Phase S) (r : Reply) → Runs reads may did d₀ ss (disk_of p) (led a q st) → Agrees a q st p → Stepped reads may did p c z r → Goes ss c r z
  by_stage a q idle (Idle d) c z r run g t = from_idle a q d c z r run g t
  by_stage a q idle (Opened s) c z r run g t = absurd g.at
  by_stage a q idle (Editing b) c z r run g t = absurd g.at
  by_stage a q (in_session m) (Idle d) c z r run g t = absurd g.at
  by_stage a q (in_session m) (Opened s) c z r run g t = from_opened a q m s c z r run g t
  by_stage a q (in_session m) (Editing b) c z r run g t = absurd g.at
  by_stage a q (in_batch m es) (Idle d) c z r run g t = absurd g.at
  by_stage a q (in_batch m es) (Opened s) c z r run g t = absurd g.at
  by_stage a q (in_batch m es) (Editing b) c z r run g t = from_editing a q m es b c z r run g t

  pub going_more : {ss : List Step} (p : Phase S) (c : Call) (z : Phase S) (r : Reply) → Going ss p → Stepped reads may did p c z r → Going (ss ++ record { call = c; reply = r } ∷ []) z
  going_more p c z r g t = by_stage g.acknowledged g.doubt g.stage p c z r g.run g.agrees t

  pub going_start : Blank reads may d₀ → Going [] (Idle d₀)
  going_start b = record { acknowledged = []; doubt = None; stage = idle; run = start; agrees = record { kept = blank b; fits = tt; doubt = tt; at = tt } }
