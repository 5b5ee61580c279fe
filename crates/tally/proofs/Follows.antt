-- The counts follow the ledger, through every call and every loss.
use Rattle.std.proofs.Common.{◌≡◌, ℕ, ◌+◌, ◌<◌, ◌≤◌, Bool, true, false, cond, not, ◌&&◌, ltb, leb, List, [], ◌∷◌, ◌++◌, length, get_or, is_some, Some, None, Option, unwrap_or, sym, refl, ap, ◌∙◌, subst, arith, ltb-true, leb-true}
use Rattle.std.proofs.lemmas.List.{length_push}
use Rattle.std.specs.Option.{option_map}
use Rattle.boundary.specs.declared.Edit.{Edit}
use Rattle.boundary.specs.declared.Refusal.{Refusal}
use Rattle.boundary.specs.Refusals.{refusal}
use Rattle.disk.specs.declared.Content.{Content}
use Rattle.disk.specs.declared.Content.TheVariants.{Unreadable}
use Rattle.disk.specs.declared.DiskFault.{DiskFault}
use Rattle.faults.specs.declared.SolidFault.TheVariants.{TooMany}
use Rattle.faults.specs.declared.JournalFault.TheVariants.{Full, NoEdits}
use Rattle.faults.specs.declared.SessionFault.TheVariants.{FromJournal, FromSolid}
use Rattle.rules.specs.Histories.{after_all}
use Rattle.standing.specs.Batches.{blocks}
use Rattle.standing.specs.Standing.{record_in, closes}
use Rattle.standing.proofs.Layouts.{blocks_more, few_blocks}
use Rattle.runs.specs.declared.Call.{Call}
use Rattle.runs.specs.declared.Call.TheVariants.{Open, Begin, Apply, Commit, Abandon, Close, Lose}
use Rattle.runs.specs.declared.Reply.{Reply}
use Rattle.runs.specs.declared.Reply.TheVariants.{Kept, Refused}
use Rattle.runs.specs.Ledgers.{Ledger, Stage, idle, in_session, in_batch, built, staged, carried, after_at, after_call, after_loss}
use Rattle.runs.specs.Laws.{open_told, draft_told, carried_told, foretold}
use Rattle.runs.proofs.Agreements.{led}
use Rattle.tally.specs.declared.Tally.{Tally}
use Rattle.tally.specs.Tallies.{tally_of, sum, noted, by_open, by_edit, by_commit, lost, lost_by, at_rest, acknowledged, with_begun, doubtful}

-- one batch more, in counts
tally_eq : {b b' t t' : ℕ} {o o' p p' : Option ℕ} {f f' : Bool} → b ≡ b' → t ≡ t' → o ≡ o' → p ≡ p' → f ≡ f'
    → ◌≡◌ {A = Tally} (record { batches = b; tail = t; begun = o; doubt = p; faulted = f }) (record { batches = b'; tail = t'; begun = o'; doubt = p'; faulted = f' })
tally_eq a b c d e = λ i. record { batches = a i; tail = b i; begun = c i; doubt = d i; faulted = e i }

module _ (n : ℕ) (a : List (List Edit)) (q : Option (List Edit)) (small : n ≤ 1000) where
  opens : (cut : Option DiskFault) → by_open (tally_of (led a q idle)) (open_told a cut) ≡ tally_of (led a q (in_session cut))
  opens None = refl
  opens (Some f) = refl

  edits : (es : List Edit) (e : Edit) (b : Bool) (o : Option Refusal) → (b ≡ true → length es < 16)
      → by_edit (tally_of (led a q (in_batch None es))) (cond b (draft_told (length es) o) (Refused (FromSolid TooMany))) ≡ tally_of (led a q (in_batch None (cond (b && not (is_some o)) (es ++ e ∷ []) es)))
  edits es e true None few = let lt = few refl in tally_eq refl refl (ap Some (let z : sum (length es) 1 ≡ length (es ++ e ∷ []) = omega (arith, length_push es e) in z)) refl refl
  edits es e true (Some why) few = refl
  edits es e false o few = refl

  appends : (es : List Edit) (cut : Option DiskFault) → blocks a + length es + 1 ≤ n → by_commit (tally_of (led a q (in_batch None es))) (carried_told a cut) ≡ tally_of (carried (led a q (in_batch None es)) es cut)
  appends es None room =
      tally_eq (sym (length_push a es)) (let z : sum (sum (blocks a) (length es)) 1 ≡ blocks (a ++ es ∷ []) = omega (arith, blocks_more a es) in z) refl refl refl
  appends es (Some f) room = refl

  commits : (es : List Edit) (x y : Bool) (cut : Option DiskFault) → (y ≡ true → blocks a + length es + 1 ≤ n)
      → by_commit (tally_of (led a q (in_batch None es))) (cond x (cond y (carried_told a cut) (Refused (FromJournal (Full (blocks a))))) (Refused (FromJournal (NoEdits (blocks a)))))
      ≡ tally_of (cond (not (x && y)) (staged (led a q (in_batch None es)) (in_session None)) (carried (led a q (in_batch None es)) es cut))
  commits es true true cut room = appends es cut (room refl)
  commits es true false cut room = refl
  commits es false y cut room = refl

  follows_at : (st : Stage) (c : Call) (cut : Option DiskFault) → noted (tally_of (led a q st)) c (foretold n a st c cut) ≡ tally_of (after_at n (led a q st) st c cut)
  follows_at idle Open cut = opens cut
  follows_at (in_session m) Open cut = refl
  follows_at (in_batch m es) Open cut = refl
  follows_at idle Begin cut = refl
  follows_at (in_session m) Begin cut = refl
  follows_at (in_batch m es) Begin cut = refl
  follows_at idle (Apply e) cut = refl
  follows_at (in_session m) (Apply e) cut = refl
  follows_at (in_batch (Some f) es) (Apply e) cut = refl
  follows_at (in_batch None es) (Apply e) cut = edits es e (ltb (length es) 16) (refusal (after_all (built a) es) e) (ltb-true (length es) 16)
  follows_at idle Commit cut = refl
  follows_at (in_session m) Commit cut = refl
  follows_at (in_batch (Some f) es) Commit cut = refl
  follows_at (in_batch None es) Commit cut = commits es (ltb 0 (length es)) (leb (blocks a + length es + 1) n) cut (leb-true (blocks a + length es + 1) n)
  follows_at idle Abandon cut = refl
  follows_at (in_session m) Abandon cut = refl
  follows_at (in_batch m es) Abandon cut = refl
  follows_at idle Close cut = refl
  follows_at (in_session m) Close cut = refl
  follows_at (in_batch m es) Close cut = refl
  follows_at idle Lose cut = refl
  follows_at (in_session m) Lose cut = refl
  follows_at (in_batch m es) Lose cut = refl

pub follows : (t z : Tally) (c : Call) (r : Reply) → z ≡ noted t c r → (n : ℕ) (l : Ledger) (cut : Option DiskFault) → n ≤ 1000 → t ≡ tally_of l → r ≡ foretold n l.acknowledged l.stage c cut → z ≡ tally_of (after_call n l c cut)
follows t z c r is n l cut small at told = is ∙ ap (λ x. noted x c r) at ∙ ap (noted (tally_of l) c) told ∙ follows_at n l.acknowledged l.doubt small l.stage c cut

-- a loss
module _ (a : List (List Edit)) (st : Stage) (cs : List Content) (small : blocks a ≤ 1000) where
  -- the counts where the batch in doubt is found whole, or not
  whole : List Edit → Tally
  whole es = at_rest (acknowledged (with_begun (tally_of (led a (Some es) st)) (Some (length es))) (sum (length a) 1))

  settles : (es : List Edit) (b : Bool) → length es ≤ 16 → cond b (whole es) (at_rest (tally_of (led a (Some es) st))) ≡ tally_of (led (cond b (a ++ es ∷ []) a) None idle)
  unfolding whole
  settles es true few =
      tally_eq (let z : sum (length a) 1 ≡ length (a ++ es ∷ []) = omega (arith, length_push a es, few_blocks a) in z) (let z : sum (sum (blocks a) (length es)) 1 ≡ blocks (a ++ es ∷ []) = omega (arith, blocks_more a es) in z) refl refl refl
  settles es false few = refl

  lost_at : (q : Option (List Edit)) (c : Content) → unwrap_or (option_map length q) 0 ≤ 16 → c ≡ get_or cs (unwrap_or (doubtful (tally_of (led a q st))) 0) Unreadable → lost (tally_of (led a q st)) c ≡ tally_of (after_loss (led a q st) cs)
  unfolding whole
  lost_at None c few here = refl
  lost_at (Some es) c few here =
      let k : sum (blocks a) (length es) ≡ blocks a + length es = omega arith in
      let m : sum (length a) 1 ≡ length a + 1 = omega (arith, few_blocks a) in
      let same : closes (record_in c) (sum (length a) 1) (length es) ≡ closes (record_in (get_or cs (blocks a + length es) Unreadable)) (length a + 1) (length es) =
      ap (λ x. closes (record_in x) (sum (length a) 1) (length es)) (here ∙ ap (λ j. get_or cs j Unreadable) k) ∙ ap (λ j. closes (record_in (get_or cs (blocks a + length es) Unreadable)) j (length es)) m in
      ap (λ b. cond b (whole es) (at_rest (tally_of (led a (Some es) st)))) same ∙ settles es (closes (record_in (get_or cs (blocks a + length es) Unreadable)) (length a + 1) (length es)) few

pub lost_follows : (t z : Tally) (c : Content) → z ≡ lost t c → (l : Ledger) (cs : List Content) → blocks l.acknowledged ≤ 1000 → unwrap_or t.doubt 0 ≤ 16 → t ≡ tally_of l → c ≡ get_or cs (unwrap_or (doubtful t) 0) Unreadable → z ≡ tally_of (after_loss l cs)
lost_follows t z c is l cs small few at here =
    is ∙ ap (λ x. lost x c) at
    ∙ lost_at l.acknowledged l.stage cs small l.doubt c (subst (λ x. unwrap_or x.doubt 0 ≤ 16) at few) (here ∙ ap (λ x. get_or cs (unwrap_or (doubtful x) 0) Unreadable) at)

-- the counts as the code changes them
pub kept : {c : Call} {r : Reply} {k : ℕ} {s : Tally} (t : Tally) → c ≡ Commit → r ≡ Kept k → s ≡ acknowledged t k → s ≡ noted t c r
kept {r = r} t p q w = w ∙ sym (ap (λ x. noted t x r) p ∙ ap (by_commit t) q)

module _ (t s : Tally) (c : Content) where
  by_test : {k m : ℕ} {b : Bool} → t.doubt ≡ Some k → m ≡ sum t.batches 1 → b ≡ closes (record_in c) m k → lost t c ≡ cond b (at_rest (acknowledged (with_begun t (Some k)) m)) (at_rest t)
  by_test {k} {m} p q w =
      ap (λ o. lost_by t o c) p
      ∙ ap (λ j. cond (closes (record_in c) j k) (at_rest (acknowledged (with_begun t (Some k)) j)) (at_rest t)) (sym q)
      ∙ ap (λ v. cond v (at_rest (acknowledged (with_begun t (Some k)) m)) (at_rest t)) (sym w)

  pub found_whole : {k m : ℕ} {b : Bool} → t.doubt ≡ Some k → m ≡ sum t.batches 1 → b ≡ closes (record_in c) m k → b ≡ true → s ≡ acknowledged (with_begun t (Some k)) m → at_rest s ≡ lost t c
  found_whole {k} {m} p q w v e = ap at_rest e ∙ sym (by_test p q w ∙ ap (λ x. cond x (at_rest (acknowledged (with_begun t (Some k)) m)) (at_rest t)) v)

  pub found_none : {k m : ℕ} {b : Bool} → t.doubt ≡ Some k → m ≡ sum t.batches 1 → b ≡ closes (record_in c) m k → b ≡ false → s ≡ t → at_rest s ≡ lost t c
  found_none {k} {m} p q w v e = ap at_rest e ∙ sym (by_test p q w ∙ ap (λ x. cond x (at_rest (acknowledged (with_begun t (Some k)) m)) (at_rest t)) v)

  pub no_doubt : t.doubt ≡ None → s ≡ t → at_rest s ≡ lost t c
  no_doubt p e = ap at_rest e ∙ sym (ap (λ o. lost_by t o c) p)
