-- The laws of encoding and decoding.
use Rattle.std.proofs.Common.{◌≡◌, ℕ, ◌<◌, ◌≤◌, Bool, true, false, cond, ◌&&◌, ◌||◌, eqb, leb, ◌⊎◌, List, get_or, Some, None, sym, refl, ap, ◌∙◌, subst, inl, inr, arith, lit<}
use Rattle.std.proofs.lemmas.Bool.{and_parts, eqb-true, leb-true, le-leb}
use Rattle.boundary.specs.declared.Point.{Point}
use Rattle.boundary.specs.declared.Edit.{Edit}
use Rattle.boundary.specs.declared.Edit.TheVariants.{Mvfs, Kvfs, Mev, Kev, Mef, Kef, Kemr, Mekr, Kfmrh, Move}
use Rattle.records.specs.declared.Block.{Block}
use Rattle.records.specs.declared.Record.{Record}
use Rattle.records.specs.declared.Record.TheVariants.{Change, Closing}
use Rattle.records.specs.Blocks.{laid, parts, two_at, four_at, fields_at, point_at}
use Rattle.records.specs.Laws.{Fit, Numbered, IsBlock, Parted, RecordsStand}
use Rattle.records.specs.Records.{block_of, bytes_of, used_fields, has_point, zero_past, is_origin, rest_zero, numbered, edit_of, is_change, is_closing, meaning, record_of}
use Rattle.records.proofs.Bytes.{Small, small, whole, laid_parts, parts_laid, laid_block}
use Rattle.records.proofs.Bytes.{fields_small as read_small}
use Rattle.records.proofs.Decoding.{meant, change_meant, closing_meant}
use Rattle.records.proofs.Edits.{kind_back, fields_back, point_back, first_same, all_zero, point_same, edit_back, kind_bounds, five_fields, fields_small, edit_near, origin_near}

rest_of : (n p : ℕ) (e : Edit) → rest_zero (block_of (Change n p e)) ≡ true
rest_of n p (Mvfs a f l v q) = refl
rest_of n p (Kvfs a) = refl
rest_of n p (Mev a k v q) = refl
rest_of n p (Kev h) = refl
rest_of n p (Mef h j k f l) = refl
rest_of n p (Kef h) = refl
rest_of n p (Kemr h l) = refl
rest_of n p (Mekr a c k) = refl
rest_of n p (Kfmrh f g) = refl
rest_of n p (Move v q) = refl

within : (lo hi : ℕ) (b : Block) → 1 ≤ b.number → lo ≤ b.position → b.position ≤ hi → numbered lo hi b ≡ true
within lo hi b n l h = rw (le-leb 1 b.number n, le-leb lo b.position l, le-leb b.position hi h)

pub round : (r : Record) → Fit r → record_of (bytes_of r) ≡ Some r
unfolding record_of bytes_of
round (Change n p e) h =
    ap meaning (parts_laid (block_of (Change n p e)) (record { number = h.1; position = omega (arith, h.0.1); fields = fields_small e; gap = lit< tt; at = edit_near e h.2 }))
    ∙ change_meant (block_of (Change n p e)) (kind_bounds e).0 (kind_bounds e).1 (within 0 15 (block_of (Change n p e)) h.0.0 (omega arith) (omega (arith, h.0.1))) (rest_of n p e)
    ∙ ap (λ x. Some (Change n p x)) (edit_back e h.2)
round (Closing n c) h =
    ap meaning (parts_laid (block_of (Closing n c)) (record { number = h.1; position = omega (arith, h.0.2); fields = small (block_of (Closing n c)).fields refl (lit< tt, (lit< tt, (lit< tt, (lit< tt, (lit< tt, tt))))); gap = lit< tt; at = origin_near }))
    ∙ closing_meant (block_of (Closing n c)) refl (within 1 16 (block_of (Closing n c)) h.0.0 h.0.1 h.0.2) refl

same_block : {k k' s s' : ℕ} (n p : ℕ) {f f' : List ℕ} {g g' : ℕ} {q q' : Point} → k ≡ k' → s ≡ s' → f ≡ f' → g ≡ g' → q ≡ q' → whole k s n p f g q ≡ whole k' s' n p f' g' q'
same_block n p ek es ef eg eq = cc

-- what a block has whose rest is zero
record Rest (b : Block) : Type 0 where
  pub spare : 0 ≡ b.spare
  pub gap : 0 ≡ b.gap
  pub fields : zero_past (used_fields b.kind) b.fields ≡ true
  pub at : (has_point b.kind || is_origin b.at) ≡ true

rest : (b : Block) → rest_zero b ≡ true → Rest b
rest b h =
    let p = and_parts (eqb b.spare 0) _ h in
    let q = and_parts (eqb b.gap 0) _ p.1 in
    let r = and_parts (zero_past (used_fields b.kind) b.fields) _ q.1 in
    record { spare = sym (eqb-true b.spare 0 p.0); gap = sym (eqb-true b.gap 0 q.0); fields = r.0; at = r.1 }

change_back : (b : Block) → Small b.fields → is_change b ≡ true → block_of (Change b.number b.position (edit_of b.kind b.fields b.at)) ≡ b
change_back b s h =
    let p = and_parts (leb 1 b.kind && leb b.kind 10) _ h in
    let k = and_parts (leb 1 b.kind) (leb b.kind 10) p.0 in
    let lo : 1 ≤ b.kind = leb-true 1 b.kind k.0 in
    let hi : b.kind ≤ 10 = leb-true b.kind 10 k.1 in
    let z = rest b (and_parts (numbered 0 15 b) (rest_zero b) p.1).1 in
    same_block b.number b.position (kind_back b.fields b.at b.kind lo hi) z.spare
    (fields_back b.fields b.at s b.kind lo hi ∙ first_same (used_fields b.kind) b.fields z.fields)
    z.gap (point_back b.fields b.at b.kind lo hi ∙ point_same (has_point b.kind) b.at z.at)

closing_back : (b : Block) → Small b.fields → is_closing b ≡ true → block_of (Closing b.number b.position) ≡ b
closing_back b s h =
    let p = and_parts (eqb b.kind 100) _ h in
    let k : b.kind ≡ 100 = eqb-true b.kind 100 p.0 in
    let z = rest b (and_parts (numbered 1 16 b) (rest_zero b) p.1).1 in
    same_block b.number b.position (sym k) z.spare
    (all_zero b.fields s.long (ap (λ j. zero_past (used_fields j) b.fields) (sym k) ∙ z.fields))
    z.gap (point_same false b.at (ap (λ j. has_point j || is_origin b.at) (sym k) ∙ z.at))

-- a block that means a record passes its test
meant_by : (t u : Bool) (x y r : Record) → cond t (Some x) (cond u (Some y) None) ≡ Some r → ((t ≡ true) × (x ≡ r)) ⊎ ((u ≡ true) × (y ≡ r))
meant_by true u x y r e = inl (refl, cc)
meant_by false true x y r e = inr (refl, cc)
meant_by false false x y r e = absurd (let z : ◌≡◌ {A = ℕ} 0 1 = cc in omega arith)

of_block : (b : Block) (r : Record) → meaning b ≡ Some r → ((is_closing b ≡ true) × (Closing b.number b.position ≡ r)) ⊎ ((is_change b ≡ true) × (Change b.number b.position (edit_of b.kind b.fields b.at) ≡ r))
of_block b r e = meant_by (is_closing b) (is_change b) _ _ r e

pub exact : (bs : List ℕ) (r : Record) → IsBlock bs → record_of bs ≡ Some r → bs ≡ bytes_of r
unfolding record_of bytes_of
exact bs r k e = sym (ap laid (elim (of_block (parts bs) r e) [
  | inl c ↦ ap block_of (sym c.1) ∙ closing_back (parts bs) (read_small bs k) c.0
  | inr c ↦ ap block_of (sym c.1) ∙ change_back (parts bs) (read_small bs k) c.0
]) ∙ laid_parts bs k)

counted : (lo hi : ℕ) (b : Block) → numbered lo hi b ≡ true → (1 ≤ b.number) × (lo ≤ b.position) × (b.position ≤ hi)
counted lo hi b h =
    let p = and_parts (leb 1 b.number) _ h in
    let q = and_parts (leb lo b.position) (leb b.position hi) p.1 in
    (leb-true 1 b.number p.0, leb-true lo b.position q.0, leb-true b.position hi q.1)

pub is_numbered : (bs : List ℕ) (r : Record) → record_of bs ≡ Some r → Numbered r
unfolding record_of
is_numbered bs r e = elim (of_block (parts bs) r e) [
  | inl c ↦ subst Numbered c.1 (closing_numbered (parts bs) c.0)
  | inr c ↦ subst Numbered c.1 (change_numbered (parts bs) c.0)
]
  where
    change_numbered : (b : Block) → is_change b ≡ true → (1 ≤ b.number) × (b.position < 16)
    change_numbered b h =
        let n = counted 0 15 b (and_parts (numbered 0 15 b) (rest_zero b) (and_parts (leb 1 b.kind && leb b.kind 10) _ h).1).0 in
        (n.0, omega (arith, n.2))

    closing_numbered : (b : Block) → is_closing b ≡ true → (1 ≤ b.number) × (1 ≤ b.position) × (b.position ≤ 16)
    closing_numbered b h = counted 1 16 b (and_parts (numbered 1 16 b) (rest_zero b) (and_parts (eqb b.kind 100) _ h).1).0

pub whole_block : (r : Record) → IsBlock (bytes_of r)
unfolding bytes_of
whole_block (Change n p e) = laid_block (block_of (Change n p e)) (let h = (kind_bounds e).1 in omega arith) (lit< tt) (five_fields e)
whole_block (Closing n c) = laid_block (block_of (Closing n c)) (lit< tt) (lit< tt) refl

pub stand : RecordsStand
stand = record {
  round = round;
  exact = exact;
  one_block = λ bs cs r k l e f. exact bs r k e ∙ sym (exact cs r l f);
  numbered = is_numbered;
  whole = whole_block;
}

-- what is known of the parts of a block
pub parted : (bs : List ℕ) (b : Block) → IsBlock bs → b ≡ parts bs → Parted bs b
parted bs b k e = record {
  is = e;
  means = meant bs b e;
  back = λ r f. record { same = exact bs r k f; numbered = is_numbered bs r f };
}

pub parted_by : (bs : List ℕ) {n p g : ℕ} {f : List ℕ} {q : Point} → IsBlock bs → n ≡ four_at bs 2 → p ≡ two_at bs 6 → f ≡ fields_at bs → g ≡ two_at bs 18 → q ≡ point_at bs → Parted bs (whole (get_or bs 0 0) (get_or bs 1 0) n p f g q)
unfolding parts
parted_by bs k en ep ef eg eq = parted bs _ k (same_parts en ep ef eg eq)
  where
    same_parts : {n n' p p' g g' : ℕ} {f f' : List ℕ} {q q' : Point} → n ≡ n' → p ≡ p' → f ≡ f' → g ≡ g' → q ≡ q' → whole (get_or bs 0 0) (get_or bs 1 0) n p f g q ≡ whole (get_or bs 0 0) (get_or bs 1 0) n' p' f' g' q'
    same_parts a b c d e = cc
