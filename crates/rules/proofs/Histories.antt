-- Every accepted edit keeps the rules, and so does every list of edits from the empty boundary on.
use Rattle.std.proofs.Common.{◌≡◌, ℕ, ◌+◌, ◌<◌, Bool, true, false, cond, eqb, List, [], ◌∷◌, Some, None, Option, sym, refl, ◌∙◌, subst, arith}
use Rattle.std.proofs.lemmas.Bool.{and_parts}
use Rattle.boundary.specs.declared.Boundary.{Boundary}
use Rattle.boundary.specs.declared.Edit.{Edit}
use Rattle.boundary.specs.declared.Edit.TheVariants.{Mvfs, Kvfs, Mev, Kev, Mef, Kef, Kemr, Mekr, Kfmrh, Move}
use Rattle.boundary.specs.declared.Refusal.{Refusal}
use Rattle.boundary.specs.Changes.{emptied}
use Rattle.boundary.specs.Operators.{empty, named, applied, led_place}
use Rattle.boundary.specs.Refusals.{in_range, is_shell, is_face, is_loop, is_edge, is_vertex, is_half, is_place, refusal, refusal_within, after, unchanged}
use Rattle.boundary.specs.Tables.{face_shell, is_half_place}
use Rattle.rules.specs.Rules.{Sound}
use Rattle.rules.specs.Histories.{after_all, handles_of, new_handles, handles_made, unless_refused, StaysSound}
use Rattle.rules.proofs.Accepted.{accepted, below_named, place_named}
use Rattle.rules.proofs.Counts.{one_more_is}
use Rattle.rules.proofs.EmptyBoundary.{empty_sound}
use Rattle.rules.proofs.Move.{move_keeps}
use Rattle.rules.proofs.Mvfs.{mvfs_keeps}
use Rattle.rules.proofs.Kvfs.{kvfs_keeps}
use Rattle.rules.proofs.Mev.{mev_keeps}
use Rattle.rules.proofs.Kev.{kev_keeps}
use Rattle.rules.proofs.Mef.{mef_keeps}
use Rattle.rules.proofs.Kef.{kef_keeps}
use Rattle.rules.proofs.Kemr.{kemr_keeps}
use Rattle.rules.proofs.Mekr.{mekr_keeps}
use Rattle.rules.proofs.Kfmrh.{kfmrh_keeps}

small : (n : ℕ) (z : lib.IntN.ℤ) → n < 65537 → Rattle.boundary.specs.Refusals.below n z ≡ true → named z < n
small n z le = below_named n z (omega arith)

-- an edit in range that its operator does not refuse
within_keeps : (b : Boundary) (e : Edit) → Sound b → in_range e ≡ true → refusal_within b e ≡ None → Sound (applied b e)
unfolding refusal_within applied
within_keeps b (Mvfs a f l v p) s r q =
    let x = and_parts (is_shell a) _ r in
    let y = and_parts (is_face f) _ x.1 in
    let z = and_parts (is_loop l) _ y.1 in
    let w = and_parts (is_vertex v) _ z.1 in
    mvfs_keeps b _ _ _ _ p s (small 8 a (omega arith) x.0) (small 96 f (omega arith) y.0) (small 96 l (omega arith) z.0) (small 128 v (omega arith) w.0) q
within_keeps b (Kvfs a) s r q = kvfs_keeps b _ s (small 8 a (omega arith) r) q
within_keeps b (Mev a k v p) s r q =
    let x = and_parts (is_place a) _ r in
    let y = and_parts (is_edge k) _ x.1 in
    let z = and_parts (is_vertex v) _ y.1 in
    mev_keeps b _ _ _ p s (place_named a x.0) (small 192 k (omega arith) y.0) (small 128 v (omega arith) z.0) q
within_keeps b (Kev h) s r q = kev_keeps b _ s (small 384 h (omega arith) r) q
within_keeps b (Mef h j k f l) s r q =
    let x = and_parts (is_half h) _ r in
    let y = and_parts (is_half j) _ x.1 in
    let z = and_parts (is_edge k) _ y.1 in
    let w = and_parts (is_face f) _ z.1 in
    mef_keeps b _ _ _ _ _ s (small 384 h (omega arith) x.0) (small 384 j (omega arith) y.0) (small 192 k (omega arith) z.0) (small 96 f (omega arith) w.0) (small 96 l (omega arith) w.1) q
within_keeps b (Kef h) s r q = kef_keeps b _ s (small 384 h (omega arith) r) q
within_keeps b (Kemr h l) s r q =
    let x = and_parts (is_half h) _ r in
    kemr_keeps b _ _ s (small 384 h (omega arith) x.0) (small 96 l (omega arith) x.1) q
within_keeps b (Mekr a c k) s r q =
    let x = and_parts (is_place a) _ r in
    let y = and_parts (is_place c) _ x.1 in
    mekr_keeps b _ _ _ s (place_named a x.0) (place_named c y.0) (small 192 k (omega arith) y.1) q
within_keeps b (Kfmrh f g) s r q =
    let x = and_parts (is_face f) _ r in
    kfmrh_keeps b _ _ s (small 96 f (omega arith) x.0) (small 96 g (omega arith) x.1) q
within_keeps b (Move v p) s r q =
    let x = and_parts (is_vertex v) _ r in
    move_keeps b _ p s (small 128 v (omega arith) x.0) q

pub after_keeps : (b : Boundary) (e : Edit) → Sound b → Sound (after b e)
unfolding after
after_keeps b e s = go (refusal b e) refl
  where
    go : (o : Option Refusal) → refusal b e ≡ o → Sound (unchanged (refusal b e) b (applied b e))
    go None q = let a = accepted b e q in subst (λ o. Sound (unchanged o b (applied b e))) (sym q) (within_keeps b e s a.0 a.1)
    go (Some why) q = subst (λ o. Sound (unchanged o b (applied b e))) (sym q) s

-- what an edit does to the handles
emptied_handles : (t : Bool) (b : Boundary) (l v : ℕ) → (emptied t b l v).handles ≡ b.handles
emptied_handles true b l v = refl
emptied_handles false b l v = refl

either_handles : (t : Bool) (x y : Boundary) (n : ℕ) → x.handles ≡ n → y.handles ≡ n → (cond t x y).handles ≡ n
either_handles true x y n p q = p
either_handles false x y n p q = q

place_handles : (b : Boundary) (a x : ℕ) → (led_place b a x).handles ≡ b.handles
place_handles b a x = either_handles (is_half_place a) _ _ _ refl refl

connected_handles : (t : Bool) (x y : Boundary) (n : ℕ) → x.handles ≡ n + 1 → y.handles ≡ n → (cond t x y).handles ≡ n + cond t 1 0
connected_handles true x y n p q = p
connected_handles false x y n p q = q ∙ (let z : n ≡ n + 0 = omega arith in z)

no_more : (m n : ℕ) → m ≡ n → m ≡ n + 0
no_more m n e = omega arith

applied_handles : (b : Boundary) (e : Edit) → Sound b → (applied b e).handles ≡ b.handles + handles_of b e
unfolding applied
applied_handles b (Mvfs a f l v p) s = no_more _ _ refl
applied_handles b (Kvfs a) s = no_more _ _ refl
applied_handles b (Mev a k v p) s = no_more _ _ (either_handles (is_half_place (named a)) _ _ _ refl refl)
applied_handles b (Kev h) s = no_more _ _ (emptied_handles _ _ _ _)
applied_handles b (Mef h j k f l) s = no_more _ _ refl
applied_handles b (Kef h) s = no_more _ _ (emptied_handles _ _ _ _)
applied_handles b (Kemr h l) s = no_more _ _ (emptied_handles _ _ _ _)
applied_handles b (Mekr a c k) s = no_more _ _ (place_handles _ (named c) _ ∙ place_handles _ (named a) _)
applied_handles b (Kfmrh f g) s = connected_handles (eqb (face_shell b (named f)) (face_shell b (named g))) _ _ _ (one_more_is b s.sizes s.balanced) refl
applied_handles b (Move v p) s = no_more _ _ refl

after_handles : (b : Boundary) (e : Edit) → Sound b → (after b e).handles ≡ b.handles + new_handles b e
unfolding after
after_handles b e s = go (refusal b e)
  where
    go : (o : Option Refusal) → (unchanged o b (applied b e)).handles ≡ b.handles + unless_refused o (handles_of b e)
    go None = applied_handles b e s
    go (Some why) = no_more _ _ refl

pub all_keep : (b : Boundary) (es : List Edit) → Sound b → Sound (after_all b es)
all_keep b [] s = s
all_keep b (e ∷ es) s = all_keep (after b e) es (after_keeps b e s)

pub all_handles : (b : Boundary) (es : List Edit) → Sound b → (after_all b es).handles ≡ b.handles + handles_made b es
all_handles b [] s = no_more _ _ refl
all_handles b (e ∷ es) s = omega (arith, all_handles (after b e) es (after_keeps b e s), after_handles b e s)

pub stays_sound : (es : List Edit) → StaysSound es
stays_sound es = record { sound = all_keep empty es empty_sound; handles = all_handles empty es empty_sound ∙ (let z : 0 + handles_made empty es ≡ handles_made empty es = omega arith in z) }
