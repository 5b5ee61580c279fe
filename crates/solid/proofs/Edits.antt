-- From an edit to the operator that carries it out: its numbers are in range, and what the operator decides is what is to be decided of the edit.
use Rattle.std.proofs.Common.{◌≡◌, ℕ, true, false, ℤ, Err, Option, Result, sym, ap, ◌∙◌, subst}
use Rattle.boundary.specs.declared.Point.{Point}
use Rattle.boundary.specs.declared.Boundary.{Boundary}
use Rattle.boundary.specs.declared.Edit.{Edit}
use Rattle.boundary.specs.declared.Edit.TheVariants.{Mvfs, Kvfs, Mev, Kev, Mef, Kef, Kemr, Mekr, Kfmrh, Move}
use Rattle.boundary.specs.declared.Refusal.{Refusal}
use Rattle.boundary.specs.declared.Refusal.TheVariants.{OutOfRange}
use Rattle.boundary.specs.Operators.{named, applied, mvfs, kvfs, mev, kev, mef, kef, kemr, mekr, kfmrh, move}
use Rattle.boundary.specs.Refusals.{in_range, refusal, refusal_within, mvfs_refusal, kvfs_refusal, mev_refusal, kev_refusal, mef_refusal, kef_refusal, kemr_refusal, mekr_refusal, kfmrh_refusal, move_refusal, after, answer, unless, unchanged}
use Rattle.rules.specs.Rules.{Sound}
use Rattle.rules.proofs.Histories.{after_keeps}
use Rattle.solid.specs.Steps.{Decided}

-- what a call that is asked for an edit answers and leaves
pub record Done (b : Boundary) (e : Edit) (r : Result (Unit {0}) Refusal) (b' : Boundary) : Type 0 where
  pub reply : r ≡ answer (refusal b e)
  pub left : b' ≡ after b e
  pub sound : Sound b → Sound b'

-- an edit keeps the rules
done : (b : Boundary) (e : Edit) (r : Result (Unit {0}) Refusal) (b' : Boundary) → r ≡ answer (refusal b e) → b' ≡ after b e → Done b e r b'
done b e r b' reply left = record { reply = reply; left = left; sound = λ s. subst Sound (sym left) (after_keeps b e s) }

pub out_of_range : (b : Boundary) (e : Edit) → false ≡ in_range e → Done b e (Err OutOfRange) b
unfolding refusal after
out_of_range b e h =
    done b e _ b (ap (λ t. answer (unless t OutOfRange (refusal_within b e))) h)
    (ap (λ t. unchanged (unless t OutOfRange (refusal_within b e)) b (applied b e)) h)

pub decided : (b : Boundary) (e : Edit) (o : Option Refusal) (new : Boundary) (r : Result (Unit {0}) Refusal) (b' : Boundary) → true ≡ in_range e → o ≡ refusal_within b e → new ≡ applied b e → Decided o b new r b' → Done b e r b'
unfolding refusal after
decided b e o new r b' h eo en d =
    done b e r b' (d.reply ∙ ap answer (eo ∙ ap (λ t. unless t OutOfRange (refusal_within b e)) h))
    (d.leaves ∙ (λ i. unchanged (eo i) b (en i)) ∙ ap (λ t. unchanged (unless t OutOfRange (refusal_within b e)) b (applied b e)) h)

-- an edit in range, each number as the code narrows it, and what its operator decided
module _ (e : Edit) (h : true ≡ in_range e) where
  module _ (a f l v : ℤ) (p : Point) (is : e ≡ Mvfs a f l v p) (a' f' l' v' : ℕ) (ea : a' ≡ named a) (ef : f' ≡ named f) (el : l' ≡ named l) (ev : v' ≡ named v) where
    pub mvfs_done : (b : Boundary) (r : Result (Unit {0}) Refusal) (b' : Boundary) → Decided (mvfs_refusal b a' f' l' v') b (mvfs b a' f' l' v' p) r b' → Done b e r b'
    unfolding refusal_within applied
    mvfs_done b r b' d =
        decided b e _ _ r b' h
        ((λ i. mvfs_refusal b (ea i) (ef i) (el i) (ev i)) ∙ ap (refusal_within b) (sym is))
        ((λ i. mvfs b (ea i) (ef i) (el i) (ev i) p) ∙ ap (applied b) (sym is)) d

  module _ (a : ℤ) (is : e ≡ Kvfs a) (a' : ℕ) (ea : a' ≡ named a) where
    pub kvfs_done : (b : Boundary) (r : Result (Unit {0}) Refusal) (b' : Boundary) → Decided (kvfs_refusal b a') b (kvfs b a') r b' → Done b e r b'
    unfolding refusal_within applied
    kvfs_done b r b' d =
        decided b e _ _ r b' h
        ((λ i. kvfs_refusal b (ea i)) ∙ ap (refusal_within b) (sym is))
        ((λ i. kvfs b (ea i)) ∙ ap (applied b) (sym is)) d

  module _ (a k v : ℤ) (p : Point) (is : e ≡ Mev a k v p) (a' k' v' : ℕ) (ea : a' ≡ named a) (ek : k' ≡ named k) (ev : v' ≡ named v) where
    pub mev_done : (b : Boundary) (r : Result (Unit {0}) Refusal) (b' : Boundary) → Decided (mev_refusal b a' k' v') b (mev b a' k' v' p) r b' → Done b e r b'
    unfolding refusal_within applied
    mev_done b r b' d =
        decided b e _ _ r b' h
        ((λ i. mev_refusal b (ea i) (ek i) (ev i)) ∙ ap (refusal_within b) (sym is))
        ((λ i. mev b (ea i) (ek i) (ev i) p) ∙ ap (applied b) (sym is)) d

  module _ (j : ℤ) (is : e ≡ Kev j) (j' : ℕ) (ej : j' ≡ named j) where
    pub kev_done : (b : Boundary) (r : Result (Unit {0}) Refusal) (b' : Boundary) → Decided (kev_refusal b j') b (kev b j') r b' → Done b e r b'
    unfolding refusal_within applied
    kev_done b r b' d =
        decided b e _ _ r b' h
        ((λ i. kev_refusal b (ej i)) ∙ ap (refusal_within b) (sym is))
        ((λ i. kev b (ej i)) ∙ ap (applied b) (sym is)) d

  module _ (x y k f l : ℤ) (is : e ≡ Mef x y k f l) (x' y' k' f' l' : ℕ) (ex : x' ≡ named x) (ey : y' ≡ named y) (ek : k' ≡ named k) (ef : f' ≡ named f) (el : l' ≡ named l) where
    pub mef_done : (b : Boundary) (r : Result (Unit {0}) Refusal) (b' : Boundary) → Decided (mef_refusal b x' y' k' f' l') b (mef b x' y' k' f' l') r b' → Done b e r b'
    unfolding refusal_within applied
    mef_done b r b' d =
        decided b e _ _ r b' h
        ((λ i. mef_refusal b (ex i) (ey i) (ek i) (ef i) (el i)) ∙ ap (refusal_within b) (sym is))
        ((λ i. mef b (ex i) (ey i) (ek i) (ef i) (el i)) ∙ ap (applied b) (sym is)) d

  module _ (j : ℤ) (is : e ≡ Kef j) (j' : ℕ) (ej : j' ≡ named j) where
    pub kef_done : (b : Boundary) (r : Result (Unit {0}) Refusal) (b' : Boundary) → Decided (kef_refusal b j') b (kef b j') r b' → Done b e r b'
    unfolding refusal_within applied
    kef_done b r b' d =
        decided b e _ _ r b' h
        ((λ i. kef_refusal b (ej i)) ∙ ap (refusal_within b) (sym is))
        ((λ i. kef b (ej i)) ∙ ap (applied b) (sym is)) d

  module _ (j l : ℤ) (is : e ≡ Kemr j l) (j' l' : ℕ) (ej : j' ≡ named j) (el : l' ≡ named l) where
    pub kemr_done : (b : Boundary) (r : Result (Unit {0}) Refusal) (b' : Boundary) → Decided (kemr_refusal b j' l') b (kemr b j' l') r b' → Done b e r b'
    unfolding refusal_within applied
    kemr_done b r b' d =
        decided b e _ _ r b' h
        ((λ i. kemr_refusal b (ej i) (el i)) ∙ ap (refusal_within b) (sym is))
        ((λ i. kemr b (ej i) (el i)) ∙ ap (applied b) (sym is)) d

  module _ (a c k : ℤ) (is : e ≡ Mekr a c k) (a' c' k' : ℕ) (ea : a' ≡ named a) (ec : c' ≡ named c) (ek : k' ≡ named k) where
    pub mekr_done : (b : Boundary) (r : Result (Unit {0}) Refusal) (b' : Boundary) → Decided (mekr_refusal b a' c' k') b (mekr b a' c' k') r b' → Done b e r b'
    unfolding refusal_within applied
    mekr_done b r b' d =
        decided b e _ _ r b' h
        ((λ i. mekr_refusal b (ea i) (ec i) (ek i)) ∙ ap (refusal_within b) (sym is))
        ((λ i. mekr b (ea i) (ec i) (ek i)) ∙ ap (applied b) (sym is)) d

  module _ (f g : ℤ) (is : e ≡ Kfmrh f g) (f' g' : ℕ) (ef : f' ≡ named f) (eg : g' ≡ named g) where
    pub kfmrh_done : (b : Boundary) (r : Result (Unit {0}) Refusal) (b' : Boundary) → Decided (kfmrh_refusal b f' g') b (kfmrh b f' g') r b' → Done b e r b'
    unfolding refusal_within applied
    kfmrh_done b r b' d =
        decided b e _ _ r b' h
        ((λ i. kfmrh_refusal b (ef i) (eg i)) ∙ ap (refusal_within b) (sym is))
        ((λ i. kfmrh b (ef i) (eg i)) ∙ ap (applied b) (sym is)) d

  module _ (v : ℤ) (p : Point) (is : e ≡ Move v p) (v' : ℕ) (ev : v' ≡ named v) where
    pub move_done : (b : Boundary) (r : Result (Unit {0}) Refusal) (b' : Boundary) → Decided (move_refusal b v') b (move b v' p) r b' → Done b e r b'
    unfolding refusal_within applied
    move_done b r b' d =
        decided b e _ _ r b' h
        ((λ i. move_refusal b (ev i)) ∙ ap (refusal_within b) (sym is))
        ((λ i. move b (ev i) p) ∙ ap (applied b) (sym is)) d
