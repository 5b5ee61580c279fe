-- The settling disk keeps the power rule, and its loss call leaves what the rule allows.
use Rattle.std.specs.Prelude.{◌≡◌, ℕ, zero, suc, ◌+◌, ◌<◌, ◌≤◌, Bool, true, false, cond, ◌⊎◌, List, [], ◌∷◌, ◌++◌, map, length, get_or, take, drop, set, Some, None, Ok, Err, Option, ◌==◌, slice_index, slice_index_or, slice_set, refl}
use Rattle.std.proofs.Common.{sym, ap, subst, ◌∙◌, inl, inr, arith}
use Rattle.std.proofs.Math.Decide.{ℕ_discrete}
use Rattle.std.proofs.lemmas.List.{append-nil, append_assoc, take_all, drop_all, take_more, drop_more, set_at, get_or_at, length-take-le, get_or-set_same, get_or-set_other, map-set, length-map, length-set, set_past, length-replicate, get_or-replicate}
use Rattle.std.proofs.lemmas.Option.{get_or_from_slice_get, slice_get_within}
use Rattle.std.proofs.Math.ListN.{get_or-map}
use Rattle.std.specs.List.{slice_get}
use Rattle.std.specs.Option.{unwrap_or, ok_or}
use Rattle.disk.specs.declared.Content.{Content}
use Rattle.disk.specs.declared.Content.TheVariants.{Bytes, Unreadable}
use Rattle.disk.specs.declared.Cell.{Cell}
use Rattle.disk.specs.declared.DiskFault.{DiskFault}
use Rattle.disk.specs.declared.DiskFault.TheVariants.{NoSuchBlock}
use Rattle.disk.specs.Calls.{Call, reading, writing, flushing}
use Rattle.disk.specs.Rule.{Allowed, Same, Settled, Gains}
use Rattle.disk.specs.Contents.{zeros}
use Rattle.disk.specs.Losses.{AfterLoss, Blank}
use Rattle.disk.specs.Settlings.{read_cell, still, no_cell, read_all, MayStand, May, read_answer, write_answer, written, write_at, settle_cell, Went, lost_cell, changed, lost, blank_cells}

may_read : (a : Cell) → MayStand a (read_cell a)
may_read a = go a.waiting
  where
    go : (w : Option Content) → MayStand (record { settled = a.settled; waiting = w }) (unwrap_or w a.settled)
    go None = inl refl
    go (Some newest) = inr (inl refl)

may_still : (x c : Content) → MayStand (still x) c → c ≡ x
may_still x c (inl e) = e
may_still x c (inr w) = absurd w

settle_reads : (cs : List Cell) → map read_cell (map settle_cell cs) ≡ map read_cell cs
settle_reads [] = refl
settle_reads (a ∷ cs) = ap (λ l. read_cell a ∷ l) (settle_reads cs)

-- what stands at a place of a list
pub nth_is : (cs : List Cell) (k : ℕ) (a : Cell) → slice_get cs k ≡ Some a → a ≡ slice_index_or cs k no_cell
nth_is cs k a e = sym (get_or_from_slice_get cs k a no_cell e)

pub nth_none : {X : Type 0} (xs : List X) (k : ℕ) → slice_get xs k ≡ None → length xs ≤ k
nth_none [] k e = omega arith
nth_none (y ∷ xs) zero e = let z : ◌≡◌ {A = ℕ} 0 1 = cc in absurd (omega arith)
nth_none (y ∷ xs) (suc k) e = let h = nth_none xs k e in omega arith

-- a write to block k, by what its `?` found there
pub write_refused : (cs : List Cell) (k : ℕ) (bs : List ℕ) (o : Option Cell) (fault : DiskFault) → ok_or o (NoSuchBlock k) ≡ Err fault → o ≡ slice_get cs k → (Err fault ≡ write_answer k (slice_get cs k)) × (cs ≡ write_at cs k bs)
write_refused cs k bs None fault e at = let q : fault ≡ NoSuchBlock k = cc in (ap Err q ∙ ap (write_answer k) at, sym (set_past cs k _ (nth_none cs k (sym at))))
write_refused cs k bs (Some a) fault e at = let z : ◌≡◌ {A = ℕ} 0 1 = cc in absurd (omega arith)

pub write_served : (cs : List Cell) (k : ℕ) (bs : List ℕ) (o : Option Cell) (fault : DiskFault) (a : Cell) → ok_or o fault ≡ Ok a → o ≡ slice_get cs k → (Ok tt ≡ write_answer k (slice_get cs k)) × (slice_set cs k (written a bs) ≡ write_at cs k bs)
write_served cs k bs None fault a e at = let z : ◌≡◌ {A = ℕ} 0 1 = cc in absurd (omega arith)
write_served cs k bs (Some b) fault a e at = (ap (write_answer k) at, ap (λ x. set cs k (written x bs)) (let q : a ≡ b = cc in q ∙ nth_is cs k b (sym at)))

module _ {L : Type 0} (under : L → List Cell) where
  abbrev reads' : L → List Content
  reads' l = read_all (under l)

  abbrev may' : L → ℕ → Content → Type 0
  may' l = May (under l)

  abbrev gone' : L → Bool
  gone' l = false

  long : (x : L) → length (reads' x) ≡ length (under x)
  long x = length-map (under x) read_cell

  pub settling_stands : (x : L) (k : ℕ) → k < length (reads' x) → may' x k (slice_index_or (reads' x) k Unreadable)
  settling_stands x k lt = (omega (arith, lt, long x), subst (MayStand (slice_index_or (under x) k no_cell)) (sym (get_or-map read_cell (under x) k no_cell)) (may_read (slice_index_or (under x) k no_cell)))

  same : (x y : L) → under y ≡ under x → Same reads' may' x y
  same x y e = record {
    quiet = record { as_read = ap read_all e; no_gain = λ k c h. subst (λ cs. May cs k c) e h };
    no_loss = λ k c h. subst (λ cs. May cs k c) (sym e) h;
  }

  gains : (x y : L) (k : ℕ) (bs : List ℕ) → k < length (under x) → under y ≡ write_at (under x) k bs → Gains reads' may' x k bs y
  gains x y k bs lt e j c m = elim (ℕ_discrete j k) [
    | yes q ↦ here q (subst (λ a. MayStand a c) (at_k q) m.1)
    | no q ↦ inl (within, subst (λ a. MayStand a c) (ap (λ cs. get_or cs j no_cell) e ∙ get_or-set_other (under x) k j (written (slice_index_or (under x) k no_cell) bs) no_cell q) m.1)
  ]
    where
      within : j < length (under x)
      within = subst (λ n. j < n) (ap length e ∙ length-set (under x) k (written (slice_index_or (under x) k no_cell) bs)) m.0

      at_k : j ≡ k → slice_index_or (under y) j no_cell ≡ written (slice_index_or (under x) k no_cell) bs
      at_k q = ap (λ i. get_or (under y) i no_cell) q ∙ ap (λ cs. get_or cs k no_cell) e ∙ get_or-set_same (under x) k (written (slice_index_or (under x) k no_cell) bs) no_cell lt

      here : j ≡ k → MayStand (written (slice_index_or (under x) k no_cell) bs) c → (may' x j c) ⊎ ((j ≡ k) × ((c ≡ Bytes bs) ⊎ (c ≡ Unreadable)))
      here q (inl w) = inl (within, subst (λ i. MayStand (slice_index_or (under x) i no_cell) c) (sym q) (inl w))
      here q (inr w) = inr (q, w)

  settled : (x y : L) → under y ≡ map settle_cell (under x) → Settled reads' may' x y
  settled x y e = record {
    as_read = ap read_all e ∙ settle_reads (under x);
    only = λ k c m. may_still _ c (subst (λ a. MayStand a c) (ap (λ cs. get_or cs k no_cell) e ∙ get_or-map settle_cell (under x) k no_cell) m.1) ∙ sym (get_or-map read_cell (under x) k no_cell);
  }

  read_keeps : (x y : L) (k : ℕ) (o : Option Cell) → slice_get (under x) k ≡ o → under y ≡ under x → Allowed reads' may' gone' x (reading k (read_answer k o)) y
  read_keeps x y k (Some a) n e = (omega (arith, slice_get_within (under x) k a n, long x), refl, ap read_cell (nth_is (under x) k a n) ∙ sym (get_or-map read_cell (under x) k no_cell), same x y e)
  read_keeps x y k None n e = (omega (arith, nth_none (under x) k n, long x), refl, refl, same x y e)

  write_keeps : (x y : L) (k : ℕ) (bs : List ℕ) (o : Option Cell) → slice_get (under x) k ≡ o → under y ≡ write_at (under x) k bs → Allowed reads' may' gone' x (writing k bs (write_answer k o)) y
  write_keeps x y k bs (Some a) n e = (omega (arith, slice_get_within (under x) k a n, long x), refl, ap read_all e ∙ map-set read_cell (under x) k (written (slice_index_or (under x) k no_cell) bs), gains x y k bs (slice_get_within (under x) k a n) e)
  write_keeps x y k bs None n e = (omega (arith, nth_none (under x) k n, long x), refl, refl, same x y (e ∙ set_past (under x) k _ (nth_none (under x) k n)))

  pub settling_keeps : (x : L) (c : Call) (y : L) → Went (under x) c (under y) → Allowed reads' may' gone' x c y
  settling_keeps x (reading k r) y w = subst (λ v. Allowed reads' may' gone' x (reading k v) y) (sym w.0) (read_keeps x y k (slice_get (under x) k) refl w.1)
  settling_keeps x (writing k bs r) y w = subst (λ v. Allowed reads' may' gone' x (writing k bs v) y) (sym w.0) (write_keeps x y k bs (slice_get (under x) k) refl w.1)
  settling_keeps x (flushing r) y w = subst (λ v. Allowed reads' may' gone' x (flushing v) y) (sym w.0) (refl, settled x y w.1)

-- cells that are changed one after the other
changed_long : (f : ℕ → Cell → Cell) (i : ℕ) (cs : List Cell) → length (changed f i cs) ≡ length cs
changed_long f i [] = refl
changed_long f i (a ∷ cs) = ap suc (changed_long f (i + 1) cs)

pub changed_all : (f : Cell → Cell) (i : ℕ) (cs : List Cell) → changed (λ _. f) i cs ≡ map f cs
changed_all f i [] = refl
changed_all f i (a ∷ cs) = ap (λ l. f a ∷ l) (changed_all f (i + 1) cs)

changed_append : (f : ℕ → Cell → Cell) (i : ℕ) (xs ys : List Cell) → changed f i (xs ++ ys) ≡ changed f i xs ++ changed f (i + length xs) ys
changed_append f i [] ys = let z : i + 0 ≡ i = omega arith in rw z
changed_append f i (x ∷ xs) ys = let z : i + 1 + length xs ≡ i + suc (length xs) = omega arith in ap (λ l. f i x ∷ l) (rw z at (changed_append f (i + 1) xs ys))

-- one more cell changed, in a loop
pub changed_more : (f : ℕ → Cell → Cell) (xs cs ds : List Cell) (i : ℕ) (d r : Cell) → i < length xs → cs ≡ changed f 0 (take i xs) ++ drop i xs → r ≡ f i (slice_index_or cs i d) → ds ≡ slice_set cs i r → ds ≡ changed f 0 (take (i + 1) xs) ++ drop (i + 1) xs
changed_more f xs cs ds i d r lt e h s = s ∙ ap (λ v. set v i r) split ∙ set_at (changed f 0 (take i xs)) (slice_index_or xs i d) (drop (i + 1) xs) r i size ∙ ap (λ v. changed f 0 (take i xs) ++ v ∷ drop (i + 1) xs) (h ∙ ap (f i) (ap (λ v. get_or v i d) split ∙ get_or_at (changed f 0 (take i xs)) (slice_index_or xs i d) (drop (i + 1) xs) d i size)) ∙ sym end
  where
    short : length (take i xs) ≡ i
    short = length-take-le i xs (omega arith)

    size : length (changed f 0 (take i xs)) ≡ i
    size = changed_long f 0 (take i xs) ∙ short

    split : cs ≡ changed f 0 (take i xs) ++ slice_index_or xs i d ∷ drop (i + 1) xs
    split = e ∙ ap (λ v. changed f 0 (take i xs) ++ v) (drop_more xs i d lt)

    end : changed f 0 (take (i + 1) xs) ++ drop (i + 1) xs ≡ changed f 0 (take i xs) ++ f i (slice_index_or xs i d) ∷ drop (i + 1) xs
    end =
        let z : 0 + length (take i xs) ≡ i = omega (arith, short) in
        ap (λ v. changed f 0 v ++ drop (i + 1) xs) (take_more xs i d lt) ∙ ap (λ v. v ++ drop (i + 1) xs) (changed_append f 0 (take i xs) (slice_index_or xs i d ∷ []))
        ∙ ap (λ m. (changed f 0 (take i xs) ++ (f m (slice_index_or xs i d) ∷ [])) ++ drop (i + 1) xs) z ∙ append_assoc (changed f 0 (take i xs)) (f i (slice_index_or xs i d) ∷ []) (drop (i + 1) xs)

pub changed_end : (f : ℕ → Cell → Cell) (xs cs : List Cell) (i : ℕ) → length xs ≤ i → cs ≡ changed f 0 (take i xs) ++ drop i xs → cs ≡ changed f 0 xs
changed_end f xs cs i le e = e ∙ ap (λ l. changed f 0 l ++ drop i xs) (take_all i xs le) ∙ ap (λ l. changed f 0 xs ++ l) (drop_all i xs le) ∙ append-nil (changed f 0 xs)

-- a loss
lost_long : (ls : List ℕ) (cs : List Cell) → length (lost ls cs) ≡ length cs
lost_long ls cs = changed_long (λ i. lost_cell (slice_index ls i)) 0 cs

abbrev lost_from : List ℕ → ℕ → List Cell → List Cell
lost_from ls i cs = changed (λ k. lost_cell (slice_index ls k)) i cs

may_lost : (l : ℕ) (a : Cell) → MayStand a (read_cell (lost_cell l a))
may_lost l a = go a.waiting (l == 110) (l == 117)
  where
    go : (w : Option Content) (n u : Bool) → MayStand (record { settled = a.settled; waiting = w }) (elim w [ None ↦ a.settled | Some newest ↦ cond n newest (cond u Unreadable a.settled) ])
    go None n u = inl refl
    go (Some newest) true u = inr (inl refl)
    go (Some newest) false true = inr (inr refl)
    go (Some newest) false false = inl refl

lost_member : (ls : List ℕ) (i : ℕ) (cs : List Cell) (k : ℕ) → MayStand (slice_index_or cs k no_cell) (slice_index_or (read_all (lost_from ls i cs)) k Unreadable)
lost_member ls i [] k = inl refl
lost_member ls i (a ∷ cs) zero = may_lost (slice_index ls i) a
lost_member ls i (a ∷ cs) (suc k) = lost_member ls (i + 1) cs k

lost_only : (ls : List ℕ) (i : ℕ) (cs : List Cell) (k : ℕ) (c : Content) → MayStand (slice_index_or (lost_from ls i cs) k no_cell) c → c ≡ slice_index_or (read_all (lost_from ls i cs)) k Unreadable
lost_only ls i [] k c m = may_still Unreadable c m
lost_only ls i (a ∷ cs) zero c m = may_still _ c m
lost_only ls i (a ∷ cs) (suc k) c m = lost_only ls (i + 1) cs k c m

pub lost_after : (ls : List ℕ) (cs ds : List Cell) → ds ≡ lost ls cs → AfterLoss read_all May cs ds
lost_after ls cs ds e = subst (AfterLoss read_all May cs) (sym e) (record {
  count = length-map (lost ls cs) read_cell ∙ lost_long ls cs ∙ sym (length-map cs read_cell);
  member = λ k lt. (omega (arith, lt, length-map cs read_cell), lost_member ls 0 cs k);
  only = λ k c m. lost_only ls 0 cs k c m.1;
})

-- cells that are blank make a blank disk
pub blank_all : (n : ℕ) (cs : List Cell) → cs ≡ blank_cells n → Blank read_all May cs
blank_all n cs e = subst (Blank read_all May) (sym e) (record {
  holds = λ k lt. let h : k < length (blank_cells n) = omega (arith, lt, length-map (blank_cells n) read_cell) in (h, subst (λ a. MayStand a zeros) (sym (at k h)) (inl refl));
  only = λ k c m. may_still zeros c (subst (λ a. MayStand a c) (at k m.0) m.1);
})
  where
    at : (k : ℕ) → k < length (blank_cells n) → slice_index_or (blank_cells n) k no_cell ≡ still zeros
    at k lt = get_or-replicate n k (still zeros) no_cell (omega (arith, lt, length-replicate n (still zeros)))
