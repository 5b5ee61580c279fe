-- An edit and its kind, fields and point, there and back.
use Rattle.std.proofs.Common.{◌≡◌, ℕ, ◌-◌, ◌^◌, ◌<◌, ◌≤◌, List, [], ◌∷◌, ◌++◌, length, map, take, drop, replicate, get_or, Bool, true, false, cond, ◌&&◌, ◌||◌, eqb, ltb, leb, ◌⊎◌, ℤ, pos, negsuc, sym, refl, ap, ◌∙◌, subst, inl, inr, arith, lit<, lit≤, w32, SFits}
use Rattle.std.specs.List.{list_all, AllByRecursion as All}
use Rattle.std.proofs.lemmas.List.{length-drop, take-append-drop}
use Rattle.std.proofs.lemmas.Bool.{and_parts, cases_eq, cases_Bool, or_cases, eqb-true, ltb-true, lt-ltb, false≢true}
use Rattle.boundary.specs.declared.Point.{Point}
use Rattle.boundary.specs.declared.Edit.{Edit}
use Rattle.boundary.specs.declared.Edit.TheVariants.{Mvfs, Kvfs, Mev, Kev, Mef, Kef, Kemr, Mekr, Kfmrh, Move}
use Rattle.boundary.specs.Operators.{named}
use Rattle.boundary.specs.Refusals.{below, is_place, is_coordinate, is_point, in_range, is_shell, is_face, is_loop, is_edge, is_vertex, is_half}
use Rattle.records.specs.Records.{origin, kind_of, numbers_of, fields_of, point_of, edit_of, used_fields, has_point, zero_past, is_zero, is_origin}
use Rattle.records.proofs.Bytes.{Small, Near, five, five_is, small}

-- a number from 1 to 10 is one of them
each_kind : (P : ℕ → Type 0) → P 1 → P 2 → P 3 → P 4 → P 5 → P 6 → P 7 → P 8 → P 9 → P 10 → (k : ℕ) → 1 ≤ k → k ≤ 10 → P k
each_kind P q1 q2 q3 q4 q5 q6 q7 q8 q9 q10 k lo hi =
    at 1 q1 (λ n1. at 2 q2 (λ n2. at 3 q3 (λ n3. at 4 q4 (λ n4. at 5 q5 (λ n5. at 6 q6 (λ n6. at 7 q7 (λ n7. at 8 q8 (λ n8. at 9 q9 (λ n9. let e : 10 ≡ k = omega arith in subst P e q10)))))))))
  where
    at : (m : ℕ) → P m → ((k ≡ m → ⊥) → P k) → P k
    at m p others = elim (cases_eq k m) [ inl e ↦ subst P (sym e) p | inr ne ↦ others ne ]

pub named_small : (n : ℕ) → n < 2 ^ 16 → named (pos n) ≡ n
named_small n h = rw (lt-ltb n 65536 h)

pub named_bound : (z : ℤ) → named z < 2 ^ 16
named_bound (negsuc n) = omega arith
named_bound (pos n) = elim (cases_Bool (ltb n 65536)) [
  | inl e ↦ rw e (ltb-true n 65536 e)
  | inr e ↦ rw e (omega arith)
]

same_five : {a a' b b' c c' d d' e e' : ℕ} → a ≡ a' → b ≡ b' → c ≡ c' → d ≡ d' → e ≡ e' → five a b c d e ≡ five a' b' c' d' e'
same_five p q r s t = cc

-- the fields past the first n made zero
abbrev first : ℕ → List ℕ → List ℕ
first n f = take n f ++ replicate (length f - n) 0

zeros : (xs : List ℕ) → list_all (λ x. eqb x 0) xs ≡ true → replicate (length xs) 0 ≡ xs
zeros [] h = refl
zeros (x ∷ xs) h =
    let p = and_parts (eqb x 0) _ h in
    let zero_first : 0 ≡ x = sym (eqb-true x 0 p.0) in
    let others = zeros xs p.1 in
    cc

pub first_same : (n : ℕ) (f : List ℕ) → zero_past n f ≡ true → first n f ≡ f
first_same n f h = ap (λ l. take n f ++ l) (ap (λ m. replicate m 0) (sym (length-drop n f)) ∙ zeros (drop n f) h) ∙ take-append-drop n f

pub all_zero : (f : List ℕ) → length f ≡ 5 → zero_past 0 f ≡ true → five 0 0 0 0 0 ≡ f
all_zero f long h = ap (λ m. replicate m 0) (sym long) ∙ zeros f h

abbrev three : ℤ → ℤ → ℤ → Point
three x y z = record { x = x; y = y; z = z }

same_point : {x x' y y' z z' : ℤ} → x ≡ x' → y ≡ y' → z ≡ z' → three x y z ≡ three x' y' z'
same_point e f g = cc

pub origin_same : (p : Point) → is_origin p ≡ true → origin ≡ p
origin_same p h =
    let q = and_parts (is_zero p.x) _ h in
    let r = and_parts (is_zero p.y) _ q.1 in
    same_point (zero_same p.x q.0) (zero_same p.y r.0) (zero_same p.z r.1)
  where
    zero_same : (z : ℤ) → is_zero z ≡ true → pos 0 ≡ z
    zero_same (pos n) h = ap pos (sym (eqb-true n 0 h))
    zero_same (negsuc n) h = absurd (false≢true h)

pub point_same : (t : Bool) (p : Point) → (t || is_origin p) ≡ true → cond t p origin ≡ p
point_same true p h = refl
point_same false p h = origin_same p h

-- the kind, the point and the fields of the edit that they make
module _ (f : List ℕ) (q : Point) where
  pub kind_back : (k : ℕ) → 1 ≤ k → k ≤ 10 → kind_of (edit_of k f q) ≡ k
  kind_back = each_kind (λ k. kind_of (edit_of k f q) ≡ k) refl refl refl refl refl refl refl refl refl refl

  pub point_back : (k : ℕ) → 1 ≤ k → k ≤ 10 → point_of (edit_of k f q) ≡ cond (has_point k) q origin
  point_back = each_kind (λ k. point_of (edit_of k f q) ≡ cond (has_point k) q origin) refl refl refl refl refl refl refl refl refl refl

five_back : (q : Point) (a b c d e : ℕ) → a < 2 ^ 16 → b < 2 ^ 16 → c < 2 ^ 16 → d < 2 ^ 16 → e < 2 ^ 16 → (k : ℕ) → 1 ≤ k → k ≤ 10 → fields_of (edit_of k (five a b c d e) q) ≡ first (used_fields k) (five a b c d e)
five_back q a b c d e ha hb hc hd he = each_kind (λ k. fields_of (edit_of k (five a b c d e) q) ≡ first (used_fields k) (five a b c d e))
    (same_five na nb nc nd refl) one (same_five na nb nc refl refl) one (same_five na nb nc nd ne)
    one (same_five na nb refl refl refl) (same_five na nb nc refl refl) (same_five na nb refl refl refl) one
  where
    na : named (pos a) ≡ a
    na = named_small a ha

    nb : named (pos b) ≡ b
    nb = named_small b hb

    nc : named (pos c) ≡ c
    nc = named_small c hc

    nd : named (pos d) ≡ d
    nd = named_small d hd

    ne : named (pos e) ≡ e
    ne = named_small e he

    one : five (named (pos a)) 0 0 0 0 ≡ five a 0 0 0 0
    one = same_five na refl refl refl refl

pub fields_back : (f : List ℕ) (q : Point) → Small f → (k : ℕ) → 1 ≤ k → k ≤ 10 → fields_of (edit_of k f q) ≡ first (used_fields k) f
fields_back f q s k lo hi =
    subst (λ l. fields_of (edit_of k l q) ≡ first (used_fields k) l) (sym (five_is f s.long))
    (five_back q (get_or f 0 0) (get_or f 1 0) (get_or f 2 0) (get_or f 3 0) (get_or f 4 0) (s.each 0) (s.each 1) (s.each 2) (s.each 3) (s.each 4) k lo hi)

-- a field in range is the number that it names
below_back : (m : ℕ) (z : ℤ) → m ≤ 65536 → below m z ≡ true → pos (named z) ≡ z
below_back m (pos n) le h = ap pos (named_small n (let l = ltb-true n m h in omega arith))
below_back m (negsuc n) le h = absurd (false≢true h)

place_back : (z : ℤ) → is_place z ≡ true → pos (named z) ≡ z
place_back (pos n) h = ap pos (named_small n (bound (or_cases (ltb n 384) (leb 512 n && ltb n 608) h)))
  where
    bound : (ltb n 384 ≡ true) ⊎ ((leb 512 n && ltb n 608) ≡ true) → n < 2 ^ 16
    bound (inl e) = let l = ltb-true n 384 e in omega arith
    bound (inr e) = let l = ltb-true n 608 (and_parts (leb 512 n) (ltb n 608) e).1 in omega arith
place_back (negsuc n) h = absurd (false≢true h)

-- an edit in range is made again from its parts
pub edit_back : (e : Edit) → in_range e ≡ true → edit_of (kind_of e) (fields_of e) (point_of e) ≡ e
edit_back (Mvfs a f l v p) h =
    let i = and_parts (is_shell a) _ h in
    let j = and_parts (is_face f) _ i.1 in
    let m = and_parts (is_loop l) _ j.1 in
    let n = and_parts (is_vertex v) _ m.1 in
    let e1 = below_back 8 a (lit≤ tt) i.0 in
    let e2 = below_back 96 f (lit≤ tt) j.0 in
    let e3 = below_back 96 l (lit≤ tt) m.0 in
    let e4 = below_back 128 v (lit≤ tt) n.0 in
    cc
edit_back (Kvfs a) h = ap Kvfs (below_back 8 a (lit≤ tt) h)
edit_back (Mev a k v p) h =
    let i = and_parts (is_place a) _ h in
    let j = and_parts (is_edge k) _ i.1 in
    let m = and_parts (is_vertex v) _ j.1 in
    let e1 = place_back a i.0 in
    let e2 = below_back 192 k (lit≤ tt) j.0 in
    let e3 = below_back 128 v (lit≤ tt) m.0 in
    cc
edit_back (Kev h) r = ap Kev (below_back 384 h (lit≤ tt) r)
edit_back (Mef h j k f l) r =
    let m = and_parts (is_half h) _ r in
    let n = and_parts (is_half j) _ m.1 in
    let o = and_parts (is_edge k) _ n.1 in
    let p = and_parts (is_face f) _ o.1 in
    let e1 = below_back 384 h (lit≤ tt) m.0 in
    let e2 = below_back 384 j (lit≤ tt) n.0 in
    let e3 = below_back 192 k (lit≤ tt) o.0 in
    let e4 = below_back 96 f (lit≤ tt) p.0 in
    let e5 = below_back 96 l (lit≤ tt) p.1 in
    cc
edit_back (Kef h) r = ap Kef (below_back 384 h (lit≤ tt) r)
edit_back (Kemr h l) r =
    let i = and_parts (is_half h) _ r in
    let e1 = below_back 384 h (lit≤ tt) i.0 in
    let e2 = below_back 96 l (lit≤ tt) i.1 in
    cc
edit_back (Mekr a c k) r =
    let i = and_parts (is_place a) _ r in
    let j = and_parts (is_place c) _ i.1 in
    let e1 = place_back a i.0 in
    let e2 = place_back c j.0 in
    let e3 = below_back 192 k (lit≤ tt) j.1 in
    cc
edit_back (Kfmrh f g) r =
    let i = and_parts (is_face f) _ r in
    let e1 = below_back 96 f (lit≤ tt) i.0 in
    let e2 = below_back 96 g (lit≤ tt) i.1 in
    cc
edit_back (Move v p) r =
    let e1 = below_back 128 v (lit≤ tt) (and_parts (is_vertex v) _ r).0 in
    ap (λ x. Move x p) e1

pub kind_bounds : (e : Edit) → (1 ≤ kind_of e) × (kind_of e ≤ 10)
kind_bounds (Mvfs a f l v p) = (lit≤ tt, lit≤ tt)
kind_bounds (Kvfs a) = (lit≤ tt, lit≤ tt)
kind_bounds (Mev a k v p) = (lit≤ tt, lit≤ tt)
kind_bounds (Kev h) = (lit≤ tt, lit≤ tt)
kind_bounds (Mef h j k f l) = (lit≤ tt, lit≤ tt)
kind_bounds (Kef h) = (lit≤ tt, lit≤ tt)
kind_bounds (Kemr h l) = (lit≤ tt, lit≤ tt)
kind_bounds (Mekr a c k) = (lit≤ tt, lit≤ tt)
kind_bounds (Kfmrh f g) = (lit≤ tt, lit≤ tt)
kind_bounds (Move v p) = (lit≤ tt, lit≤ tt)

named_all : (zs : List ℤ) → All (λ x. x < 2 ^ 16) (map named zs)
named_all [] = tt
named_all (z ∷ zs) = (named_bound z, named_all zs)

pub five_fields : (e : Edit) → length (fields_of e) ≡ 5
five_fields (Mvfs a f l v p) = refl
five_fields (Kvfs a) = refl
five_fields (Mev a k v p) = refl
five_fields (Kev h) = refl
five_fields (Mef h j k f l) = refl
five_fields (Kef h) = refl
five_fields (Kemr h l) = refl
five_fields (Mekr a c k) = refl
five_fields (Kfmrh f g) = refl
five_fields (Move v p) = refl

pub fields_small : (e : Edit) → Small (fields_of e)
fields_small e = small (fields_of e) (five_fields e) (named_all (numbers_of e))

point_near : (p : Point) → is_point p ≡ true → Near p
point_near p h =
    let q = and_parts (is_coordinate p.x) _ h in
    let r = and_parts (is_coordinate p.y) _ q.1 in
    record { x = near p.x q.0; y = near p.y r.0; z = near p.z r.1 }
  where
    near : (z : ℤ) → is_coordinate z ≡ true → SFits w32 z
    near (pos n) e = record { sfits = let l = ltb-true n 8388608 e in omega arith }
    near (negsuc n) e = record { sfits = let l = ltb-true n 8388608 e in omega arith }

pub origin_near : Near origin
origin_near = record { x = record { sfits = lit< tt }; y = record { sfits = lit< tt }; z = record { sfits = lit< tt } }

pub edit_near : (e : Edit) → in_range e ≡ true → Near (point_of e)
edit_near (Mvfs a f l v p) h =
    let i = and_parts (is_shell a) _ h in
    let j = and_parts (is_face f) _ i.1 in
    let m = and_parts (is_loop l) _ j.1 in
    point_near p (and_parts (is_vertex v) _ m.1).1
edit_near (Kvfs a) h = origin_near
edit_near (Mev a k v p) h =
    let i = and_parts (is_place a) _ h in
    let j = and_parts (is_edge k) _ i.1 in
    point_near p (and_parts (is_vertex v) _ j.1).1
edit_near (Kev h) r = origin_near
edit_near (Mef h j k f l) r = origin_near
edit_near (Kef h) r = origin_near
edit_near (Kemr h l) r = origin_near
edit_near (Mekr a c k) r = origin_near
edit_near (Kfmrh f g) r = origin_near
edit_near (Move v p) r = point_near p (and_parts (is_vertex v) _ r).1
