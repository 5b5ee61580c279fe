-- The parts of a block and its bytes, there and back.
use Rattle.std.proofs.Common.{◌≡◌, ℕ, zero, suc, ◌+◌, ◌*◌, ◌/◌, ◌%◌, ◌^◌, ◌<◌, List, [], ◌∷◌, ◌++◌, length, map, take, drop, replicate, get_or, ℤ, pos, negsuc, sym, refl, ap, ◌∙◌, subst, mod-lt, arith, lit<, w32, SFits}
use Rattle.std.specs.List.{flat_map, AllByRecursion as All}
use Rattle.std.proofs.lemmas.List.FromFn.{fill_by_all}
use Rattle.std.proofs.lemmas.Int.{to_z-of_z, of_z-to_z}
use Rattle.std.proofs.lemmas.Nat.{from_le_bytes-to_le_bytes_2, from_le_bytes-to_le_bytes_4, le_bytes_2, le_bytes_4}
use Rattle.boundary.specs.declared.Point.{Point}
use Rattle.records.specs.declared.Block.{Block}
use Rattle.records.specs.Blocks.{two, four, complement, signed, laid, laid_fields, laid_point, parts, two_at, four_at}
use Rattle.records.specs.Laws.{IsBlock}

-- the numbers of a list are below m
each_below : (m : ℕ) → 0 < m → (xs : List ℕ) → All (λ x. x < m) xs → (k : ℕ) → get_or xs k 0 < m
each_below m z [] b k = z
each_below m z (x ∷ xs) b zero = b.0
each_below m z (x ∷ xs) b (suc k) = each_below m z xs b.1 k

-- a list of five numbers
abbrev pub five : ℕ → ℕ → ℕ → ℕ → ℕ → List ℕ
five a b c d e = a ∷ b ∷ c ∷ d ∷ e ∷ []

pub five_is : (f : List ℕ) → length f ≡ 5 → f ≡ five (get_or f 0 0) (get_or f 1 0) (get_or f 2 0) (get_or f 3 0) (get_or f 4 0)
five_is f long = fill_by_all (λ i. get_or f i 0) f 5 0 long (λ i h. refl)

-- there are five fields, and each fits two bytes
pub record Small (f : List ℕ) : Type 0 where
  pub long : length f ≡ 5
  pub each : (k : ℕ) → get_or f k 0 < 2 ^ 16

pub small : (f : List ℕ) → length f ≡ 5 → All (λ x. x < 2 ^ 16) f → Small f
small f long b = record { long = long; each = each_below (2 ^ 16) (lit< tt) f b }

-- each coordinate fits four bytes
pub record Near (p : Point) : Type 0 where
  pub x : SFits w32 p.x
  pub y : SFits w32 p.y
  pub z : SFits w32 p.z

-- the parts of a block fit their bytes
pub record Sized (b : Block) : Type 0 where
  pub number : b.number < 2 ^ 32
  pub position : b.position < 2 ^ 16
  pub fields : Small b.fields
  pub gap : b.gap < 2 ^ 16
  pub at : Near b.at

-- the bytes of a block, from its parts
module _ (bs : List ℕ) (k : IsBlock bs) where
  two_same : (i : ℕ) → i + 1 < 32 → two (two_at bs i) ≡ get_or bs i 0 ∷ get_or bs (i + 1) 0 ∷ []
  two_same i h =
      let xs = get_or bs i 0 ∷ get_or bs (i + 1) 0 ∷ [] in
      le_bytes_2 xs (two_at bs i) refl (each_below 256 (lit< tt) xs (k.bytes i, (k.bytes (i + 1), tt))) refl

  four_same : (i : ℕ) → i + 3 < 32 → four (four_at bs i) ≡ get_or bs i 0 ∷ get_or bs (i + 1) 0 ∷ get_or bs (i + 2) 0 ∷ get_or bs (i + 3) 0 ∷ []
  four_same i h =
      let xs = get_or bs i 0 ∷ get_or bs (i + 1) 0 ∷ get_or bs (i + 2) 0 ∷ get_or bs (i + 3) 0 ∷ [] in
      le_bytes_4 xs (four_at bs i) refl (each_below 256 (lit< tt) xs (k.bytes i, (k.bytes (i + 1), (k.bytes (i + 2), (k.bytes (i + 3), tt))))) refl

  pub four_small : (i : ℕ) → i + 3 < 32 → four_at bs i < 2 ^ 32
  four_small i h = omega (arith, k.bytes i, k.bytes (i + 1), k.bytes (i + 2), k.bytes (i + 3))

  pub two_small : (i : ℕ) → i + 1 < 32 → two_at bs i < 2 ^ 16
  two_small i h = omega (arith, k.bytes i, k.bytes (i + 1))

  signed_same : (i : ℕ) → i + 3 < 32 → four (complement (signed (four_at bs i))) ≡ get_or bs i 0 ∷ get_or bs (i + 1) 0 ∷ get_or bs (i + 2) 0 ∷ get_or bs (i + 3) 0 ∷ []
  signed_same i h = ap four (of_z-to_z w32 (four_at bs i) (four_small i h)) ∙ four_same i h

  pub fields_small : Small (parts bs).fields
  unfolding parts
  fields_small = small (parts bs).fields refl (two_small 8 (lit< tt), (two_small 10 (lit< tt), (two_small 12 (lit< tt), (two_small 14 (lit< tt), (two_small 16 (lit< tt), tt)))))

  pub laid_parts : laid (parts bs) ≡ bs
  unfolding parts
  laid_parts =
      joined (four_same 2 (lit< tt)) (two_same 6 (lit< tt))
      (two_same 8 (lit< tt)) (two_same 10 (lit< tt)) (two_same 12 (lit< tt)) (two_same 14 (lit< tt)) (two_same 16 (lit< tt))
      (two_same 18 (lit< tt)) (signed_same 20 (lit< tt)) (signed_same 24 (lit< tt)) (signed_same 28 (lit< tt))
      ∙ sym (fill_by_all (λ i. get_or bs i 0) bs 32 0 k.long (λ i h. refl))
    where
      joined : {n n' p p' a a' b b' c c' d d' e e' g g' x x' y y' z z' : List ℕ} → n ≡ n' → p ≡ p' → a ≡ a' → b ≡ b' → c ≡ c' → d ≡ d' → e ≡ e' → g ≡ g' → x ≡ x' → y ≡ y' → z ≡ z' → get_or bs 0 0 ∷ get_or bs 1 0 ∷ (n ++ (p ++ ((a ++ (b ++ (c ++ (d ++ (e ++ []))))) ++ (g ++ (x ++ (y ++ z)))))) ≡ get_or bs 0 0 ∷ get_or bs 1 0 ∷ (n' ++ (p' ++ ((a' ++ (b' ++ (c' ++ (d' ++ (e' ++ []))))) ++ (g' ++ (x' ++ (y' ++ z'))))))
      joined hn hp ha hb hc hd he hg hx hy hz = cc

-- the number of a coordinate's bytes
signed_quad : (z : ℤ) → SFits w32 z → signed (complement z % 256 + complement z / 256 % 256 * 256 + complement z / 65536 % 256 * 65536 + complement z / 16777216 % 256 * 16777216) ≡ z
signed_quad z f = ap signed (from_le_bytes-to_le_bytes_4 (complement z) (complement_small z f)) ∙ to_z-of_z w32 z f
  where
    complement_small : (z : ℤ) → SFits w32 z → complement z < 2 ^ 32
    complement_small (pos n) f = omega (arith, f.sfits)
    complement_small (negsuc n) f = omega (arith, f.sfits)

-- the parts of a block, put together
abbrev pub whole : ℕ → ℕ → ℕ → ℕ → List ℕ → ℕ → Point → Block
whole k s n p f g q = record { kind = k; spare = s; number = n; position = p; fields = f; gap = g; at = q }

-- what holds where the five fields are written out holds of the block
abbrev Holds : (Block → Type 0) → Block → List ℕ → Type 0
Holds P b f = P (whole b.kind b.spare b.number b.position f b.gap b.at)

by_fields : (P : Block → Type 0) (b : Block) → length b.fields ≡ 5 → Holds P b (five (get_or b.fields 0 0) (get_or b.fields 1 0) (get_or b.fields 2 0) (get_or b.fields 3 0) (get_or b.fields 4 0)) → P b
by_fields P b long h = subst (Holds P b) (sym (five_is b.fields long)) h

pub parts_laid : (b : Block) → Sized b → parts (laid b) ≡ b
unfolding parts
parts_laid b s = by_fields (λ c. parts (laid c) ≡ c) b s.fields.long (
    joined (from_le_bytes-to_le_bytes_4 b.number s.number) (from_le_bytes-to_le_bytes_2 b.position s.position) (field 0) (field 1) (field 2) (field 3) (field 4)
    (from_le_bytes-to_le_bytes_2 b.gap s.gap) (signed_quad b.at.x s.at.x) (signed_quad b.at.y s.at.y) (signed_quad b.at.z s.at.z)
    )
  where
    field : (k : ℕ) → get_or b.fields k 0 % 256 + get_or b.fields k 0 / 256 % 256 * 256 ≡ get_or b.fields k 0
    field k = from_le_bytes-to_le_bytes_2 (get_or b.fields k 0) (s.fields.each k)

    joined : {n n' p p' a a' c c' d d' e e' f f' g g' : ℕ} {x x' y y' z z' : ℤ} → n ≡ n' → p ≡ p' → a ≡ a' → c ≡ c' → d ≡ d' → e ≡ e' → f ≡ f' → g ≡ g' → x ≡ x' → y ≡ y' → z ≡ z' →
        whole b.kind b.spare n p (five a c d e f) g (record { x = x; y = y; z = z }) ≡ whole b.kind b.spare n' p' (five a' c' d' e' f') g' (record { x = x'; y = y'; z = z' })
    joined hn hp ha hb hc hd he hg hx hy hz = cc

-- the numbers that are laid are bytes
abbrev Bytes : List ℕ → Type 0
Bytes xs = All (λ x. x < 256) xs

byte : (n : ℕ) → n % 256 < 256
byte n = mod-lt n (lit< tt)

two_on : (n : ℕ) (xs : List ℕ) → Bytes xs → Bytes (two n ++ xs)
two_on n xs b = (byte n, (byte (n / 256), b))

four_on : (n : ℕ) (xs : List ℕ) → Bytes xs → Bytes (four n ++ xs)
four_on n xs b = (byte n, (byte (n / 256), (byte (n / 65536), (byte (n / 16777216), b))))

fields_on : (f xs : List ℕ) → Bytes xs → Bytes (laid_fields f ++ xs)
fields_on [] xs t = t
fields_on (x ∷ f) xs t = (byte x, (byte (x / 256), fields_on f xs t))

point_bytes : (p : Point) → Bytes (laid_point p)
point_bytes p =
    let z : Bytes (four (complement p.z)) = four_on (complement p.z) [] tt in
    let y : Bytes (four (complement p.y) ++ four (complement p.z)) = four_on (complement p.y) (four (complement p.z)) z in
    four_on (complement p.x) (four (complement p.y) ++ four (complement p.z)) y

pub laid_block : (b : Block) → b.kind < 256 → b.spare < 256 → length b.fields ≡ 5 → IsBlock (laid b)
laid_block b k s long = record {
  long = by_fields (λ c. length (laid c) ≡ 32) b long refl;
  bytes = each_below 256 (lit< tt) (laid b) (k, (s, four_on b.number (two b.position ++ (laid_fields b.fields ++ (two b.gap ++ laid_point b.at))) (two_on b.position (laid_fields b.fields ++ (two b.gap ++ laid_point b.at)) (fields_on b.fields (two b.gap ++ laid_point b.at) (two_on b.gap (laid_point b.at) (point_bytes b.at))))));
}

-- the bytes xs with those from i on replaced by the part
abbrev pub over : ℕ → List ℕ → List ℕ → List ℕ
over i part xs = take i xs ++ (part ++ drop (i + length part) xs)

pub step : (i : ℕ) {part part' xs xs' ys : List ℕ} → ys ≡ over i part xs → part ≡ part' → xs ≡ xs' → ys ≡ over i part' xs'
step i {part' = part'} {xs = xs} now same before = now ∙ ap (λ p. over i p xs) same ∙ ap (λ x. over i part' x) before

pub flattened : (f : List ℕ) → flat_map (λ x. x) (map two f) ≡ laid_fields f
flattened [] = refl
flattened (x ∷ f) = ap (λ l. two x ++ l) (flattened f)

-- the kind and the spare byte, and the other parts put in one after another
abbrev pub put_in : Block → List ℕ
put_in b =
    over 20 (laid_point b.at) (over 18 (two b.gap) (over 8 (laid_fields b.fields) (over 2 (four b.number ++ two b.position) (b.kind ∷ b.spare ∷ replicate 30 0))))

pub put_laid : (b : Block) → length b.fields ≡ 5 → put_in b ≡ laid b
put_laid b long = by_fields (λ c. put_in c ≡ laid c) b long refl
