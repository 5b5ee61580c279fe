-- What each operator does to the rings of a sound boundary, in the words of rings and runs.
--     GoesRound f hs      f leads from each of hs to the one behind it, and from the last to the first
--     RingOf b l hs       hs is the ring of the loop l: next goes round it, none stands in it twice, and it has just the half-edges of l
--     Along b l hs v      where hs has a half-edge it is the ring of l, and where it is empty v is lone on l
--     At b a l hs v       the place a is on the loop l, v is its vertex, and hs is the ring from a on, which is empty at a lone vertex
--     Else b b' ls        every loop that is not among ls has the ring or the lone vertex that it had
use Rattle.std.specs.Prelude.{◌≡◌, ℕ, ◌+◌, ◌*◌, ◌<◌, ◌≤◌, cond, ◌≢◌, ◌⊎◌, List, [], ◌∷◌, ◌++◌, Some, None, ◌==◌}
use Rattle.std.specs.List.{ContainsAt as In}
use Rattle.boundary.specs.declared.Point.{Point}
use Rattle.boundary.specs.declared.Boundary.{Boundary}
use Rattle.boundary.specs.Tables.{row, start, next, owner, mate, lone, outer_of}
use Rattle.boundary.specs.Operators.{mvfs, kvfs, face_in, mev, kev, mef, kef, kemr, mekr, kfmrh, move}
use Rattle.boundary.specs.Refusals.{mvfs_refusal, mev_refusal, kev_refusal, mef_refusal, kef_refusal, kemr_refusal, mekr_refusal}
use Rattle.rules.specs.Rules.{Used}

-- f leads along hs, and from its last to k
abbrev pub LeadsTo : (ℕ → ℕ) → List ℕ → ℕ → Type 0
LeadsTo f [] k = Unit {0}
LeadsTo f (h ∷ []) k = f h ≡ k
LeadsTo f (h ∷ j ∷ hs) k = (f h ≡ j) × LeadsTo f (j ∷ hs) k

abbrev pub GoesRound : (ℕ → ℕ) → List ℕ → Type 0
GoesRound f [] = ⊥
GoesRound f (h ∷ hs) = LeadsTo f (h ∷ hs) h

abbrev pub once : List ℕ → Type 0
once [] = Unit {0}
once (h ∷ hs) = (In hs h → ⊥) × once hs

pub record RingOf (b : Boundary) (l : ℕ) (hs : List ℕ) : Type 0 where
  pub round : GoesRound (next b) hs
  pub distinct : once hs
  pub only : (h : ℕ) → In hs h → Used b h × (owner b h ≡ l)
  pub whole : (h : ℕ) → Used b h → owner b h ≡ l → In hs h

abbrev pub Along : Boundary → ℕ → List ℕ → ℕ → Type 0
Along b l [] v = lone b l ≡ Some v
Along b l (h ∷ hs) v = RingOf b l (h ∷ hs)

pub data At (b : Boundary) (a : ℕ) (l : ℕ) : List ℕ → ℕ → Type 0 where
  at_half_edge : (hs : List ℕ) → a < 384 → RingOf b l (a ∷ hs) → At b a l (a ∷ hs) (start b a)
  at_lone : (v : ℕ) → a ≡ 512 + l → lone b l ≡ Some v → At b a l [] v

pub record Else (b b' : Boundary) (ls : List ℕ) : Type 0 where
  pub rings : (m : ℕ) (hs : List ℕ) → (In ls m → ⊥) → RingOf b m hs → RingOf b' m hs
  pub lones : (m : ℕ) → (In ls m → ⊥) → lone b' m ≡ lone b m

-- 2k and 2k + 1 go just before the place; at a lone vertex they are the whole ring
pub record MevLaw (b : Boundary) (a k v : ℕ) (p : Point) : Type 0 where
  pub ring : (l w : ℕ) (hs : List ℕ) → At b a l hs w → RingOf (mev b a k v p) l (2 * k ∷ (2 * k + 1) ∷ hs)
  pub others : (l w : ℕ) (hs : List ℕ) → At b a l hs w → Else b (mev b a k v p) (l ∷ [])

-- the ring without h and its mate, or the start of h lone
pub record KevLaw (b : Boundary) (h : ℕ) : Type 0 where
  pub ring : (l : ℕ) (hs : List ℕ) → RingOf b l (h ∷ mate h ∷ hs) → Along (kev b h) l hs (start b h)
  pub others : Else b (kev b h) (owner b h ∷ [])

-- the run from h to just before j, closed by 2k + 1, is the ring of l, and the run from j to just before h, closed by 2k, stays
pub record MefLaw (b : Boundary) (h j k f l : ℕ) : Type 0 where
  pub new : (m : ℕ) (xs ys : List ℕ) → RingOf b m (h ∷ xs ++ j ∷ ys) → RingOf (mef b h j k f l) l (h ∷ xs ++ (2 * k + 1) ∷ [])
  pub old : (m : ℕ) (xs ys : List ℕ) → RingOf b m (h ∷ xs ++ j ∷ ys) → RingOf (mef b h j k f l) m (j ∷ ys ++ 2 * k ∷ [])
  pub others : Else b (mef b h j k f l) (owner b h ∷ l ∷ [])

-- the run after h followed by the run after its mate, or the start of h lone
pub record KefLaw (b : Boundary) (h : ℕ) : Type 0 where
  pub ring : (l m : ℕ) (xs ys : List ℕ) → RingOf b l (h ∷ xs) → RingOf b m (mate h ∷ ys) → Along (kef b h) m (xs ++ ys) (start b h)
  pub others : Else b (kef b h) (owner b h ∷ owner b (mate h) ∷ [])

-- the run between h and its mate in the new loop, the run from the mate to h in the old, either may be a lone vertex
pub record KemrLaw (b : Boundary) (h l : ℕ) : Type 0 where
  pub new : (m : ℕ) (xs ys : List ℕ) → RingOf b m (h ∷ xs ++ mate h ∷ ys) → Along (kemr b h l) l xs (start b (mate h))
  pub old : (m : ℕ) (xs ys : List ℕ) → RingOf b m (h ∷ xs ++ mate h ∷ ys) → Along (kemr b h l) m ys (start b h)
  pub others : Else b (kemr b h l) (owner b h ∷ l ∷ [])

-- 2k, the ring of c from c on, 2k + 1, the ring of a from a on
pub record MekrLaw (b : Boundary) (a c k : ℕ) : Type 0 where
  pub ring : (l i v w : ℕ) (xs ys : List ℕ) → At b a l xs v → At b c i ys w → RingOf (mekr b a c k) l (2 * k ∷ ys ++ (2 * k + 1) ∷ xs)
  pub others : (l i v w : ℕ) (xs ys : List ℕ) → At b a l xs v → At b c i ys w → Else b (mekr b a c k) (l ∷ i ∷ [])

-- a new loop with its lone vertex
pub record MvfsLaw (b : Boundary) (a f l v : ℕ) (p : Point) : Type 0 where
  pub new : lone (mvfs b a f l v p) l ≡ Some v
  pub others : Else b (mvfs b a f l v p) (l ∷ [])

-- the loop of the one face goes
pub record KvfsLaw (b : Boundary) (a : ℕ) : Type 0 where
  pub others : Else b (kvfs b a) (outer_of (row b.faces (face_in b a)) ∷ [])

-- a loop moves to another face, and every ring and lone vertex stays
pub record KfmrhLaw (b : Boundary) (f g : ℕ) : Type 0 where
  pub others : Else b (kfmrh b f g) []

-- one vertex row changes, and nothing else
pub record MoveLaw (b : Boundary) (v : ℕ) (p : Point) : Type 0 where
  pub moved : row (move b v p).vertices v ≡ Some p
  pub other_rows : (k : ℕ) → k ≢ v → row (move b v p).vertices k ≡ row b.vertices k
  pub edges : (move b v p).edges ≡ b.edges
  pub loops : (move b v p).loops ≡ b.loops
  pub faces : (move b v p).faces ≡ b.faces
  pub shells : (move b v p).shells ≡ b.shells
  pub handles : (move b v p).handles ≡ b.handles

-- every loop of a sound boundary has its ring or its lone vertex, so that the laws speak of something
pub record HasRings (b : Boundary) : Type 0 where
  pub at_half_edge : (h : ℕ) → Used b h → (hs : List ℕ) × RingOf b (owner b h) (h ∷ hs)

-- the place of the run after h up to x: its first half-edge, or the loop l where it is empty
abbrev pub run_place : Boundary → ℕ → ℕ → ℕ → ℕ
run_place b h x l = cond (next b h == x) (512 + l) (next b h)

-- the operator that undoes another, with its numbers, gives the equal boundary
pub record Undone (b : Boundary) : Type 0 where
  pub kvfs_mvfs : (a f l v : ℕ) (p : Point) → a < 8 → f < 96 → l < 96 → v < 128 → mvfs_refusal b a f l v ≡ None → kvfs (mvfs b a f l v p) a ≡ b
  pub kev_mev : (a k v : ℕ) (p : Point) → ((a < 384) ⊎ ((512 ≤ a) × (a < 608))) → k < 192 → v < 128 → mev_refusal b a k v ≡ None → kev (mev b a k v p) (2 * k) ≡ b
  pub kef_mef : (h j k f l : ℕ) → h < 384 → j < 384 → k < 192 → f < 96 → l < 96 → mef_refusal b h j k f l ≡ None → kef (mef b h j k f l) (2 * k + 1) ≡ b
  pub mekr_kemr : (k l : ℕ) → k < 192 → l < 96 → kemr_refusal b (2 * k) l ≡ None → mekr (kemr b (2 * k) l) (run_place b (2 * k + 1) (2 * k) (owner b (2 * k))) (run_place b (2 * k) (2 * k + 1) l) k ≡ b

-- the laws, for every sound boundary and every edit that it accepts
pub record RingLaws (b : Boundary) : Type 0 where
  pub rings : HasRings b
  pub mvfs_law : (a f l v : ℕ) (p : Point) → l < 96 → MvfsLaw b a f l v p
  pub kvfs_law : (a : ℕ) → KvfsLaw b a
  pub mev_law : (a k v : ℕ) (p : Point) → k < 192 → v < 128 → mev_refusal b a k v ≡ None → MevLaw b a k v p
  pub kev_law : (h : ℕ) → h < 384 → kev_refusal b h ≡ None → KevLaw b h
  pub mef_law : (h j k f l : ℕ) → h < 384 → j < 384 → k < 192 → f < 96 → l < 96 → mef_refusal b h j k f l ≡ None → MefLaw b h j k f l
  pub kef_law : (h : ℕ) → h < 384 → kef_refusal b h ≡ None → KefLaw b h
  pub kemr_law : (h l : ℕ) → h < 384 → l < 96 → kemr_refusal b h l ≡ None → KemrLaw b h l
  pub mekr_law : (a c k : ℕ) → k < 192 → mekr_refusal b a c k ≡ None → MekrLaw b a c k
  pub kfmrh_law : (f g : ℕ) → KfmrhLaw b f g
  pub move_law : (v : ℕ) (p : Point) → v < 128 → MoveLaw b v p
  pub undone : Undone b
