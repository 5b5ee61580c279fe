-- A settling disk over lent cells behind two stops, seen as its cells and the calls left.
use Rattle.std.proofs.Common.{ℕ, List, [], ◌∷◌}
use Rattle.disk.specs.declared.Cell.{Cell}
use Rattle.disk.specs.declared.Lent.{Lent}
use Rattle.disk.specs.declared.Settling.{Settling}
use Rattle.disk.specs.declared.Stop.{Stop}
use Rattle.disk.specs.Calls.{Call}
use Rattle.disk.specs.declared.Either.{Either}
use Rattle.disk.specs.declared.Either.TheVariants.{First, Second}
use Rattle.disk.specs.Eithers.{EitherDid}
use Rattle.disk.specs.Chains.{Chain, none, first}
use Rattle.disk.specs.Settlings.{Went, read_all}
use Rattle.disk.specs.Stops.{Stopped}
use Rattle.disk.specs.Behind.{BehindStop}
use Rattle.disk.proofs.Behind as behind
use Rattle.disk.proofs.Maps.{chain_map, stopped_map}
use Rattle.bench.specs.Lives.{BehindTwo}

abbrev lent : Lent → List Cell
lent l = l.cells.now

abbrev pub lent_cells : Settling Lent → List Cell
lent_cells = behind.cells_of lent

abbrev pub stopped_once : Stop (Settling Lent) → List Cell × ℕ
stopped_once = behind.stopped_once lent

abbrev pub stopped_twice : Stop (Stop (Settling Lent)) → (List Cell × ℕ) × ℕ
stopped_twice s = (stopped_once s.disk, s.left)

abbrev pub DidPlain : Settling Lent → Call → Settling Lent → Type 0
DidPlain = behind.DidPlain lent

abbrev pub DidOnce : Stop (Settling Lent) → Call → Stop (Settling Lent) → Type 0
DidOnce = behind.DidOnce lent

abbrev pub DidTwice : Stop (Stop (Settling Lent)) → Call → Stop (Stop (Settling Lent)) → Type 0
DidTwice s c t = Stopped (λ u. read_all (lent_cells u.disk)) DidOnce s.disk s.left c t.disk t.left

once : (u : Stop (Settling Lent)) (c : Call) (v : Stop (Settling Lent)) → DidOnce u c v → BehindStop (stopped_once u) c (stopped_once v)
once = behind.once lent

twice : (s : Stop (Stop (Settling Lent))) (c : Call) (t : Stop (Stop (Settling Lent))) → DidTwice s c t → BehindTwo (stopped_twice s) c (stopped_twice t)
twice s c t w = stopped_map stopped_once DidOnce BehindStop once (λ u. read_all u.0) s.disk s.left c t.disk t.left w

pub lived_twice : (s t : Stop (Stop (Settling Lent))) (cs : List Call) → Chain DidTwice s cs t → Chain BehindTwo (stopped_twice s) cs (stopped_twice t)
lived_twice s t cs r = chain_map stopped_twice DidTwice BehindTwo twice r

-- what a chain of one make or another is, by the make
abbrev pub Side : Either (Stop (Settling Lent)) (Settling Lent) → List Call → Type 0
Side (First a) cs = (z : List Cell × ℕ) × Chain BehindStop (stopped_once a) cs z
Side (Second b) cs = (z : List Cell) × Chain Went (lent_cells b) cs z

side_end : (x : Either (Stop (Settling Lent)) (Settling Lent)) → Side x []
side_end (First a) = (stopped_once a, none)
side_end (Second b) = (lent_cells b, none)

side_more : (x : Either (Stop (Settling Lent)) (Settling Lent)) (c : Call) (y : Either (Stop (Settling Lent)) (Settling Lent)) (cs : List Call) → EitherDid DidOnce DidPlain x c y → Side y cs → Side x (c ∷ cs)
side_more (First a) c (First b) cs w s = (s.0, first (once a c b w) s.1)
side_more (First a) c (Second b) cs w s = absurd w
side_more (Second a) c (First b) cs w s = absurd w
side_more (Second a) c (Second b) cs w s = (s.0, first w s.1)

pub lived_side : {x z : Either (Stop (Settling Lent)) (Settling Lent)} {cs : List Call} → Chain (EitherDid DidOnce DidPlain) x cs z → Side x cs
lived_side {x} none = side_end x
lived_side (first {d} {e} {c = c} {cs = cs} w r) = side_more d c e cs w (lived_side r)
