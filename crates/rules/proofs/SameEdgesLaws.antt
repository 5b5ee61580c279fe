-- The laws of the operators that leave the edges as they are.
use Rattle.std.proofs.Common.{◌≡◌, ℕ, ◌<◌, Bool, true, false, cond, eqb, List, [], ◌∷◌, set, Some, None, Option, sym, refl, ap, ◌∙◌, subst, arith}
use Rattle.std.specs.List.{ContainsAt as In}
use Rattle.boundary.specs.declared.Point.{Point}
use Rattle.boundary.specs.declared.Edge.{Edge}
use Rattle.boundary.specs.declared.Loop.{Loop}
use Rattle.boundary.specs.declared.Boundary.{Boundary}
use Rattle.boundary.specs.Changes.{with_edges}
use Rattle.boundary.specs.Operators.{mvfs, kvfs, kfmrh, face_in}
use Rattle.boundary.specs.Tables.{row, lone, lone_of, outer_of, face_shell}
use Rattle.rules.specs.Rules.{Sound}
use Rattle.rules.specs.RingLaws.{RingOf, Else, MvfsLaw, KvfsLaw, KfmrhLaw, MoveLaw}
use Rattle.rules.proofs.Fields.{inner_lone}
use Rattle.rules.proofs.RingLists.{in_first}
use Rattle.rules.proofs.Rows.{row_put_same, row_put_other}

-- two boundaries with the same edges have the same rings
ring_beside : (b c : Boundary) (m : ℕ) (hs : List ℕ) → c.edges ≡ b.edges → RingOf b m hs → RingOf c m hs
ring_beside b c m hs e r = subst (λ es. RingOf (with_edges c es) m hs) (sym e) (record { round = r.round; distinct = r.distinct; only = r.only; whole = r.whole })

-- every ring stays, and with it every lone vertex but those of the loops ls
beside : (b c : Boundary) (ls : List ℕ) → c.edges ≡ b.edges → ((m : ℕ) → (In ls m → ⊥) → lone c m ≡ lone b m) → Else b c ls
beside b c ls e same = record { rings = λ m hs off r. ring_beside b c m hs e r; lones = same }

-- a loop row that is put or cleared is the only one that changes
other_lone : (t : List (Option Loop)) (l m : ℕ) (r : Option Loop) → (In (l ∷ []) m → ⊥) → lone_of (row (set t l r) m) ≡ lone_of (row t m)
other_lone t l m r off = ap lone_of (row_put_other t l m r (λ e. off (subst (λ x. In (l ∷ []) x) (sym e) (in_first l []))))

pub mvfs_law : (b : Boundary) (a f l v : ℕ) (p : Point) → Sound b → l < 96 → MvfsLaw b a f l v p
mvfs_law b a f l v p s lt = record {
  new = ap lone_of (row_put_same b.loops l _ (omega (arith, s.sizes.loops)));
  others = beside b (mvfs b a f l v p) (l ∷ []) refl (λ m off. other_lone b.loops l m _ off);
}

pub kvfs_law : (b : Boundary) (a : ℕ) → KvfsLaw b a
kvfs_law b a = record { others = beside b (kvfs b a) _ refl (λ m off. other_lone b.loops (outer_of (row b.faces (face_in b a))) m None off) }

-- in one shell or across two, kfmrh changes neither edges nor lone vertices
either_edges : (t : Bool) (x y : Boundary) (es : List (Option Edge)) → x.edges ≡ es → y.edges ≡ es → (cond t x y).edges ≡ es
either_edges true x y es p q = p
either_edges false x y es p q = q

either_loops : (t : Bool) (x y : Boundary) (ls : List (Option Loop)) → x.loops ≡ ls → y.loops ≡ ls → (cond t x y).loops ≡ ls
either_loops true x y ls p q = p
either_loops false x y ls p q = q

pub kfmrh_law : (b : Boundary) (f g : ℕ) → KfmrhLaw b f g
kfmrh_law b f g = record {
  others = beside b (kfmrh b f g) [] (either_edges (eqb (face_shell b f) (face_shell b g)) _ _ b.edges refl refl)
      (λ m off. ap (λ t. lone_of (row t m)) (either_loops (eqb (face_shell b f) (face_shell b g)) _ _ _ refl refl) ∙ inner_lone b.loops g f m);
}

pub move_law : (b : Boundary) (v : ℕ) (p : Point) → Sound b → v < 128 → MoveLaw b v p
move_law b v p s lt = record {
  moved = row_put_same b.vertices v (Some p) (omega (arith, s.sizes.vertices));
  other_rows = λ k apart. row_put_other b.vertices v k (Some p) apart;
  edges = refl;
  loops = refl;
  faces = refl;
  shells = refl;
  handles = refl;
}
