-- A place where an edge may begin or end: a half-edge, or the lone vertex of a loop.
use Rattle.std.proofs.Common.{◌≡◌, ℕ, ◌+◌, ◌-◌, ◌<◌, Bool, true, false, cond, ◌≢◌, is_some, Some, None, Option, unwrap_or, sym, refl, ap, ◌∙◌, subst, arith}
use Rattle.boundary.specs.declared.Boundary.{Boundary}
use Rattle.boundary.specs.Tables.{used, half_used, start, owner, lone, is_half_place, place_loop, place_vertex}
use Rattle.boundary.specs.Refusals.{place_used, has_vertex}
use Rattle.rules.specs.Rules.{Has, Used, Sound}
use Rattle.rules.proofs.Rows.{some_value, true_T, lone_has, none_not_some, some_same}
use Rattle.std.proofs.lemmas.Bool.{lt-ltb, le-ltb}

-- which numbers are half-edges, and the loop of one that is not
pub half_place : (a : ℕ) → a < 384 → is_half_place a ≡ true
half_place a lt = lt-ltb a 512 (omega arith)

pub lone_place : (a l : ℕ) → a ≡ 512 + l → is_half_place a ≡ false
lone_place a l e = le-ltb a 512 (omega arith)

pub lone_loop : (a l : ℕ) → a ≡ 512 + l → a - 512 ≡ l
lone_loop a l e = omega arith

-- the half-edge a, if the test says that the place is one
abbrev pub target : Bool → ℕ → Option ℕ
target c a = cond c (Some a) None

-- the place is a half-edge on the loop l that starts at v, or the lone vertex v of l
pub record Place (b : Boundary) (t : Option ℕ) (l v : ℕ) : Type 0 where
  pub loop_used : Has b.loops l
  pub vertex_used : Has b.vertices v
  pub at : (a : ℕ) → t ≡ Some a → Used b a × (owner b a ≡ l) × (start b a ≡ v)
  pub alone : t ≡ None → lone b l ≡ Some v

module _ (b : Boundary) (s : Sound b) {t : Option ℕ} {l v : ℕ} (e : Place b t l v) where
  -- by the target
  lone_by : (w : ℕ) → lone b l ≡ Some w → (o : Option ℕ) → t ≡ o → w ≡ v
  lone_by w q None d = some_same q (e.alone d)
  lone_by w q (Some a) d = absurd (s.lone.lone_alone l w a q (e.at a d).0 (e.at a d).1)

  apart_by : (n w : ℕ) → n ≢ l → lone b n ≡ Some w → (o : Option ℕ) → t ≡ o → v ≢ w
  apart_by n w ne q None d = λ same. ne (s.lone.one_loop n l w q (e.alone d ∙ ap Some same))
  apart_by n w ne q (Some a) d = λ same. s.lone.not_both n w a q (e.at a d).0 ((e.at a d).2 ∙ same)

  -- if the loop has a lone vertex it is the end's, and no other loop has it
  pub lone_is : (w : ℕ) → lone b l ≡ Some w → w ≡ v
  lone_is w q = lone_by w q t refl

  pub vertex_apart : (n w : ℕ) → n ≢ l → lone b n ≡ Some w → v ≢ w
  vertex_apart n w ne q = apart_by n w ne q t refl

  pub fresh_loop : t ≡ None → (h : ℕ) → Used b h → owner b h ≢ l
  fresh_loop d h u = s.lone.lone_alone l v h (e.alone d) u

  pub fresh_vertex : t ≡ None → (h : ℕ) → Used b h → start b h ≢ v
  fresh_vertex d h u = s.lone.not_both l v h (e.alone d) u

-- a used half-edge, or the loop of a lone vertex, is a place
pub at_half : (b : Boundary) → Sound b → (a : ℕ) → Used b a → Place b (Some a) (owner b a) (start b a)
at_half b s a u = record {
  loop_used = s.named.owner_used a u;
  vertex_used = s.named.start_used a u;
  at = λ c e. let same : a ≡ c = some_same refl e in (subst (Used b) same u, ap (owner b) (sym same), ap (start b) (sym same));
  alone = λ e. absurd (none_not_some e refl);
}

pub at_lone : (b : Boundary) → Sound b → (l v : ℕ) → lone b l ≡ Some v → Place b None l v
at_lone b s l v e = record {
  loop_used = lone_has b l v e;
  vertex_used = s.named.lone_used l v e;
  at = λ c d. absurd (none_not_some refl d);
  alone = λ d. e;
}

place_by : (b : Boundary) → Sound b → (a l : ℕ) (c : Bool) → cond c (half_used b a) (used b.loops l) ≡ true → cond c true (is_some (lone b l)) ≡ true → Place b (target c a) (cond c (owner b a) l) (cond c (start b a) (unwrap_or (lone b l) 0))
place_by b s a l true u e = at_half b s a (true_T (half_used b a) u)
place_by b s a l false u e = at_lone b s l (unwrap_or (lone b l) 0) (some_value (lone b l) (true_T (is_some (lone b l)) e))

pub place : (b : Boundary) → Sound b → (a : ℕ) → place_used b a ≡ true → has_vertex b a ≡ true → Place b (target (is_half_place a) a) (place_loop b a) (place_vertex b a)
place b s a u e = place_by b s a (a - 512) (is_half_place a) u e
