-- An edge drawn across a loop is undone by erasing it, to the same boundary.
use Rattle.std.proofs.Common.{◌≡◌, ℕ, ◌+◌, ◌*◌, ◌/◌, ◌<◌, Bool, false, eqb, ◌≢◌, List, set, Some, None, Option, sym, refl, ap, ◌∙◌, subst, inl, inr, arith}
use native.Mathlib.Decide.{ℕ_discrete}
use Rattle.std.proofs.lemmas.Bool.{ne_eqb, and_right}
use Rattle.boundary.specs.declared.Edge.{Edge}
use Rattle.boundary.specs.declared.Boundary.{Boundary}
use Rattle.boundary.specs.Tables.{half_in, start, next, owner, mate, face_of, loop_face, loop_shell}
use Rattle.boundary.specs.Changes.{clear_face, clear_loop, clear_edge, emptied, led, joined, joined_in}
use Rattle.boundary.specs.Operators.{past, mef, kef}
use Rattle.boundary.specs.Refusals.{mef_refusal}
use Rattle.rules.specs.Rules.{Has, Used, Sound}
use Rattle.rules.proofs.Rows.{no_row, some_same}
use Rattle.rules.proofs.Halves.{half_of_even, half_of_odd, mate_of_odd, new_even, new_odd, joined_hit, joined_miss}
use Rattle.rules.proofs.ErasedEdge.{past_on}
use Rattle.rules.proofs.Mef.{Asked, asked, Made, has_made, on?, on_owner, off_owner, was_owner}
use Rattle.rules.proofs.Undo.{put_back, put_clear, row_by_halves, same_half}
use Rattle.rules.proofs.LedEdges.{Alike, joined_alike, led_twice, twice_has_in, twice_has_out, twice_length, twice_start, twice_owner, twice_first, twice_second, twice_other}
use Rattle.rules.proofs.RulesAsRings.{owner_not_free}

-- the operator with what it reads of the boundary handed to it
abbrev kef_parts : Bool → Boundary → ℕ → ℕ → ℕ → ℕ → ℕ → ℕ → ℕ → ℕ → ℕ → Boundary
kef_parts t c x y l m p q v k g = clear_face (clear_loop (clear_edge (emptied t (led (led (joined c l m) x p) y q) m v) k) l) g

kef_parts_same : (c : Boundary) (x : ℕ) {t t' : Bool} {y y' l l' m m' p p' q q' k k' g g' : ℕ} (v : ℕ)
    → t ≡ t' → y ≡ y' → l ≡ l' → m ≡ m' → p ≡ p' → q ≡ q' → k ≡ k' → g ≡ g'
    → kef_parts t c x y l m p q v k g ≡ kef_parts t' c x y' l' m' p' q' v k' g'
kef_parts_same c x v et ey el em ep eq ek eg = λ i. kef_parts (et i) c x (ey i) (el i) (em i) (ep i) (eq i) v (ek i) (eg i)

-- the edges of c, which has of b what a drawn edge leaves, are those of b again
module _ (b c : Boundary) (h j k f l : ℕ) (s : Sound b) (a : Asked b h j k f l) (d : Made b c h j (2 * k) (2 * k + 1) f l) where
  abbrev x : ℕ
  x = 2 * k + 1

  abbrev y : ℕ
  y = 2 * k

  abbrev one : List (Option Edge)
  one = joined_in c.edges l (owner b h)

  abbrev three : List (Option Edge)
  three = led_twice one (Some x) j (Some y) h

  alike : Alike c.edges one
  alike = joined_alike c.edges l (owner b h)

  -- an edge that is left was one of b
  edge_was : (i : ℕ) → i ≢ k → Has three i → Has b.edges i
  edge_was i ne u =
      let v : Has c.edges i = twice_has_out c.edges one (Some x) j (Some y) h alike i u in
      elim (d.in_use (2 * i) (subst (Has c.edges) (sym (half_of_even i)) v)) [
        | inl e ↦ absurd (ne (omega arith))
        | inr more ↦ elim more [
          | inl e ↦ absurd (ne (omega arith))
          | inr w ↦ subst (Has b.edges) (half_of_even i) w
        ]
      ]

  start_back : (i : ℕ) → Used b i → (half_in three i).start ≡ start b i
  start_back i u = twice_start c.edges one (Some x) j (Some y) h alike i ∙ d.old_start i u

  owner_back : (i : ℕ) → Used b i → (half_in three i).owner ≡ owner b i
  owner_back i u = twice_owner c.edges one (Some x) j (Some y) h alike i ∙ elim (on? b c h j k y x f l s a d i) [
    | yes o ↦
        joined_hit c.edges l (owner b h) i (d.still_in_use i u) (on_owner b c h j k y x f l s a d i u o) ∙ sym (was_owner b c h j k y x f l s a d i o)
    | no n ↦
        let same = off_owner b c h j k y x f l s a d i u n in
        joined_miss c.edges l (owner b h) i (d.still_in_use i u) (λ e. owner_not_free b s l a.loop_free i u (sym same ∙ e)) ∙ same
  ]

  next_back : (i : ℕ) → Used b i → (half_in three i).next ≡ next b i
  next_back i u = elim (ℕ_discrete (next b i) h) [
    | yes e ↦
        let at : next c i ≡ y = d.to_h i u e in
        twice_second c.edges one (Some x) j (Some y) h alike i now (λ q. even_not_odd (sym at ∙ sym (some_same refl q))) (ap Some (sym at)) ∙ sym e
    | no nh ↦ elim (ℕ_discrete (next b i) j) [
      | yes e ↦ twice_first c.edges one (Some x) j (Some y) h alike i now (λ q. new_even b.edges k j a.edge_free a.j_used (sym (some_same refl q))) (ap Some (sym (d.to_j i u e))) ∙ sym e
      | no nj ↦
          let at : next c i ≡ next b i = d.elsewhere i u nh nj in
          let after = s.named.next_used i u in
          twice_other c.edges one (Some x) j (Some y) h alike i now (λ q. new_odd b.edges k (next b i) a.edge_free after (sym at ∙ sym (some_same refl q))) (λ q. new_even b.edges k (next b i) a.edge_free after (sym at ∙ sym (some_same refl q))) ∙ at
    ]
  ]
    where
      now : Used c i
      now = d.still_in_use i u

      even_not_odd : y ≢ x
      even_not_odd e = omega arith

  edges_back : set three k None ≡ b.edges
  edges_back = put_back b.edges three k None (twice_length c.edges one (Some x) j (Some y) h alike ∙ d.edge_length) (no_row b.edges k a.edge_free) (λ i ne.
      row_by_halves three b.edges i (edge_was i ne) (λ u. subst (Has three) (half_of_even i) (twice_has_in c.edges one (Some x) j (Some y) h alike (2 * i / 2) (d.still_in_use (2 * i) (subst (Has b.edges) (sym (half_of_even i)) u)))) (λ g q u. same_half _ _ (start_back g u) (next_back g u) (owner_back g u)))

  -- what the operator reads
  next_x : next c x ≡ h
  next_x = ap (λ r. r.next) d.y_half

  next_y : next c y ≡ j
  next_y = ap (λ r. r.next) d.x_half

  x_not_alone : next c x ≢ x
  x_not_alone e = new_odd b.edges k h a.edge_free a.h_used (sym next_x ∙ e)

  y_not_alone : next c y ≢ y
  y_not_alone e = new_even b.edges k j a.edge_free a.j_used (sym next_y ∙ e)

  read : kef c x ≡ kef_parts false c x y l (owner b h) j h (start c x) k f
  read =
      let m = mate_of_odd k in
      kef_parts_same c x (start c x)
      (and_right (eqb (next c x) x) (eqb (next c (mate x)) (mate x)) (ap (λ i. eqb (next c i) i) m ∙ ne_eqb (next c y) y y_not_alone))
      m
      (ap (λ r. r.owner) d.y_half)
      (ap (owner c) m ∙ ap (λ r. r.owner) d.x_half)
      (ap (past c x) m ∙ past_on c x y y_not_alone ∙ next_y)
      (ap (λ i. past c i x) m ∙ past_on c y x x_not_alone ∙ next_x)
      (half_of_odd k)
      (ap (λ r. loop_face c r.owner) d.y_half ∙ ap face_of d.new_loop)

pub kef_undoes_mef : (b : Boundary) (h j k f l : ℕ) → Sound b → h < 384 → j < 384 → k < 192 → f < 96 → l < 96 → mef_refusal b h j k f l ≡ None → kef (mef b h j k f l) (2 * k + 1) ≡ b
kef_undoes_mef b h j k f l s lh lj lk lf ll q =
    let a = asked b h j k f l q in
    let d = has_made b h j k f l s.sizes a lk lf ll in
    let es = edges_back b (mef b h j k f l) h j k f l s a d in
    let fs = put_clear b.faces f (record { shell = loop_shell b (owner b h); outer = l }) a.face_free in
    let ls = put_clear b.loops l (record { face = f; lone = None }) a.loop_free in
    read b (mef b h j k f l) h j k f l s a d
    ∙ (λ i. record { shells = b.shells; faces = fs i; loops = ls i; edges = es i; vertices = b.vertices; handles = b.handles })
