-- An edge taken out of a loop comes back, to the same boundary, where the two runs are joined again at the places that it left.
use Rattle.std.proofs.Common.{◌≡◌, ℕ, ◌+◌, ◌-◌, ◌*◌, ◌/◌, ◌<◌, true, false, eqb, ◌≢◌, List, length, set, Some, None, Option, unwrap_or, sym, refl, ap, ◌∙◌, subst, inl, inr, arith}
use native.Mathlib.Decide.{ℕ_discrete}
use Rattle.std.proofs.lemmas.Bool.{eq-eqb, ne_eqb, cond-true, cond-false}
use Rattle.boundary.specs.declared.Edge.{Edge}
use Rattle.boundary.specs.declared.Loop.{Loop}
use Rattle.boundary.specs.declared.Boundary.{Boundary}
use Rattle.boundary.specs.Tables.{row, side, half_in, start, next, owner, lone, loop_face, is_half_place, place_loop, place_vertex}
use Rattle.boundary.specs.Changes.{joined_in}
use Rattle.boundary.specs.Operators.{half_edge, edge, kemr, mekr}
use Rattle.boundary.specs.Refusals.{kemr_refusal}
use Rattle.rings.proofs.Facts.{injective}
use Rattle.rules.specs.Rules.{Has, Used, Sound}
use Rattle.rules.specs.RingLaws.{run_place}
use Rattle.rules.proofs.Rows.{has_row, has_below, no_row, row_put_same, row_put_other, length_put, none_not_some, some_same}
use Rattle.rules.proofs.Halves.{half_of_even, half_even, half_odd, mate_of_even, joined_hit, joined_miss}
use Rattle.rules.proofs.RulesAsRings.{loop_rings, half_below, owner_not_free, lone_not_owner}
use Rattle.rules.proofs.LedEdges.{Alike, joined_alike, twice_has_in, twice_has_out, twice_length, twice_start, twice_owner, twice_first, twice_second, twice_other}
use Rattle.rules.proofs.ErasedEdge.{past_on, halves_apart, after_x, after_y}
use Rattle.rules.proofs.Undo.{put_back, row_by_halves, same_half}
use Rattle.rules.proofs.Kemr.{Asked, asked, Left, x_not_self, y_not_self, after_x_used, after_y_owner, after_x_on, after_y_off, on_owner, off_owner, was_owner, owner_was, plain, kemr_is, is_left}
use Rattle.rules.proofs.Mekr.{table, linked, linked_is}
use Rattle.rules.proofs.Fields.{loop_row}
use Rattle.rules.proofs.Places.{target, half_place, lone_place}

-- the place a of a run that begins with n and ends before z: the half-edge n, or the loop l where the run is empty
data RunPlace (n z a l : ℕ) : Type 0 where
  half : n ≢ z → a ≡ n → is_half_place a ≡ true → RunPlace n z a l
  empty : n ≡ z → a ≡ 512 + l → is_half_place a ≡ false → RunPlace n z a l

place_is : (b : Boundary) (h x l : ℕ) → next b h < 384 → RunPlace (next b h) x (run_place b h x l) l
place_is b h x l small = elim (ℕ_discrete (next b h) x) [
  | yes e ↦
      let is : run_place b h x l ≡ 512 + l = cond-true (eqb (next b h) x) (512 + l) (next b h) (eq-eqb (next b h) x e) in
      empty e is (lone_place (run_place b h x l) l is)
  | no ne ↦
      let is : run_place b h x l ≡ next b h = cond-false (eqb (next b h) x) (512 + l) (next b h) (ne_eqb (next b h) x ne) in
      half ne is (ap is_half_place is ∙ half_place (next b h) small)
]

-- what a join reads at such a place
place_loop_is : (d : Boundary) {n z a l : ℕ} → RunPlace n z a l → (n ≢ z → owner d n ≡ l) → place_loop d a ≡ l
place_loop_is d {n} {z} {a} {l} (half ne e t) at = cond-true (is_half_place a) (owner d a) (a - 512) t ∙ ap (owner d) e ∙ at ne
place_loop_is d {n} {z} {a} {l} (empty q e t) at = cond-false (is_half_place a) (owner d a) (a - 512) t ∙ omega arith

place_vertex_is : (d : Boundary) (v : ℕ) {n z a l : ℕ} → RunPlace n z a l → (n ≢ z → start d n ≡ v) → (n ≡ z → lone d l ≡ Some v) → place_vertex d a ≡ v
place_vertex_is d v {n} {z} {a} {l} (half ne e t) at there = cond-true (is_half_place a) (start d a) (unwrap_or (lone d (a - 512)) 0) t ∙ ap (start d) e ∙ at ne
place_vertex_is d v {n} {z} {a} {l} (empty q e t) at there =
    let is : a - 512 ≡ l = omega arith in
    cond-false (is_half_place a) (start d a) (unwrap_or (lone d (a - 512)) 0) t ∙ ap (λ i. unwrap_or (lone d i) 0) is ∙ ap (λ o. unwrap_or o 0) (there q)

-- the half-edge at such a place, if there is one
target_is : {n z a l : ℕ} → RunPlace n z a l → unwrap_or (target (is_half_place a) a) z ≡ n
target_is {n} {z} {a} {l} (half ne e t) = ap (λ c. unwrap_or (target c a) z) t ∙ e
target_is {n} {z} {a} {l} (empty q e t) = ap (λ c. unwrap_or (target c a) z) t ∙ sym q

target_hit : {n z a l : ℕ} → RunPlace n z a l → n ≢ z → target (is_half_place a) a ≡ Some n
target_hit {n} {z} {a} {l} (half ne e t) full = ap (λ c. target c a) t ∙ ap Some e
target_hit {n} {z} {a} {l} (empty q e t) full = absurd (full q)

target_miss : (m : ℕ) {n z a l : ℕ} → RunPlace n z a l → (n ≢ z → m ≢ n) → target (is_half_place a) a ≢ Some m
target_miss m {n} {z} {a} {l} (half ne e t) off s = off ne (sym (some_same (ap (λ c. target c a) t) s) ∙ e)
target_miss m {n} {z} {a} {l} (empty q e t) off s = none_not_some (ap (λ c. target c a) t) s

-- a used edge, by its halves
edge_row : (es : List (Option Edge)) (k : ℕ) → Has es k → row es k ≡ Some (edge (half_in es (2 * k)) (half_in es (2 * k + 1)))
edge_row es k u =
    let e = has_row es k u in
    let p = half_even es k ∙ ap (λ r. side r true) e.1 in
    let q = half_odd es k ∙ ap (λ r. side r false) e.1 in
    e.1 ∙ sym (λ i. Some (edge (p i) (q i)))

-- the join with what it reads of the boundary handed to it
linked_same : (d : Boundary) (p q : Option ℕ) (k : ℕ) {l l' m m' v v' w w' : ℕ} → l ≡ l' → m ≡ m' → v ≡ v' → w ≡ w' → linked d p q l m v w k ≡ linked d p q l' m' v' w' k
linked_same d p q k el em ev ew = λ t. linked d p q (el t) (em t) (ev t) (ew t) k

-- d has of b what is left without the edge k, and a and c are the places of the two runs
module _ (b d : Boundary) (k l a c : ℕ) (s : Sound b) (o : Asked b (2 * k) (2 * k + 1) l) (w : Left b d (2 * k) (2 * k + 1) l)
    (at_a : RunPlace (next b (2 * k + 1)) (2 * k) a (owner b (2 * k))) (at_c : RunPlace (next b (2 * k)) (2 * k + 1) c l) where
  abbrev x : ℕ
  x = 2 * k

  abbrev y : ℕ
  y = 2 * k + 1

  abbrev lx : ℕ
  lx = owner b (2 * k)

  abbrev p : Option ℕ
  p = target (is_half_place a) a

  abbrev q : Option ℕ
  q = target (is_half_place c) c

  abbrev one : List (Option Edge)
  one = joined_in d.edges l lx

  abbrev three : List (Option Edge)
  three = table d.edges p q lx l k

  alike : Alike d.edges one
  alike = joined_alike d.edges l lx

  x_moves : next b x ≢ x
  x_moves = x_not_self b d x y l s o w

  y_moves : next b y ≢ y
  y_moves = y_not_self b d x y l s o w

  after_y_used : Used b (next b y)
  after_y_used = s.named.next_used y w.gone.y_used

  -- the loops and the vertices of the two places
  loop_a : place_loop d a ≡ lx
  loop_a = place_loop_is d at_a (λ ne. off_owner b d x y l s o w (next b y) after_y_used ne y_moves (after_y_off b d x y l s o w) ∙ after_y_owner b d x y l s o w)

  loop_c : place_loop d c ≡ l
  loop_c = place_loop_is d at_c (λ ne. on_owner b d x y l s o w (next b x) (after_x_used b d x y l s o w) x_moves ne (after_x_on b d x y l s o w ne))

  vertex_a : place_vertex d a ≡ start b x
  vertex_a = place_vertex_is d (start b x) at_a (λ ne. w.gone.old_start (next b y) after_y_used ne y_moves ∙ after_y b d x y s w.gone) w.lone_emptied

  vertex_c : place_vertex d c ≡ start b y
  vertex_c = place_vertex_is d (start b y) at_c (λ ne. w.gone.old_start (next b x) (after_x_used b d x y l s o w) x_moves ne ∙ after_x b d x y s w.gone) w.lone_cut

  -- a half-edge of another edge
  module _ (i : ℕ) (u : Used b i) (nx : i ≢ 2 * k) (ny : i ≢ 2 * k + 1) where
    used_d : Used d i
    used_d = w.gone.still_in_use i u nx ny

    owner_back : (half_in three i).owner ≡ owner b i
    owner_back = twice_owner d.edges one p x q y alike i ∙ elim (owner_was b d x y l s o w i used_d) [
      | inl r ↦ joined_hit d.edges l lx i used_d r.1 ∙ sym (was_owner b d x y l s o w i r.0)
      | inr r ↦ joined_miss d.edges l lx i used_d (λ e. owner_not_free b s l o.loop_free i u (sym r.1 ∙ e)) ∙ r.1
    ]

    -- what follows i follows neither half of the edge
    not_after_x : next b i ≢ next b x
    not_after_x e = nx (injective (loop_rings b s) i x u o.x_used e)

    not_after_y : next b i ≢ next b y
    not_after_y e = ny (injective (loop_rings b s) i y u w.gone.y_used e)

    -- i led to x, so the run after y is not empty
    to_x_back : next b i ≡ x → (half_in three i).next ≡ x
    to_x_back e =
        let at : next d i ≡ next b y = w.gone.to_x i u nx ny e ∙ past_on b x y y_moves in
        twice_first d.edges one p x q y alike i used_d (target_miss x at_c (λ ne t. x_moves (sym t))) (target_hit at_a (λ t. not_after_y (e ∙ sym t)) ∙ ap Some (sym at))

    to_y_back : next b i ≡ y → (half_in three i).next ≡ y
    to_y_back e =
        let at : next d i ≡ next b x = w.gone.to_y i u nx ny e ∙ past_on b y x x_moves in
        let apart : next b x ≢ next b y = λ t. halves_apart b d x y s w.gone (injective (loop_rings b s) x y o.x_used w.gone.y_used t) in
        twice_second d.edges one p x q y alike i used_d (target_miss (next d i) at_a (λ ne t. apart (sym at ∙ t))) (target_hit at_c (λ t. not_after_x (e ∙ sym t)) ∙ ap Some (sym at))

    else_back : next b i ≢ x → next b i ≢ y → (half_in three i).next ≡ next b i
    else_back mx my =
        let at : next d i ≡ next b i = w.gone.elsewhere i u nx ny mx my in
        twice_other d.edges one p x q y alike i used_d (target_miss (next d i) at_a (λ ne t. not_after_y (sym at ∙ t))) (target_miss (next d i) at_c (λ ne t. not_after_x (sym at ∙ t))) ∙ at

    next_back : (half_in three i).next ≡ next b i
    next_back = elim (ℕ_discrete (next b i) x) [
      | yes e ↦ to_x_back e ∙ sym e
      | no mx ↦ elim (ℕ_discrete (next b i) y) [ yes e ↦ to_y_back e ∙ sym e | no my ↦ else_back mx my ]
    ]

    half_back : half_in three i ≡ half_in b.edges i
    half_back = same_half (half_in three i) (half_in b.edges i) (twice_start d.edges one p x q y alike i ∙ w.gone.old_start i u nx ny) next_back owner_back

  abbrev new_edge : Edge
  new_edge = edge (half_edge (start b x) (unwrap_or q y) lx) (half_edge (start b y) (unwrap_or p x) lx)

  edge_is : row b.edges k ≡ Some new_edge
  edge_is =
      let n = sym (target_is at_c) in
      let m = sym (target_is at_a) in
      let same = sym o.together in
      edge_row b.edges k (subst (Has b.edges) (half_of_even k) o.x_used)
      ∙ (λ i. Some (edge (half_edge (start b x) (n i) lx) (half_edge (start b y) (m i) (same i))))

  other_row : (i : ℕ) → i ≢ k → row three i ≡ row b.edges i
  other_row i ne =
      row_by_halves three b.edges i
      (λ u. subst (Has b.edges) (half_of_even i) (w.gone.in_use (2 * i) (subst (Has d.edges) (sym (half_of_even i)) (twice_has_out d.edges one p x q y alike i u))).0)
      (λ u. subst (Has three) (half_of_even i) (twice_has_in d.edges one p x q y alike (2 * i / 2) (used_d (2 * i) (subst (Has b.edges) (sym (half_of_even i)) u) (λ e. ne (omega arith)) (λ e. ne (omega arith)))))
      (λ h e u. half_back h u (λ t. ne (omega arith)) (λ t. ne (omega arith)))

  edges_back : set three k (Some new_edge) ≡ b.edges
  edges_back = put_back b.edges three k (Some new_edge) (twice_length d.edges one p x q y alike ∙ w.edge_length) edge_is other_row

  abbrev bare : Loop
  bare = record { face = loop_face d lx; lone = None }

  loop_used : Has b.loops lx
  loop_used = s.named.owner_used x o.x_used

  no_lone : (r : Option ℕ) → lone b lx ≡ r → r ≡ None
  no_lone None e = refl
  no_lone (Some v) e = absurd (lone_not_owner b s x o.x_used lx v e refl)

  bare_is : Some bare ≡ row b.loops lx
  bare_is = ap (λ f. Some (record { face = f; lone = None })) (w.old_loop_face lx (owner_not_free b s l o.loop_free x o.x_used)) ∙ sym (loop_row (row b.loops lx) None loop_used (no_lone (lone b lx) refl))

  loop_room : lx < length d.loops
  loop_room = subst (λ n. lx < n) (sym w.loop_length) (has_below b.loops lx loop_used)

  loops_back : set (set d.loops lx (Some bare)) l None ≡ b.loops
  loops_back = put_back b.loops (set d.loops lx (Some bare)) l None (length_put d.loops lx (Some bare) ∙ w.loop_length) (no_row b.loops l o.loop_free) (λ i nl. elim (ℕ_discrete i lx) [
    | yes e ↦ ap (row (set d.loops lx (Some bare))) e ∙ row_put_same d.loops lx (Some bare) loop_room ∙ bare_is ∙ ap (row b.loops) (sym e)
    | no ne ↦ row_put_other d.loops lx i (Some bare) ne ∙ w.old_loop i nl ne
  ])

  joined_back : mekr d a c k ≡ b
  joined_back =
      let es = edges_back in
      let ls = loops_back in
      linked_is (is_half_place a) (is_half_place c) d a c (place_loop d a) (place_loop d c) (place_vertex d a) (place_vertex d c) k
      ∙ linked_same d p q k loop_a loop_c vertex_a vertex_c
      ∙ (λ i. record { shells = w.same_shells i; faces = w.same_faces i; loops = ls i; edges = es i; vertices = w.same_vertices i; handles = w.same_handles i })

pub mekr_undoes_kemr : (b : Boundary) (k l : ℕ) → Sound b → k < 192 → l < 96 → kemr_refusal b (2 * k) l ≡ None → mekr (kemr b (2 * k) l) (run_place b (2 * k + 1) (2 * k) (owner b (2 * k))) (run_place b (2 * k) (2 * k + 1) l) k ≡ b
mekr_undoes_kemr b k l s k-small l-small r =
    let m = mate_of_even k in
    let asks = asked b (2 * k) l r in
    let o : Asked b (2 * k) (2 * k + 1) l = subst (λ y. Asked b (2 * k) y l) m asks in
    let w : Left b (plain b (2 * k) (2 * k + 1) l) (2 * k) (2 * k + 1) l = subst (λ y. Left b (plain b (2 * k) y l) (2 * k) y l) m (is_left b (2 * k) l s asks l-small) in
    let a = run_place b (2 * k + 1) (2 * k) (owner b (2 * k)) in
    let c = run_place b (2 * k) (2 * k + 1) l in
    ap (λ d. mekr d a c k) (kemr_is b (2 * k) l ∙ ap (λ y. plain b (2 * k) y l) m)
    ∙ joined_back b (plain b (2 * k) (2 * k + 1) l) k l a c s o w
    (place_is b (2 * k + 1) (2 * k) (owner b (2 * k)) (half_below b s (next b (2 * k + 1)) (s.named.next_used (2 * k + 1) w.gone.y_used)))
    (place_is b (2 * k) (2 * k + 1) l (half_below b s (next b (2 * k)) (s.named.next_used (2 * k) o.x_used)))
