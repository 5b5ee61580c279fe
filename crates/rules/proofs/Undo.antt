-- What makes an edge or a shell is undone by what takes it away, to the same boundary.
use Rattle.std.proofs.Common.{◌≡◌, ℕ, ◌+◌, ◌-◌, ◌*◌, ◌/◌, ◌<◌, ◌≤◌, Bool, true, false, cond, T, eqb, ◌≢◌, ◌⊎◌, List, length, set, is_some, Some, None, Option, unwrap_or, sym, refl, ap, ◌∙◌, subst}
use native.Mathlib.Decide.{ℕ_discrete}
use Rattle.std.specs.Option.{option_map}
use Rattle.std.proofs.lemmas.List.{ext_get_or}
use Rattle.std.proofs.lemmas.Bool.{eq-eqb, ne_eqb, cond-true, cond-false}
use Rattle.boundary.specs.declared.Point.{Point}
use Rattle.boundary.specs.declared.HalfEdge.{HalfEdge}
use Rattle.boundary.specs.declared.Edge.{Edge}
use Rattle.boundary.specs.declared.Boundary.{Boundary}
use Rattle.boundary.specs.Tables.{row, side, half_in, start, next, mate, lone, lone_of, face_of, shell_of, outer_of, in_shell, is_half_place, owner}
use Rattle.boundary.specs.Changes.{clear_shell, clear_face, clear_loop, clear_vertex, clear_edge, emptied, led, led_half, led_edge, led_in}
use Rattle.boundary.specs.Operators.{face_in, kvfs, mvfs, kev, mev, mev_before, mev_lone}
use Rattle.boundary.specs.Refusals.{mvfs_refusal, mev_refusal}
use Rattle.rules.specs.Rules.{Has, Used, Sound}
use Rattle.rules.proofs.Rows.{no_row, row_has, lone_has, row_put_same, row_put_other, row_map, length_put, length_mapped}
use Rattle.rules.proofs.Counts.{part_counted, first_part_in}
use Rattle.rules.proofs.Halves.{half_of_even, half_even, half_odd, mate_of_even, new_even, half_of_odd}
use Rattle.rules.proofs.Mev.{Free, mev_free, mev_at_half, mev_at_lone}
use Rattle.rules.proofs.MevBefore.{before_edges}
use Rattle.rules.proofs.MevLone.{ring_edges, bare_loops}
use Rattle.rules.proofs.Mvfs.{Fresh, fresh}
use Rattle.rules.proofs.Fields.{lone_row, loop_row}
use Rattle.rules.proofs.OneEdgeMore.{next_odd, new_edge_is}

-- a table that differs from t at k alone is t again once its row k is
pub put_back : {X : Type 0} (t z : List (Option X)) (k : ℕ) (r : Option X) → length z ≡ length t → row t k ≡ r → ((i : ℕ) → i ≢ k → row z i ≡ row t i) → set z k r ≡ t
put_back t z k r size here other = ext_get_or None (set z k r) t (length_put z k r ∙ size) (λ i lt. elim (ℕ_discrete i k) [
  | yes e ↦ ap (row (set z k r)) e ∙ row_put_same z k r (subst (λ j. j < length z) e (subst (λ n. i < n) (length_put z k r) lt)) ∙ sym here ∙ ap (row t) (sym e)
  | no ne ↦ row_put_other z k i r ne ∙ other i ne
])

-- a row that was free is put and cleared
pub put_clear : {X : Type 0} (t : List (Option X)) (k : ℕ) (x : X) → (Has t k → ⊥) → set (set t k (Some x)) k None ≡ t
put_clear t k x n = put_back t (set t k (Some x)) k None (length_put t k (Some x)) (no_row t k n) (λ i ne. row_put_other t k i (Some x) ne)

-- a row of edges by its two halves
same_row : (r q : Option Edge) → (T (is_some r) → T (is_some q)) → (T (is_some q) → T (is_some r)) → (T (is_some q) → (c : Bool) → side r c ≡ side q c) → r ≡ q
same_row None None to from same = refl
same_row None (Some e) to from same = absurd (from tt)
same_row (Some e) None to from same = absurd (to tt)
same_row (Some e) (Some d) to from same =
    let p = same tt true in
    let q = same tt false in
    λ i. Some (record { even = p i; odd = q i })

pub row_by_halves : (z t : List (Option Edge)) (i : ℕ) → (Has z i → Has t i) → (Has t i → Has z i) → ((h : ℕ) → h / 2 ≡ i → Has t (h / 2) → half_in z h ≡ half_in t h) → row z i ≡ row t i
row_by_halves z t i to from same = same_row (row z i) (row t i) to from sides
  where
    sides : T (is_some (row t i)) → (c : Bool) → side (row z i) c ≡ side (row t i) c
    sides u true = sym (half_even z i) ∙ same (2 * i) (half_of_even i) (subst (Has t) (sym (half_of_even i)) u) ∙ half_even t i
    sides u false = sym (half_odd z i) ∙ same (2 * i + 1) (half_of_odd i) (subst (Has t) (sym (half_of_odd i)) u) ∙ half_odd t i

-- a half-edge by its fields
pub same_half : (x y : HalfEdge) → x.start ≡ y.start → x.next ≡ y.next → x.owner ≡ y.owner → x ≡ y
same_half x y p q r = λ i. record { start = p i; next = q i; owner = r i }

-- a half-edge with another after it
abbrev with_next : HalfEdge → ℕ → HalfEdge
with_next e n = record { start = e.start; next = n; owner = e.owner }

-- what leads elsewhere is not led
led_not : (a x : ℕ) (e : HalfEdge) → e.next ≢ a → led_half a x e ≡ e
led_not a x e ne = ap (with_next e) (cond-false (eqb e.next a) x e.next (ne_eqb e.next a ne))

-- what did not lead to x, and is led from a to x and back, leads where it led
led_to_and_back : (a x n : ℕ) → n ≢ x → cond (eqb (cond (eqb n a) x n) x) a (cond (eqb n a) x n) ≡ n
led_to_and_back a x n ne = elim (ℕ_discrete n a) [
  | yes e ↦
      let to : cond (eqb n a) x n ≡ x = cond-true (eqb n a) x n (eq-eqb n a e) in
      cond-true (eqb (cond (eqb n a) x n) x) a (cond (eqb n a) x n) (eq-eqb (cond (eqb n a) x n) x to) ∙ sym e
  | no na ↦
      let to : cond (eqb n a) x n ≡ n = cond-false (eqb n a) x n (ne_eqb n a na) in
      cond-false (eqb (cond (eqb n a) x n) x) a (cond (eqb n a) x n) (ne_eqb (cond (eqb n a) x n) x (λ q. ne (sym to ∙ q))) ∙ to
]

led_back : (a x : ℕ) (e : HalfEdge) → e.next ≢ x → led_half x a (led_half a x e) ≡ e
led_back a x e ne = ap (with_next e) (led_to_and_back a x e.next ne)

-- neither half of the edge leads to x
pub record Off (x : ℕ) (e : Edge) : Type 0 where
  pub even : e.even.next ≢ x
  pub odd : e.odd.next ≢ x

led_row_not : (a x : ℕ) (r : Option Edge) → ((e : Edge) → r ≡ Some e → Off a e) → option_map (led_edge a x) r ≡ r
led_row_not a x None off = refl
led_row_not a x (Some e) off =
    let p = led_not a x e.even (off e refl).even in
    let q = led_not a x e.odd (off e refl).odd in
    λ i. Some (record { even = p i; odd = q i })

led_row_back : (a x : ℕ) (r : Option Edge) → ((e : Edge) → r ≡ Some e → Off x e) → option_map (led_edge x a) (option_map (led_edge a x) r) ≡ r
led_row_back a x None off = refl
led_row_back a x (Some e) off =
    let p = led_back a x e.even (off e refl).even in
    let q = led_back a x e.odd (off e refl).odd in
    λ i. Some (record { even = p i; odd = q i })

-- no half-edge leads to one that is not used
nothing_leads : (b : Boundary) → Sound b → (k i : ℕ) → (Has b.edges k → ⊥) → (e : Edge) → row b.edges i ≡ Some e → Off (2 * k) e
nothing_leads b s k i k-free e q = record {
  even = λ n. new_even b.edges k (next b (2 * i)) k-free (s.named.next_used (2 * i) (at (half_of_even i))) (ap (λ x. x.next) (half_even b.edges i ∙ ap (λ r. side r true) q) ∙ n);
  odd = λ n. new_even b.edges k (next b (2 * i + 1)) k-free (s.named.next_used (2 * i + 1) (at (half_of_odd i))) (ap (λ x. x.next) (half_odd b.edges i ∙ ap (λ r. side r false) q) ∙ n);
}
  where
    at : {m : ℕ} → m ≡ i → Has b.edges m
    at z = subst (Has b.edges) (sym z) (row_has b.edges i e q)

-- the operator with what it reads of the boundary handed to it
abbrev kev_parts : Bool → Boundary → ℕ → ℕ → ℕ → ℕ → ℕ → ℕ → Boundary
kev_parts x c h n l w k v = clear_vertex (clear_edge (emptied x (led c h n) l w) k) v

kev_parts_same : (c : Boundary) (h : ℕ) {x x' : Bool} {n n' l l' w w' k k' v v' : ℕ} → x ≡ x' → n ≡ n' → l ≡ l' → w ≡ w' → k ≡ k' → v ≡ v' → kev_parts x c h n l w k v ≡ kev_parts x' c h n' l' w' k' v'
kev_parts_same c h p q r t y z = λ i. kev_parts (p i) c h (q i) (r i) (t i) (y i) (z i)

-- at a half-edge
module _ (b : Boundary) (h k v : ℕ) (p : Point) (s : Sound b) (h_used : Used b h) (k-small : k < 192) (rows : Free b k v) where
  abbrev c : Boundary
  c = mev_before b h k v p

  after_odd : next c (mate (2 * k)) ≡ h
  after_odd = ap (next c) (mate_of_even k) ∙ next_odd b k (start b h) v (owner b h) (Some h) s k-small rows.edge

  start_odd : start c (mate (2 * k)) ≡ v
  start_odd = ap (start c) (mate_of_even k) ∙ (new_edge_is b k (start b h) v (owner b h) (Some h) s k-small rows.edge).start_odd

  not_emptied : eqb (next c (mate (2 * k))) (2 * k) ≡ false
  not_emptied = ne_eqb (next c (mate (2 * k))) (2 * k) (λ e. new_even b.edges k h rows.edge h_used (sym after_odd ∙ e))

  edges_back : set (led_in (before_edges b h k v) (2 * k) h) k None ≡ b.edges
  edges_back = put_back b.edges (led_in (before_edges b h k v) (2 * k) h) k None (length_mapped (led_edge (2 * k) h) (before_edges b h k v) ∙ length_put led_es k _ ∙ length_mapped (led_edge h (2 * k)) b.edges) (no_row b.edges k rows.edge) (λ i ne.
      row_map (led_edge (2 * k) h) (before_edges b h k v) i ∙ ap (option_map (led_edge (2 * k) h)) (row_put_other led_es k i _ ne ∙ row_map (led_edge h (2 * k)) b.edges i) ∙ led_row_back h (2 * k) (row b.edges i) (nothing_leads b s k i rows.edge))
    where
      led_es : List (Option Edge)
      led_es = led_in b.edges h (2 * k)

  before_undone : kev (mev_before b h k v p) (2 * k) ≡ b
  before_undone =
      let es = edges_back in
      let vs = put_clear b.vertices v p rows.vertex in
      kev_parts_same c (2 * k) not_emptied after_odd refl refl (half_of_even k) start_odd
      ∙ (λ i. record { shells = b.shells; faces = b.faces; loops = b.loops; edges = es i; vertices = vs i; handles = b.handles })

-- at a lone vertex
module _ (b : Boundary) (l k v w : ℕ) (p : Point) (s : Sound b) (w-lone : lone b l ≡ Some w) (k-small : k < 192) (rows : Free b k v) where
  abbrev d : Boundary
  d = record { shells = b.shells; faces = b.faces; loops = bare_loops b l; edges = ring_edges b l k w v; vertices = set b.vertices v (Some p); handles = b.handles }

  after_odd_lone : next d (mate (2 * k)) ≡ 2 * k
  after_odd_lone = ap (next d) (mate_of_even k) ∙ next_odd b k w v l None s k-small rows.edge

  start_odd_lone : start d (mate (2 * k)) ≡ v
  start_odd_lone = ap (start d) (mate_of_even k) ∙ (new_edge_is b k w v l None s k-small rows.edge).start_odd

  ring_back : set (led_in (ring_edges b l k w v) (2 * k) (2 * k)) k None ≡ b.edges
  ring_back = put_back b.edges (led_in (ring_edges b l k w v) (2 * k) (2 * k)) k None (length_mapped (led_edge (2 * k) (2 * k)) (ring_edges b l k w v) ∙ length_put b.edges k _) (no_row b.edges k rows.edge) (λ i ne.
      row_map (led_edge (2 * k) (2 * k)) (ring_edges b l k w v) i ∙ ap (option_map (led_edge (2 * k) (2 * k))) (row_put_other b.edges k i _ ne) ∙ led_row_not (2 * k) (2 * k) (row b.edges i) (nothing_leads b s k i rows.edge))

  loops_back : set (bare_loops b l) l (Some (record { face = face_of (row (bare_loops b l) l); lone = Some w })) ≡ b.loops
  loops_back =
      put_back b.loops (bare_loops b l) l _ (length_put b.loops l _) (loop_row (row b.loops l) (Some w) (lone_has b l w w-lone) w-lone ∙ ap (λ f. Some (record { face = f; lone = Some w })) (sym (ap face_of (lone_row b.loops l None (lone_has b l w w-lone))))) (λ i ne. row_put_other b.loops l i _ ne)

  lone_undone : kev d (2 * k) ≡ b
  lone_undone =
      let ls = loops_back in
      let es = ring_back in
      let vs = put_clear b.vertices v p rows.vertex in
      let new = new_edge_is b k w v l None s k-small rows.edge in
      kev_parts_same d (2 * k) (eq-eqb (next d (mate (2 * k))) (2 * k) after_odd_lone) after_odd_lone new.owner_even new.start_even (half_of_even k) start_odd_lone
      ∙ (λ i. record { shells = b.shells; faces = b.faces; loops = ls i; edges = es i; vertices = vs i; handles = b.handles })

pub kev_undoes_mev : (b : Boundary) (a k v : ℕ) (p : Point) → Sound b → ((a < 384) ⊎ ((512 ≤ a) × (a < 608))) → k < 192 → v < 128 → mev_refusal b a k v ≡ None → kev (mev b a k v p) (2 * k) ≡ b
kev_undoes_mev b a k v p s at k-small v-small q = go (is_half_place a) refl
  where
    go : (x : Bool) → is_half_place a ≡ x → kev (mev b a k v p) (2 * k) ≡ b
    go true e = ap (λ x. kev (cond x (mev_before b a k v p) (mev_lone b (a - 512) k v p)) (2 * k)) e ∙ before_undone b a k v p s (mev_at_half b a k v q e) k-small (mev_free b a k v q)
    go false e = ap (λ x. kev (cond x (mev_before b a k v p) (mev_lone b (a - 512) k v p)) (2 * k)) e ∙ lone_undone b (a - 512) k v (unwrap_or (lone b (a - 512)) 0) p s (mev_at_lone b a k v q e) k-small (mev_free b a k v q)

-- a shell with its face, loop and vertex: the operator with what it reads handed to it
abbrev kvfs_parts : Boundary → ℕ → ℕ → ℕ → ℕ → Boundary
kvfs_parts c a f l v = clear_vertex (clear_loop (clear_face (clear_shell c a) f) l) v

module _ (b : Boundary) (a f l v : ℕ) (p : Point) (s : Sound b) (open_rows : Fresh b a f l v) where
  abbrev made : Boundary
  made = mvfs b a f l v p

  face_row : row made.faces f ≡ Some (record { shell = a; outer = l })
  face_row = row_put_same b.faces f _ open_rows.face_below

  made_loop : row made.loops l ≡ Some (record { face = f; lone = Some v })
  made_loop = row_put_same b.loops l _ open_rows.loop_below

  -- no other face lies in the new shell
  face_is : face_in made a ≡ f
  face_is =
      let x = first_part_in in_shell made.faces a (part_counted in_shell made.faces a f (record { shell = a; outer = l }) face_row refl) in
      elim (ℕ_discrete (face_in made a) f) [
        | yes e ↦ e
        | no ne ↦
            let old : row b.faces (face_in made a) ≡ Some x.0 = sym (row_put_other b.faces f (face_in made a) _ ne) ∙ x.1 in
            let used_shell = s.named.shell_used (face_in made a) (row_has b.faces (face_in made a) x.0 old) in
            absurd (open_rows.shell_free (subst (Has b.shells) (ap shell_of old ∙ x.2) used_shell))
      ]

  outer_is : outer_of (row made.faces (face_in made a)) ≡ l
  outer_is = ap (λ i. outer_of (row made.faces i)) face_is ∙ ap outer_of face_row

  vertex_is : unwrap_or (lone made (outer_of (row made.faces (face_in made a)))) 0 ≡ v
  vertex_is = ap (λ i. unwrap_or (lone made i) 0) outer_is ∙ ap (λ r. unwrap_or (lone_of r) 0) made_loop

  shell_undone : kvfs (mvfs b a f l v p) a ≡ b
  shell_undone =
      let ss = put_clear b.shells a (record {}) open_rows.shell_free in
      let fs = put_clear b.faces f (record { shell = a; outer = l }) open_rows.face_free in
      let ls = put_clear b.loops l (record { face = f; lone = Some v }) open_rows.loop_free in
      let vs = put_clear b.vertices v p open_rows.vertex_free in
      let x = face_is in
      let y = outer_is in
      let z = vertex_is in
      (λ i. kvfs_parts made a (x i) (y i) (z i))
      ∙ (λ i. record { shells = ss i; faces = fs i; loops = ls i; edges = b.edges; vertices = vs i; handles = b.handles })

pub kvfs_undoes_mvfs : (b : Boundary) (a f l v : ℕ) (p : Point) → Sound b → a < 8 → f < 96 → l < 96 → v < 128 → mvfs_refusal b a f l v ≡ None → kvfs (mvfs b a f l v p) a ≡ b
kvfs_undoes_mvfs b a f l v p s a_small f-small l-small v-small q = shell_undone b a f l v p s (fresh b a f l v s.sizes a_small f-small l-small v-small q)
