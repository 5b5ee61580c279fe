-- The edge of h goes, whose mate follows h: the half-edges that are left, and their rings.
use Rattle.std.proofs.Common.{◌≡◌, ℕ, ◌+◌, ◌/◌, ◌≢◌, List, length, set, None, Option, sym, refl, ap, ◌∙◌}
use Rattle.boundary.specs.declared.Edge.{Edge}
use Rattle.boundary.specs.declared.Boundary.{Boundary}
use Rattle.boundary.specs.Tables.{count, half_in, start, next, owner, mate}
use Rattle.boundary.specs.Changes.{led_edge, led_in}
use Rattle.rings.specs.Rings.{Rings}
use Rattle.rings.specs.Euler.{put}
use Rattle.rings.proofs.Put.{put_same, put_other}
use Rattle.rings.proofs.Single.{drop_keeps, remove_keeps}
use Rattle.rules.specs.Rules.{Has, Used, turn, Sound}
use Rattle.rules.proofs.Rows.{has_map_in, has_map_out, length_put, length_mapped}
use Rattle.rules.proofs.Counts.{count_clear, count_map}
use Rattle.rules.proofs.Halves.{mate_mate, mate_apart, used_mate, other_edge, half_put_other, clear_mates_in, clear_mates_out, led_start, led_owner, led_hit, led_miss}
use Rattle.rules.proofs.RulesAsRings.{loop_rings, vertex_rings}
use Rattle.rings.proofs.Facts.{alone_in}

-- the edges that are left
abbrev pub kev_edges : Boundary → ℕ → List (Option Edge)
kev_edges b h = set (led_in b.edges h (next b (mate h))) (h / 2) None

module _ (b : Boundary) (h : ℕ) (s : Sound b) (h_used : Used b h) (to-mate : next b h ≡ mate h) where
  abbrev led_es : List (Option Edge)
  led_es = led_in b.edges h (next b (mate h))

  abbrev es : List (Option Edge)
  es = kev_edges b h

  abbrev Now : ℕ → Type 0
  Now j = Has es (j / 2)

  pub mate_used_too : Used b (mate h)
  mate_used_too = used_mate b h h_used

  pub left_in : (j : ℕ) → Used b j → j ≢ h → j ≢ mate h → Now j
  left_in j u n m = clear_mates_in led_es h j n m (has_map_in (led_edge h (next b (mate h))) b.edges (j / 2) u)

  pub left_out : (j : ℕ) → Now j → Used b j × (j ≢ h) × (j ≢ mate h)
  left_out j u =
      let o = clear_mates_out led_es h j u in
      (has_map_out (led_edge h (next b (mate h))) b.edges (j / 2) o.0, o.1, o.2)

  left_half : (j : ℕ) → j ≢ h → j ≢ mate h → half_in es j ≡ half_in led_es j
  left_half j n m = half_put_other led_es (h / 2) j None (other_edge j h n m)

  pub left_start : (j : ℕ) → j ≢ h → j ≢ mate h → (half_in es j).start ≡ start b j
  left_start j n m = ap (λ x. x.start) (left_half j n m) ∙ led_start b.edges h (next b (mate h)) j

  pub left_owner : (j : ℕ) → j ≢ h → j ≢ mate h → (half_in es j).owner ≡ owner b j
  left_owner j n m = ap (λ x. x.owner) (left_half j n m) ∙ led_owner b.edges h (next b (mate h)) j

  pub left_hit : (j : ℕ) → Used b j → j ≢ h → j ≢ mate h → next b j ≡ h → (half_in es j).next ≡ next b (mate h)
  left_hit j u n m e = ap (λ x. x.next) (left_half j n m) ∙ led_hit b.edges h (next b (mate h)) j u e

  pub left_miss : (j : ℕ) → Used b j → j ≢ h → j ≢ mate h → next b j ≢ h → (half_in es j).next ≡ next b j
  left_miss j u n m ne = ap (λ x. x.next) (left_half j n m) ∙ led_miss b.edges h (next b (mate h)) j u ne

  pub left_size : length es ≡ length b.edges
  left_size = length_put led_es (h / 2) None ∙ length_mapped (led_edge h (next b (mate h))) b.edges

  pub left_count : count es + 1 ≡ count b.edges
  left_count = count_clear led_es (h / 2) (has_map_in (led_edge h (next b (mate h))) b.edges (h / 2) h_used) ∙ count_map (led_edge h (next b (mate h))) b.edges

  -- the loops: first the mate goes, then h
  past_mate : Rings (put (next b) h (next b (mate h))) (λ j. Used b j × (j ≢ mate h)) (owner b)
  past_mate = remove_keeps (loop_rings b s) (record {
    p_used = h_used;
    before = to-mate;
    p_step = put_same (next b) h (next b (mate h));
    other_step = λ j u np nx. put_other (next b) h (next b (mate h)) j np;
    in_use = λ j u. u;
    still_in_use = λ j u nx. (u, nx);
    other_label = λ j u nx. refl;
  })

  h_not_mate : h ≢ mate h
  h_not_mate e = mate_apart h (sym e)

  pub left_loops : Rings (λ j. (half_in es j).next) Now (λ j. (half_in es j).owner)
  left_loops = drop_keeps past_mate (record {
    x_used = (h_used, h_not_mate);
    past = λ j u n e. left_hit j u.0 n u.1 (sym (put_other (next b) h (next b (mate h)) j n) ∙ e) ∙ sym (put_same (next b) h (next b (mate h)));
    other_step = λ j u n ne. left_miss j u.0 n u.1 (λ e. ne (put_other (next b) h (next b (mate h)) j n ∙ e)) ∙ sym (put_other (next b) h (next b (mate h)) j n);
    in_use = λ j u. let m = left_out j u in ((m.0, m.2), m.1);
    still_in_use = λ j u n. left_in j u.0 n u.1;
    other_label = λ j u n. left_owner j n u.1;
  })

  -- the vertices: the mate is alone at its start
  turn_mate : turn b (mate h) ≡ mate h
  turn_mate = ap (next b) (mate_mate h) ∙ to-mate

  -- no other half-edge starts where the mate does
  pub only_mate : (j : ℕ) → Used b j → start b j ≡ start b (mate h) → j ≡ mate h
  only_mate j u e = alone_in (vertex_rings b s) (mate h) j mate_used_too u turn_mate e

  -- the loop of h and its mate is one
  pub same_loop : owner b (mate h) ≡ owner b h
  same_loop = ap (owner b) (sym to-mate) ∙ s.loops.stays h h_used

  -- where the ring is emptied, no other half-edge lies on the loop, and none starts where h does
  pub none_on_loop : next b (mate h) ≡ h → (j : ℕ) → Now j → (half_in es j).owner ≢ owner b h
  none_on_loop e j u q =
      let m = left_out j u in
      m.1 (alone_in past_mate h j (h_used, h_not_mate) (m.0, m.2) (put_same (next b) h (next b (mate h)) ∙ e) (sym (left_owner j m.1 m.2) ∙ q))

  pub none_at_start : next b (mate h) ≡ h → (j : ℕ) → Now j → (half_in es j).start ≢ start b h
  none_at_start e j u q =
      let m = left_out j u in
      m.1 (alone_in (vertex_rings b s) h j h_used m.0 e (sym (left_start j m.1 m.2) ∙ q))

  -- where it is not, the half-edge after the mate is left, on the loop and at the start of h
  pub after_not_mate : next b (mate h) ≢ mate h
  after_not_mate e = mate_apart h (s.continues.apart (mate h) h mate_used_too h_used (e ∙ sym to-mate))

  module _ (ne : next b (mate h) ≢ h) where
    pub after_left : Now (next b (mate h))
    after_left = left_in (next b (mate h)) (s.named.next_used (mate h) mate_used_too) ne after_not_mate

    pub after_owner : (half_in es (next b (mate h))).owner ≡ owner b h
    after_owner = left_owner (next b (mate h)) ne after_not_mate ∙ s.loops.stays (mate h) mate_used_too ∙ same_loop

    pub after_start : (half_in es (next b (mate h))).start ≡ start b h
    after_start = left_start (next b (mate h)) ne after_not_mate ∙ s.continues.goes_on (mate h) mate_used_too ∙ ap (start b) (mate_mate h)
