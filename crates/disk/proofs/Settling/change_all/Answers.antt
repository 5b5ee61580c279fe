use Rattle.std.proofs.Common.{length, sym, ap, ◌∙◌, arith, length-set}
use Rattle.disk.specs.Settlings.{no_cell}
use Rattle.disk.specs.SettlingsLemmas.{changed_more, changed_end, nth_is, nth_none}
use Rattle.disk.proofs.Settling.change_all.Goals as goal
use Rattle.disk.proofs.Settling.change_all.Goals.{in-Some, in_default}

pub loop-k-preserved : goal.loop-k-preserved
loop-k-preserved g c =
    let cells = g.C.Cells.held c.loop-k.self.cells in
    elim c.match-at.branch [
      | in-Some w ↦
          let now_is = ap (λ s. g.C.Cells.held s.cells) w.self-is ∙ w.put.ensures in (
            λ f h. changed_more f (g.C.Cells.held c.args.self.now.cells) cells _ c.loop-k.k no_cell w.by.result (omega (arith, c.loop-k-test.true, c.len-k-end.ensures)) (c.loop-k.invariant.0 f h) (h _ _ _ w.by.ensures ∙ ap (f c.loop-k.k) (nth_is cells c.loop-k.k w.in-Some.cell (sym w.in-Some.ensures))) now_is,
            ap length now_is ∙ length-set cells c.loop-k.k w.by.result ∙ c.loop-k.invariant.1,
          )
      | in_default w ↦ absurd (omega (arith, c.loop-k-test.true, c.len-k-end.ensures, c.loop-k.invariant.1, nth_none cells c.loop-k.k (sym w.in_default.ensures)))
    ]

pub returns : goal.returns
returns g c = λ f h. changed_end f (g.C.Cells.held c.args.self.now.cells) (g.C.Cells.held c.loop-k.self.cells) c.loop-k.k (omega (arith, c.loop-k-test.false, c.len-k-end.ensures)) (c.loop-k.invariant.0 f h)
