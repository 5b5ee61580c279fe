use Rattle.std.proofs.Common.{◌+◌, drop, refl, true}
use Rattle.listing.specs.Listing.{row_line, lines_from}
use Rattle.listing.proofs.Steps.{written, finished, lines_more, lines_past}
use Rattle.listing.proofs.LinesDisplay.fmt.Goals as goal

pub loop-k-preserved : goal.loop-k-preserved
loop-k-preserved g c p =
    let text = g.R.Row.text c.args.self.now.boundary.now in
    let rows = c.args.self.now.rows.now in
    let k = c.loop-k.k in
    let i = c.loop-k.invariant p in
    written _ _ _ _ _ i c.write.new.f (row_line text k c.row-item.result) (lines_from text (k + 1) (drop (k + 1) rows))
    (lines_more text rows k c.row-item.result c.loop-k-test.true c.row-item.is)
    (c.in_ok-write.ensures i.wrote.plain (refl {a = true}))

pub returns-clause-writes : goal.returns-clause-writes
returns-clause-writes g c p t =
    finished _ _ _ _ _ (c.loop-k.invariant p) (lines_past (g.R.Row.text c.args.self.now.boundary.now) c.args.self.now.rows.now c.loop-k.k c.loop-k-test.false)
