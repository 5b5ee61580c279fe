use Rattle.std.proofs.Common.{drop}
use Rattle.std.specs.Fmt.{IsPlainFormatter}
use Rattle.listing.specs.Listing.{lines, lines_from}
use Rattle.listing.proofs.Steps.{Begun}
use Rattle.listing.proofs.LinesDisplay.fmt.Given as goal

abbrev pub invariant-loop-k : goal.invariant-loop-k
invariant-loop-k g l =
    let text = g.R.Row.text l.self.boundary.now in
    IsPlainFormatter l.initial.f →
    Begun g.W.Write.write_str_gives l.initial.f l.f (lines_from text l.k (drop l.k l.row-items)) (lines text l.row-items)
