use Rattle.std.proofs.Common.{eqb, rules}
use borrow.Author.Tests.{tests}
use Rattle.std.proofs.lemmas.Iterator.{YieldsList-from_slice}
use Rattle.std.proofs.lemmas.Iterator.Search.{position_from_yields_List}
use Rattle.words.proofs.Cuts.{line_then, line_else}
use Rattle.words.proofs.Lines.first.Goals as goal

pub returns-in-Some : goal.returns-in-Some
returns-in-Some c =
    line_then c.args.input.now c.in-Some.end
    (position_from_yields_List (λ b. eqb b 10) _ _ _ c.in-Some.ensures.ran (YieldsList-from_slice c.args.input.now c.iter.ensures.rest) (λ x b q k. search (rules, tests)))

pub returns-in-None : goal.returns-in-None
returns-in-None c =
    line_else c.args.input.now
    (position_from_yields_List (λ b. eqb b 10) _ _ _ c.in-None.ensures.ran (YieldsList-from_slice c.args.input.now c.iter.ensures.rest) (λ x b q k. search (rules, tests)))
