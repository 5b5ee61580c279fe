use Rattle.std.proofs.Common.{◌≡◌, not, eqb, sym, refl, ap, ◌∙◌, w32, SFits, rules}
use Rattle.std.proofs.lemmas.Int.{to_z-of_z}
use Rattle.std.proofs.lemmas.Iterator.{YieldsList-from_slice}
use Rattle.std.proofs.lemmas.Iterator.Search.{position_from_yields_List}
use borrow.Author.Tests.{tests}
use Rattle.words.specs.Left.{part}
use Rattle.words.proofs.Cuts.{found_or, none_left, taken}
use Rattle.words.proofs.Line.first.Goals as goal
use Rattle.words.proofs.Line.first.Goals.{in-Some, in-None}

pub returns-in_err-at : goal.returns-in_err-at
returns-in_err-at c =
    let gap = position_from_yields_List (λ b. not (eqb b 32)) _ _ c.position.result c.position.ensures.ran (YieldsList-from_slice _ c.iter.ensures.rest) (λ x b q k. search (rules, tests)) in
    rw c.from_residual.ensures (none_left c.args.self.now.bytes.now c.args.self.now.at (sym c.in_err-at.was ∙ gap))

pub returns : goal.returns
returns c =
    let gap = position_from_yields_List (λ b. not (eqb b 32)) _ _ c.position.result c.position.ensures.ran (YieldsList-from_slice _ c.iter.ensures.rest) (λ x b q k. search (rules, tests)) in
    let size = position_from_yields_List (λ b. eqb b 32) _ _ c.position-2.result c.position-2.ensures.ran (YieldsList-from_slice _ c.iter-2.ensures.rest) (λ x b q k. search (rules, tests)) in
    let is : part c.match-number.token ≡ record { place = _; text = _; value = c.number.result } =
    elim c.match-number.branch [
      | in-Some w ↦ let fits : SFits w32 w.in-Some.value = search rules in ap part w.token-is ∙ rw (w.in-Some.is, to_z-of_z w32 w.in-Some.value fits) refl
      | in-None w ↦ ap part w.token-is ∙ rw w.in-None.is refl
    ] in
    rw is (taken c.args.self.now.bytes.now c.args.self.now.at c.in_ok-at.field-0 _ _ (sym c.in_ok-at.was ∙ gap) (c.unwrap_or-size.ensures ∙ found_or _ _ _ size) c.number.ensures)
