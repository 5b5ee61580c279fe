use Rattle.std.proofs.Common.{ap, ◌∙◌, arith, w32, SFits, rules}
use Rattle.std.proofs.lemmas.List.{length-set}
use Rattle.std.proofs.lemmas.Int.{to_z-of_z}
use Rattle.words.specs.Left.{part, tokens_left}
use Rattle.drawing.proofs.Arguments.{number_taken, taken}
use Rattle.drawing.proofs.numbers.Goals as goal

pub loop-number-preserved : goal.loop-number-preserved
loop-number-preserved g c =
    let fits : SFits w32 c.in-Number.value = search rules in
    let same = to_z-of_z w32 c.in-Number.value fits in
    let sofar = c.loop-number.invariant in (
      length-set c.loop-number.number-items _ _ ∙ sofar.0,
      rw same (number_taken g.row.N c.loop-number.number-index c.loop-number.number-items (tokens_left c.loop-number.rest) _ sofar.1 (part c.in_ok-value.field-0) (tokens_left c.next.new.self) c.in_ok-value.ensures.steps.tokens c.in-Number.value (omega arith) sofar.0 (ap (λ t. (part t).value) c.in-Number.is)),
    )

pub returns : goal.returns
returns g c = c.then_some.ensures ∙ taken g.row.N c.loop-number.number-index c.loop-number.number-items (tokens_left c.loop-number.rest) _ c.loop-number.invariant.1 (omega arith) c.loop-number.invariant.0 part c.next-2.result (tokens_left c.next-2.new.self) c.is_none.result c.next-2.ensures.steps.tokens c.is_none.ensures
