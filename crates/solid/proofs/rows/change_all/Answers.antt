use Rattle.std.proofs.Common.{rules, Some, ap, sym, ◌∙◌, take_all}
use Rattle.std.proofs.lemmas.List.{drop_all}
use Rattle.std.specs.Option.{option_map}
use Rattle.solid.proofs.Changes.{change_more}
use Rattle.solid.proofs.rows.change_all.Goals as goal
use Rattle.solid.proofs.rows.change_all.Goals.{in-Some, in_default}

pub loop-row-preserved : goal.loop-row-preserved
loop-row-preserved g c = λ f gives.
    let more = change_more f c.args.rows.now c.loop-row.rows c.match-row.rows c.loop-row.row-index c.row-item.result c.loop-row-test.true (c.loop-row.invariant f gives) c.row-item.is in
    elim c.match-row.branch [
      | in-Some w ↦ more _ (ap Some (gives _ _ w.change.ensures) ∙ sym (ap (option_map f) (c.row-item.is ∙ w.in-Some.is))) w.rows-is
      | in_default w ↦ more _ (w.in_default.is ∙ sym (ap (option_map f) (c.row-item.is ∙ w.in_default.is))) w.rows-is
    ]

pub returns : goal.returns
returns g c = λ f gives. let i = c.loop-row.invariant f gives in search (rules, take_all, drop_all)
