use Rattle.std.proofs.Common.{rules, [], map, get_or, sym, ap, ◌∙◌}
use Rattle.std.proofs.lemmas.List.FromFn.{fill_by_all}
use Rattle.records.specs.Blocks.{two}
use Rattle.records.proofs.Bytes.{five_is}
use Rattle.records.proofs.field_bytes.Goals as goal

pub returns : goal.returns
returns c =
    let f = c.args.fields in
    fill_by_all (λ i. two (get_or f i 0)) c.map.result 5 [] c.map.ensures.items.long (λ i lt. let h = c.map.ensures.items.at i 0 [] lt in search rules)
    ∙ sym (ap (map two) (five_is f (search rules)))
