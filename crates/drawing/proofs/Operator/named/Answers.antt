use Rattle.std.proofs.Common.{◌≡◌, codes, refl, arith, rules}
use Rattle.std.proofs.lemmas.Slice.Eq.{text_from_reads}
use Rattle.drawing.proofs.Operator.named.Goals as goal

pub returns-in-kfmrh : goal.returns-in-kfmrh
returns-in-kfmrh c =
    let is : c.args.name.now ≡ codes "kfmrh" = text_from_reads c.args.name.now (codes "kfmrh") (omega arith) (search rules) in
    rw is refl
