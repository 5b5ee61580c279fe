use Rattle.std.proofs.Common.{◌≡◌, ℕ, List, ap, ◌∙◌}
use Rattle.records.specs.declared.Record.{Record}
use Rattle.records.specs.Blocks.{laid}
use Rattle.records.specs.Records.{block_of, bytes_of, record_of}
use Rattle.records.proofs.Laws.{round}
use Rattle.records.proofs.encode.Goals as goal

encoded : (r : Record) (bs : List ℕ) → bs ≡ laid (block_of r) → bs ≡ bytes_of r
unfolding bytes_of
encoded r bs e = e

pub returns : goal.returns
returns c =
    let e : c.bytes.result ≡ bytes_of c.args.record = encoded _ _ (c.bytes.ensures ∙ ap laid c.of.ensures) in
    record { is = e; back = λ f. ap record_of e ∙ round c.args.record f }
