use Rattle.std.proofs.Common.{sym, arith}
use Rattle.std.proofs.lemmas.List.{set_past}
use Rattle.solid.proofs.rows.set.Goals as goal

pub returns-else-k-rows : goal.returns-else-k-rows
returns-else-k-rows g c = sym (set_past c.args.rows.now c.args.k _ (omega arith))
