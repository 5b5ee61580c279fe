use Rattle.tally.proofs.Follows.{follows, kept}
use Rattle.tally.proofs.Tally.note.Goals as goal

pub returns-in-Commit-Kept-clause-ledger : goal.returns-in-Commit-Kept-clause-ledger
returns-in-Commit-Kept-clause-ledger c = follows c.args.self.now _ c.args.call c.args.reply (kept c.args.self.now c.in-Commit-Kept.is-0 c.in-Commit-Kept.is-1 c.acknowledge.ensures)
