use Rattle.std.proofs.Common.{◌≡◌, ◌∙◌}
use Rattle.tally.specs.Tallies.{at_rest, lost}
use Rattle.tally.proofs.Follows.{lost_follows, found_whole, found_none, no_doubt}
use Rattle.tally.proofs.Tally.note_loss.Goals as goal
use Rattle.tally.proofs.Tally.note_loss.Goals.{in-Some+then-is_closing, in-Some+else-is_closing, in_default}

pub returns : goal.returns
returns c =
    let is : at_rest c.match-self.self ≡ lost c.args.self.now c.args.last = elim c.match-self.branch [
      | in-Some+then-is_closing w ↦ found_whole c.args.self.now c.match-self.self c.args.last w.in-Some.is w.saturating_add-number.ensures w.is_closing.ensures w.if-is_closing.true (w.self-is ∙ w.acknowledge.ensures)
      | in-Some+else-is_closing w ↦ found_none c.args.self.now c.match-self.self c.args.last w.in-Some.is w.saturating_add-number.ensures w.is_closing.ensures w.if-is_closing.false w.self-is
      | in_default w ↦ no_doubt c.args.self.now c.match-self.self c.args.last w.in_default.is w.self-is
    ] in
    record { is = is; ledger = lost_follows c.args.self.now _ c.args.last is }
