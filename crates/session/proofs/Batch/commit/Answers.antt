use Rattle.std.proofs.Common.{sym, refl, ap, ◌∙◌}
use Rattle.session.specs.Sessions.{answered, faulted, appended}
use Rattle.session.proofs.Batch.commit.Goals as goal
use Rattle.session.proofs.Batch.commit.Goals.{in-Ok-appended, in-Err-appended}

pub returns-in-Err : goal.returns-in-Err
returns-in-Err g c = faulted c.in-Err.fault c.in-Err.is refl refl

pub returns : goal.returns
returns g c =
    let append = c.append-appended in
    elim c.match-appended.branch [
      | in-Ok-appended w ↦
          appended c.in-Ok.extent c.in-Ok.is append.result append.new.disk append.ensures.is (rw (w.next-is, w.in-Ok-appended.is) refl)
          (c.answered.ensures ∙ ap answered (w.appended-is ∙ sym w.in-Ok-appended.is))
      | in-Err-appended w ↦
          appended c.in-Ok.extent c.in-Ok.is append.result append.new.disk append.ensures.is (rw (w.next-is, w.after_refused.ensures, w.in-Err-appended.is) refl)
          (c.answered.ensures ∙ ap answered (w.appended-is ∙ sym w.in-Err-appended.is))
    ]
