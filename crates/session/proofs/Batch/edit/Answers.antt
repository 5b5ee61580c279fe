use Rattle.std.proofs.Common.{◌≡◌, Err, sym, refl, ap, ◌∙◌, rules}
use Rattle.std.proofs.lemmas.Result.{err_from_is_err_and}
use Rattle.boundary.specs.declared.Refusal.{Refusal}
use Rattle.boundary.specs.Refusals.{refusal}
use Rattle.faults.specs.declared.SolidFault.TheVariants.{Refused}
use Rattle.faults.specs.declared.SessionFault.TheVariants.{FromSolid}
use Rattle.journal.specs.Drafts.{drafted}
use Rattle.journal.proofs.Applying.{answered_some}
use Rattle.session.specs.Sessions.{fault_first, refused}
use Rattle.session.proofs.Drafts.{has_room, refused_same}
use Rattle.session.proofs.Batch.edit.Goals as goal

pub returns-in_err-self : goal.returns-in_err-self
returns-in_err-self g c =
    let p = err_from_is_err_and c.from_residual.result c.from_residual.ensures.1 in
    fault_first c.in_err-self.field-0.0 c.in_err-self.was refl (p.1 ∙ ap Err p.2)

pub returns-in_err-map_err : goal.returns-in_err-map_err
returns-in_err-map_err g c =
    let p = err_from_is_err_and c.from_residual-in_err-map_err.result c.from_residual-in_err-map_err.ensures.1 in
    let w : (w : Refusal) × (c.apply.result ≡ Err w) × (c.in_err-map_err.field-0.0 ≡ Refused w c.in_ok-position.position) = search rules in
    let room = has_room (drafted c.args.self.now.edits) c.in_ok-position.position c.in_ok-position.ensures in
    let why = answered_some (refusal c.args.self.now.draft.boundary c.args.edit) (sym w.1 ∙ c.apply.ensures.reply) in
    refused w.0 (search rules) room.0 why
    (ap (λ b. record { session = c.args.self.now.session; draft = record { boundary = b }; edits = c.args.self.now.edits }) (c.apply.ensures.left ∙ refused_same c.args.self.now.draft.boundary c.args.edit w.0 why))
    (p.1 ∙ ap Err (p.2 ∙ ap FromSolid (w.2 ∙ ap (Refused w.0) room.1)))
