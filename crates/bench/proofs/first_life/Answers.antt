use Rattle.std.proofs.Common.{◌≡◌, ap, ◌∙◌, subst}
use Rattle.disk.specs.Chains.{Chain}
use Rattle.bench.specs.Lives.{BehindTwo}
use Rattle.bench.specs.Steps.{calls_of}
use Rattle.bench.proofs.Views.{lent_cells, stopped_once, stopped_twice, lived_twice}
use Rattle.bench.proofs.first_life.Goals as goal

pub returns : goal.returns
returns g c =
    let start : stopped_twice c.new-disk.result ≡ ((c.args.cells.now, c.args.stops.0), c.args.stops.1) =
    ap stopped_twice c.new-disk.ensures ∙ ap (λ u. (stopped_once u, c.args.stops.1)) c.new-3.ensures
    ∙ ap (λ w. ((lent_cells w, c.args.stops.0), c.args.stops.1)) c.new-2.ensures.is ∙ ap (λ l. ((l, c.args.stops.0), c.args.stops.1)) c.new.ensures.held in
    let calls = calls_of c.args.acts.now c.perform_all-answers.result in (
      stopped_twice c.perform_all-answers.new.disk,
      subst (λ v. Chain BehindTwo v calls (stopped_twice c.perform_all-answers.new.disk)) start (lived_twice c.new-disk.result c.perform_all-answers.new.disk calls c.perform_all-answers.ensures),
    )
