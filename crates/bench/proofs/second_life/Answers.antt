use Rattle.std.proofs.Common.{◌≡◌, sym, ap, ◌∙◌, subst}
use Rattle.disk.specs.Chains.{Chain}
use Rattle.disk.specs.Settlings.{Went}
use Rattle.disk.specs.Behind.{BehindStop}
use Rattle.bench.specs.Lives.{Relived}
use Rattle.bench.specs.Steps.{calls_of}
use Rattle.bench.proofs.Views.{lent_cells, stopped_once, Side, lived_side}
use Rattle.bench.proofs.second_life.Goals as goal
use Rattle.bench.proofs.second_life.Goals.{in-Some, in-None}

pub returns : goal.returns
returns g c =
    let calls = calls_of c.args.acts.now c.perform_all.result in
    let side : Side c.match-stop.next calls = lived_side c.perform_all.ensures in
    let below : lent_cells c.new-disk.result ≡ c.args.cells.now = ap lent_cells c.new-disk.ensures.is ∙ c.new.ensures.held in
    elim c.match-stop.branch [
      | in-Some w ↦
          let s = subst (λ x. Side x calls) w.next-is side in
          subst (λ o. Relived c.args.cells.now o calls) (sym w.in-Some.is) (s.0, subst (λ v. Chain BehindStop v calls s.0) (ap stopped_once w.new-in-Some.ensures ∙ ap (λ l. (l, w.in-Some.left)) below) s.1)
      | in-None w ↦
          let s = subst (λ x. Side x calls) w.next-is side in
          subst (λ o. Relived c.args.cells.now o calls) (sym w.in-None.is) (s.0, subst (λ v. Chain Went v calls s.0) below s.1)
    ]
