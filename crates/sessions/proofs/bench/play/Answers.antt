use Rattle.std.proofs.Common.{◌≡◌, replicate, ap, ◌∙◌}
use Rattle.sessions.specs.Benches.{first_disk}
use Rattle.sessions.proofs.Starts.{law_at}
use Rattle.sessions.proofs.bench.play.Goals as goal

pub returns : goal.returns
returns c =
    let first : c.new-disk.result ≡ first_disk = c.new-disk.ensures ∙ ap (λ d. record { disk = d; left = 999 }) (c.new.ensures.is ∙ ap (λ v. record { cells = replicate 16 v }) c.blank.ensures) in
    law_at c.new-disk.result c.run-phase.new.steps _ first c.run-phase.ensures.law
