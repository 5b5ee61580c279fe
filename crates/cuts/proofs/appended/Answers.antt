use Rattle.std.proofs.Common.{◌≡◌, replicate, sym, ap, ◌∙◌, subst}
use Rattle.disk.specs.Settlings.{blank_cells}
use Rattle.journal.specs.Appends.{Appends}
use Rattle.journal.specs.Drafts.{drafted}
use Rattle.disk.specs.Behind.{BehindStop}
use Rattle.cuts.specs.Cuts.{nothing}
use Rattle.cuts.proofs.Maps.{appends_map}
use Rattle.cuts.proofs.Views.{own_cells, stopped_once, DidOnce, once}
use Rattle.cuts.proofs.appended.Goals as goal

pub returns : goal.returns
returns c =
    let start : stopped_once c.new-disk.result ≡ (blank_cells 8, c.args.stop) =
    ap stopped_once c.new-disk.ensures ∙ ap (λ w. (own_cells w, c.args.stop)) c.new.ensures.is ∙ ap (λ v. (replicate 8 v, c.args.stop)) c.blank.ensures in
    let end : own_cells c.append.new.disk.disk ≡ own_cells c.into_disk.result = ap own_cells (sym c.into_disk.ensures) in
    let seen = appends_map stopped_once DidOnce BehindStop once c.new-disk.result nothing (drafted c.batch.result) c.append.result c.append.new.disk c.append.ensures.is in
    let from = subst (λ s. Appends BehindStop s nothing (drafted c.batch.result) c.append.result (stopped_once c.append.new.disk)) start seen in
    let of = subst (λ es. Appends BehindStop (blank_cells 8, c.args.stop) nothing es c.append.result (stopped_once c.append.new.disk)) c.batch.ensures from in
    record {
      answer = c.append.result;
      left = c.append.new.disk.left;
      calls = subst (λ l. Appends BehindStop (blank_cells 8, c.args.stop) nothing _ c.append.result (l, c.append.new.disk.left)) end of;
    }
