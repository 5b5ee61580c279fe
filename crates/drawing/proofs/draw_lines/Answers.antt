use Rattle.std.proofs.Common.{◌≡◌, ◌++◌, length, string_bytes, inl, sym, refl, ap, ◌∙◌}
use Rattle.std.proofs.lemmas.List.{append-nil}
use Rattle.std.specs.Iterator.Adapters.{enumerate_source, enumerate_count}
use Rattle.listing.specs.Listing.{listed}
use Rattle.words.specs.Words.{lines}
use Rattle.words.specs.Left.{lines_left}
use Rattle.drawing.specs.Drawing.{line_shown}
use Rattle.drawing.proofs.Turns.{countable, line_more, drawn_all}
use Rattle.drawing.proofs.draw_lines.Goals as goal

pub loop-index-init : goal.loop-index-init
loop-index-init c =
    let made = c.into_iter-index-iterator.ensures.into_iter_gives in
    let count = ap enumerate_count made ∙ c.enumerate-index-items.ensures.count in
    let left : lines_left (enumerate_source c.into_iter-index-iterator.result) ≡ lines c.args.input.now = ap lines_left (ap enumerate_source made ∙ c.enumerate-index-items.ensures.source) ∙ c.new.ensures in
    record {
      can = (tt, tt, inl (rw count (countable c.args.input.now _ c.requires (ap length left))));
      ends = tt;
      sofar = rw (c.new-out.ensures.bytes, c.empty-solid.ensures, count, left) refl;
    }

-- a line without a word
pub loop-index-preserved-in_default : goal.loop-index-preserved-in_default
loop-index-preserved-in_default c =
    let told = c.in_default.ensures in
    let text = sym (append-nil (string_bytes c.loop-index.out)) ∙ ap (λ r. string_bytes c.loop-index.out ++ line_shown r) told.reply in
    record { can = c.in-Some.ensures.goes.keeps; ends = tt; sofar = line_more c.in-Some.index _ _ _ _ _ _ _ _ _ _ c.loop-index.invariant.sofar c.in-Some.ensures.steps text told.left }

pub loop-index-preserved : goal.loop-index-preserved
loop-index-preserved c =
    let told = c.in-Some-reply_to.ensures in
    let text = c.in_ok-write.ensures.bytes ∙ ap (λ r. string_bytes c.loop-index.out ++ line_shown r) told.reply in
    record { can = c.in-Some.ensures.goes.keeps; ends = tt; sofar = line_more c.in-Some.index _ _ _ _ _ _ _ _ _ _ c.loop-index.invariant.sofar c.in-Some.ensures.steps text told.left }

pub returns : goal.returns
returns c =
    let all = drawn_all (string_bytes c.loop-index.out) _ c.loop-index.solid.boundary _ _ c.loop-index.invariant.sofar c.in-None.ensures.steps.0.0 in
    let text = c.as_str.ensures.value ∙ c.in_ok-listed.ensures ∙ ap listed c.boundary.ensures in
    c.in_ok-push_str.ensures.bytes ∙ ap (λ x. string_bytes c.loop-index.out ++ x) text ∙ all
