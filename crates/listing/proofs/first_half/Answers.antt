use Rattle.std.proofs.Common.{rules, ◌≡◌, true, false}
use Rattle.std.proofs.lemmas.Iterator.{first_from_Range}
use Rattle.listing.specs.Listing.{lies_on}
use Rattle.listing.proofs.Steps.{smallest_first}
use Rattle.listing.proofs.first_half.Goals as goal

pub returns : goal.returns
returns c =
    let p = lies_on c.args.b.now c.args.l in
    smallest_first p 384 0 c.find.result (first_from_Range _ _ _ _ (λ i. p i ≡ true) (λ i. p i ≡ false) c.find.ensures.ran (λ x q k. search rules) (λ x q k. search rules))
