use Rattle.std.proofs.Common.{rules, ◌≡◌, ◌∷◌, replicate, ◌∙◌, ap, refl}
use Rattle.std.specs.List.{flat_map}
use Rattle.records.specs.Blocks.{laid_point}
use Rattle.records.proofs.Bytes.{step, flattened, put_laid}
use Rattle.records.proofs.Block.bytes.Goals as goal

pub returns : goal.returns
returns c =
    let b = c.args.self in
    let fields = c.as_flattened.ensures.value ∙ ap (flat_map (λ x. x)) c.field_bytes-fields.ensures ∙ flattened b.fields in
    let point = c.as_flattened-2.ensures.value ∙ ap (flat_map (λ x. x)) c.point_bytes-point.ensures in
    step 20 {part' = laid_point b.at} c.put-4.ensures point
    (step 18 c.put-3.ensures c.to_le_bytes.ensures
    (step 8 c.put-2.ensures fields
    (step 2 {xs = b.kind ∷ b.spare ∷ replicate 30 0} c.put.ensures c.place_bytes.ensures refl)))
    ∙ put_laid b (search rules)
