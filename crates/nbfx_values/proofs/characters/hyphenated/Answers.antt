use Rattle.std.proofs.Common.{◌≡◌, IfOk, ap, ◌∙◌, subst}
use Rattle.uuid.specs.{Parts.swap_fields, Text.hyphenated_text, Text.lower}
use Rattle.nbfx_values.proofs.characters.hyphenated.Goals as goal

pub returns : goal.returns
returns c =
    let text : c.encode_lower.result.now ≡ hyphenated_text lower (swap_fields c.args.bytes.now) =
    c.encode_lower.ensures.text ∙ ap (hyphenated_text lower)
    (c.hyphenated.ensures ∙ c.from_bytes_le-id.ensures) in
    subst (λ bytes. IfOk c.of.result (λ t. t ≡ bytes)) text c.of.ensures.same
