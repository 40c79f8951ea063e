use Rattle.std.proofs.Common.{◌≡◌, ◌∙◌, ap}
use Rattle.uuid.specs.Text.{hyphenated_text, lower}
use Rattle.line_notation.specs.Scalars.{identifier_word}
use Rattle.line_notation.proofs.puts.put_identifier.Goals as goal

pub returns : goal.returns
returns g c =
    let text : c.as_bytes.result.now ≡ identifier_word c.args.bytes.now =
    c.as_bytes.ensures.value ∙ c.encode_lower.ensures.text ∙ ap (hyphenated_text lower)
    (c.hyphenated.ensures ∙ c.from_bytes_le-id.ensures) in
    rw text at c.put_bytes.ensures
