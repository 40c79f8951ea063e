use Rattle.std.proofs.Common.{◌∙◌, Some, sym, ap, option_map, string_bytes}
use Rattle.static_dictionary.proofs.MapFacts.{static_text-shown}
use Rattle.static_dictionary.proofs.table.text_of.Goals as goal

pub returns-in_err-text : goal.returns-in_err-text
returns-in_err-text c =
    rw c.from_residual.ensures
    (sym (static_text-shown c.args.by_id.now.entries c.args.id
    ∙ ap (option_map string_bytes) (sym c.in_err-text.ensures.value)))

pub returns : goal.returns
returns c = ap Some c.as_str.ensures.value
    ∙ sym (static_text-shown c.args.by_id.now.entries c.args.id
    ∙ ap (option_map string_bytes) (sym c.in_ok-text.ensures.value))
