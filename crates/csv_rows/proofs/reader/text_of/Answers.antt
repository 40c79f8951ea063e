use Rattle.std.proofs.Common.{◌∙◌, Bor, List, ℕ, option_map, ap}
use Rattle.csv_rows.proofs.FieldFacts.{text_of-from}
use Rattle.csv_rows.proofs.reader.text_of.Goals as goal

pub returns : goal.returns
returns c =
    ap (option_map (λ (text : Bor (List ℕ)). text.now)) c.ok.ensures.value
    ∙ text_of-from c.args.field.now _ c.from_utf8.result c.from_utf8.ensures.cases
