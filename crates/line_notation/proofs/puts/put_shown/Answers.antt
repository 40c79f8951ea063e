use Rattle.std.proofs.Common.{sym, ◌∙◌}
use Rattle.line_notation.proofs.QuotedFacts.{all-shown}
use Rattle.line_notation.proofs.puts.put_shown.Goals as goal

pub returns-then-are_plain : goal.returns-then-are_plain
returns-then-are_plain g c =
    let shown = all-shown c.args.bytes.now (sym c.are_plain.ensures ∙ c.if-are_plain.true) in
    rw shown c.put_bytes.ensures
