use Rattle.std.proofs.Common.{sym}
use Rattle.line_notation.proofs.NumeralsFacts.{natural-over, natural-text}
use Rattle.line_notation.proofs.numbers.natural_up_to.Goals as goal

pub returns-in_default : goal.returns-in_default
returns-in_default c = absurd
    (c.in_default.ensures.cases.0 (natural-text c.args.word.now (sym c.if-not-is_natural.ensures)))

pub returns-in_default-parse-2 : goal.returns-in_default-parse-2
returns-in_default-parse-2 c =
    sym (natural-over c.args.most c.args.word.now c.parse.result c.in_default-parse.field-0
    c.in_default-parse.is c.requires (sym c.if-not-is_natural.ensures)
    (rw c.in-Ok.ensures.cases.0 at c.parse.ensures.value.0))
