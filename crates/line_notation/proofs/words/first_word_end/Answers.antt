use Rattle.{std.proofs.Common.arith, line_notation.proofs.WordsFacts.bare-ends}
use Rattle.line_notation.proofs.words.first_word_end.Goals as goal

pub returns-then-end-line : goal.returns-then-end-line
returns-then-end-line c = bare-ends c.args.line.now c.bare_count-end.result c.bare_count-end.ensures
    (grind arith)

pub returns-else-line-end-eq34 : goal.returns-else-line-end-eq34
returns-else-line-end-eq34 c = bare-ends c.args.line.now c.bare_count-end.result
    c.bare_count-end.ensures (grind arith)
