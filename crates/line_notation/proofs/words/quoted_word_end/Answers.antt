use Rattle.line_notation.proofs.WordsFacts.{word-begins, word-ends, line-ends}
use Rattle.line_notation.proofs.words.quoted_word_end.Goals as goal

pub loop-at-init : goal.loop-at-init
loop-at-init c = word-begins c.args.line.now

pub returns-then-not-in_quotes : goal.returns-then-not-in_quotes
returns-then-not-in_quotes c =
    word-ends c.args.line.now c.loop-at.in_quotes c.loop-at.at c.loop-at-test.true
    c.if-byte-eq32.true c.if-not-in_quotes.true c.loop-at.invariant

pub returns : goal.returns
returns c = line-ends c.args.line.now c.loop-at.in_quotes c.loop-at.at c.loop-at.auto.at-end
    c.loop-at-test.false c.loop-at.invariant
