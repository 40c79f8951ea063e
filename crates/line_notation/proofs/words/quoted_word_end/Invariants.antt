use Rattle.line_notation.proofs.WordsFacts.{WithinWord}
use Rattle.line_notation.proofs.words.quoted_word_end.Given as goal

abbrev pub invariant-loop-at : goal.invariant-loop-at
invariant-loop-at l = WithinWord l.line l.in_quotes l.at
