use Rattle.line_notation.proofs.WordsFacts.{words_of-few}
use Rattle.line_notation.proofs.words.Words.of.Goals as goal

pub invariant_of-result : goal.invariant_of-result
invariant_of-result c = words_of-few c.args.line.now c.are_few.ensures
