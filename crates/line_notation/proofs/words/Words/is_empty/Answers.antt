use Rattle.line_notation.proofs.WordsFacts.{words_left-none}
use Rattle.line_notation.proofs.words.Words.is_empty.Goals as goal

pub returns-clause-none : goal.returns-clause-none
returns-clause-none c = rw (← c.self.view_is) (words_left-none (λ line. line.now) c.self.inside.rest
    c.is_none.result c.is_none.ensures)
