use Rattle.line_notation.proofs.LinesAre.{read-lines}
use Rattle.line_notation.proofs.StandingFacts.{standing-more, standing-refused}
use Rattle.line_notation.proofs.laws.standing.Goals as goal

pub returns-clause-read : goal.returns-clause-read
returns-clause-read c = read-lines

pub returns-clause-refused : goal.returns-clause-refused
returns-clause-refused c = standing-refused

pub returns-clause-more : goal.returns-clause-more
returns-clause-more c = standing-more
