use Rattle.line_notation.proofs.ShownFacts.{line-no_feed, text-cut}
use Rattle.line_notation.proofs.laws.texts.Goals as goal

pub returns-clause-no_feed : goal.returns-clause-no_feed
returns-clause-no_feed c = line-no_feed

pub returns-clause-cut : goal.returns-clause-cut
returns-clause-cut c = text-cut
