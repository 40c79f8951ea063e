use Rattle.unit_streams.proofs.Answers.{answers_are_first}
use Rattle.unit_streams.proofs.laws.answers_are_first.Goals as goal

pub returns : goal.returns
returns c = λ g. answers_are_first g
