use Rattle.unit_streams.proofs.Histories.{history_is_answers}
use Rattle.unit_streams.proofs.laws.history_is_answers.Goals as goal

pub returns : goal.returns
returns c = λ g. history_is_answers g
