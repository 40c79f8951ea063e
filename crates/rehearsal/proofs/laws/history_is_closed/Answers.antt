use Rattle.{rehearsal.specs.History.history_rules, line_streams.proofs.LineFacts.closes}
use Rattle.rehearsal.proofs.laws.history_is_closed.Goals as goal

pub returns : goal.returns
returns c = λ x. closes (history_rules x)
