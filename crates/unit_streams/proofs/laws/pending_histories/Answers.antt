use Rattle.unit_streams.proofs.Pending.{pending_history}
use Rattle.unit_streams.proofs.laws.pending_histories.Goals as goal

pub returns : goal.returns
returns c = λ g. pending_history g
