use Rattle.dump_replay.proofs.Order.{zero_in_order}
use Rattle.dump_replay.proofs.laws.complete_runs.Goals as goal

pub returns : goal.returns
returns c = zero_in_order c.fitting_is_accepted.ensures
