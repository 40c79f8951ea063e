use Rattle.std.proofs.Common.{◌≤◌, ◌-◌, arith}
use Rattle.session_dictionary.proofs.PairFacts.{pair_at}
use Rattle.session_dictionary.proofs.order.joined.Goals as goal

pub overflow_sub-cuts : goal.overflow_sub-cuts
overflow_sub-cuts c = pair_at ◌≤◌ c.args.cuts.now (c.loop-place.place - 1) c.loop-place.place 0
    (omega arith) c.loop-place.invariant c.requires.rises
