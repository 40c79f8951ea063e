use Rattle.std.proofs.Common.{◌-◌}
use Rattle.reliable_sequence.proofs.outgoing.free_range.Goals as goal
use Rattle.reliable_sequence.proofs.SlotFacts.{freed_none, freed_to_end}

pub returns-then-from-end : goal.returns-then-from-end
returns-then-from-end c =
    let front = c.args.front in
    let r = c.args.range in
    let end = freed_to_end c.args.slots.now (r.lower - front - 1) (r.upper - front) in
    cc

pub returns-else-from-end : goal.returns-else-from-end
returns-else-from-end c =
    let front = c.args.front in
    let r = c.args.range in
    let end = freed_to_end c.args.slots.now (r.lower - front - 1) (r.upper - front) in
    let none = freed_none c.args.slots.now _ _ c.if-from-end.false in
    cc
