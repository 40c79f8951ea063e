use Rattle.std.proofs.Common.{arith, ap, length, length-drop, ◌∙◌}
use Rattle.reliable_sequence.specs.Slots.{leading_free}
use Rattle.reliable_sequence.proofs.outgoing.Outgoing.acknowledge.Goals as goal
use Rattle.reliable_sequence.proofs.{PlaceFacts.leading_free-drop, SentFacts.length-without_all}
use Rattle.reliable_sequence.proofs.SlotFacts.{free_count-le, leading_free-le}

pub overflow_add-self : goal.overflow_add-self
overflow_add-self c =
    let slots = c.free_ranges.new.slots in
    let same = ap length c.free_ranges.ensures in
    let long = length-without_all c.self.inside.front c.self.inside.unacknowledged c.args.ranges.now in
    let few = leading_free-le slots in
    let count = c.pop_free.ensures.count in
    let kept = c.self.invariant.0.few in
    omega arith

pub invariant_of-self : goal.invariant_of-self
invariant_of-self c =
    let slots = c.free_ranges.new.slots in
    let same = ap length c.free_ranges.ensures in
    let long = length-without_all c.self.inside.front c.self.inside.unacknowledged c.args.ranges.now in
    let few = leading_free-le slots in
    let count = c.pop_free.ensures.count in
    let left = ap length c.pop_free.ensures.rest ∙ length-drop (leading_free slots) slots in
    let kept = c.self.invariant.0.few in
    let within = c.self.invariant.0.within in (
      record {
        few = omega arith;
        within = omega arith;
        longest = ap leading_free c.pop_free.ensures.rest ∙ leading_free-drop slots;
      },
      let free = c.free_count.ensures in omega arith,
    )

pub overflow_add-self-2 : goal.overflow_add-self-2
overflow_add-self-2 c =
    let slots = c.free_ranges.new.slots in
    let same = ap length c.free_ranges.ensures in
    let long = length-without_all c.self.inside.front c.self.inside.unacknowledged c.args.ranges.now in
    let count = c.pop_free.ensures.count in
    let left = ap length c.pop_free.ensures.rest ∙ length-drop (leading_free slots) slots in
    let free = free_count-le c.pop_free.new.self in
    let counted = c.free_count.ensures in
    let lead = leading_free-le slots in
    let kept = c.self.invariant.0.few in
    omega arith
