use Rattle.std.proofs.Common.{true, false, arith, add-one, ◌∙◌}
use Rattle.reliable_sequence.proofs.slots.Slots.free_count.Goals as goal
use Rattle.reliable_sequence.proofs.slots.Slots.free_count.Goals.{else-not-has_body, then-not-has_body}
use Rattle.reliable_sequence.proofs.SlotFacts.{free_count_more}

pub loop-at-preserved : goal.loop-at-preserved
loop-at-preserved c =
    let slots = c.args.self.now in
    let at = c.loop-at.at in
    let count = c.loop-at.count in
    let next = c.if-not-has_body.count in
    let all = c.loop-at.invariant.all in
    elim c.if-not-has_body.branch [
      | then-not-has_body w ↦ record {
        few = omega arith;
        all = free_count_more slots at count next false (omega arith) w.if-not-has_body.ensures
            (w.count-is ∙ add-one count) all;
      }
      | else-not-has_body w ↦ record {
        few = omega arith;
        all = free_count_more slots at count next true (omega arith) w.if-not-has_body.ensures
            w.count-is all;
      }
    ]
