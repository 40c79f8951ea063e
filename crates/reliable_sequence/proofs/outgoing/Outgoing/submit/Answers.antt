use Rattle.std.proofs.Common.{◌+◌, ◌<◌, ap, arith, [], ◌∷◌, length, length-append, Some, sym, ◌∙◌}
use Rattle.std.proofs.Math.Arith.{lt_of_le-ne}
use Rattle.reliable_sequence.specs.Sent.{submitted_count}
use Rattle.reliable_sequence.specs.Slots.{free_count, leading_free}
use Rattle.reliable_sequence.proofs.outgoing.Outgoing.submit.Goals as goal
use Rattle.reliable_sequence.proofs.PlaceFacts.{free_count-push, leading_free-push}

pub invariant_of-self-2 : goal.invariant_of-self-2
invariant_of-self-2 c =
    let slots = c.self.inside.unacknowledged in
    let pushed = c.in_ok-push_body.ensures.pushed in
    let long = ap length pushed ∙ length-append slots (Some c.args.body ∷ []) in
    let counted = ap submitted_count c.self.view_is in
    let bound = c.requires in
    let room : length slots < c.self.inside.window =
    lt_of_le-ne c.self.invariant.0.within
    (λ same. c.if-unacked-self.false (c.len-unacked.ensures ∙ same)) in (
      record {
        few = omega arith;
        within = omega arith;
        longest = ap leading_free pushed
            ∙ leading_free-push slots c.args.body c.self.invariant.0.longest;
      },
      c.self.invariant.1
          ∙ ap (λ n. c.self.inside.front + n)
          (sym (ap free_count pushed ∙ free_count-push slots c.args.body)),
    )
