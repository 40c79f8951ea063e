use Rattle.std.proofs.Common.{arith, sym, ◌∙◌}
use Rattle.reliable_sequence.proofs.slots.Slots.put.Goals as goal
use Rattle.reliable_sequence.proofs.SlotFacts.{with_body_behind, with_body_within}

pub returns-then-at-len-clause-put : goal.returns-then-at-len-clause-put
returns-then-at-len-clause-put c =
    c.write.ensures ∙ sym (with_body_within _ _ _ (omega arith))

pub returns-in-Ok-clause-put : goal.returns-in-Ok-clause-put
returns-in-Ok-clause-put c =
    c.in-Ok.ensures.pushed ∙ sym (with_body_behind _ _ _ _ (omega arith))
