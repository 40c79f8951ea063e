use Rattle.std.proofs.Common.{◌+◌, ◌≤◌, ◌∙◌, ap, sym, subst}
use Rattle.reliable_sequence.specs.Rehearsal.{IsReached, Kept, kept_after, MayHappen}
use Rattle.reliable_sequence.specs.Sent.{submitted_count}
use Rattle.reliable_sequence.proofs.world.World.step.Goals as goal
use Rattle.reliable_sequence.proofs.{EventFacts.one-more-at-most, RehearsalFacts.reached-after}

pub invariant_of-result : goal.invariant_of-result
invariant_of-result c =
    subst IsReached (sym c.in_ok-next.ensures.kept)
    (reached-after c.self.inside.exchange c.args.event c.self.invariant
    (subst (λ (k : Kept). MayHappen k c.args.event) (sym c.self.view_is) c.requires))

pub returns-clause-counted : goal.returns-clause-counted
returns-clause-counted c =
    subst (λ (k : Kept). submitted_count k.sender ≤ submitted_count c.args.self.sender + 1)
    (sym (c.in_ok-next.ensures.kept ∙ ap (λ (k : Kept). kept_after k c.args.event) c.self.view_is))
    (one-more-at-most c.args.self c.args.event)
