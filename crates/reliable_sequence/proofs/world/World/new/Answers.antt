use Rattle.reliable_sequence.proofs.world.World.new.Goals as goal
use Rattle.reliable_sequence.proofs.RehearsalFacts.{reached-new, sound-new}

pub invariant_of-exchange : goal.invariant_of-exchange
invariant_of-exchange c =
    rw (
      c.new.ensures,
      c.new-2.ensures,
      c.new-3.ensures,
      c.new-4.ensures,
    )
    (sound-new c.args.window)

pub invariant_of-result : goal.invariant_of-result
invariant_of-result c =
    rw (
      c.in_ok-identifier.ensures.same,
      c.new.ensures,
      c.new-2.ensures,
      c.new-3.ensures,
      c.new-4.ensures,
    )
    (reached-new c.args.identifier.now c.args.window)
