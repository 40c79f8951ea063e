use Rattle.std.proofs.Common.{append_assoc}
use Rattle.reliable_sequence.specs.Names.{messaging}
use Rattle.reliable_sequence.proofs.making.put_block_start.Goals as goal

pub returns : goal.returns
unfolding messaging
returns c =
    rw (c.in_ok-put_xmlns.ensures.put, c.in_ok-put_start.ensures) (simp append_assoc)
