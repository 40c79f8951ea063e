use Rattle.std.proofs.Common.{append_assoc}
use Rattle.reliable_sequence.proofs.making.put_acknowledgement.Goals as goal

pub returns : goal.returns
returns c =
    rw (
      c.in_ok-put_close.ensures,
      c.in_ok-put_ranges.ensures,
      c.in_ok-put_identifier.ensures,
      c.in_ok-put_block_start.ensures,
    )
    (simp append_assoc)
