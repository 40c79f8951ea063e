use Rattle.std.proofs.Common.{append_assoc}
use Rattle.soap_envelope.proofs.plain.put_plain.Goals as goal

pub returns : goal.returns
returns c =
    rw (
      c.in_ok-put_ending.ensures,
      c.in_ok-put_moved-2.ensures,
      c.in_ok-put_middle.ensures,
      c.in_ok-put_moved.ensures,
      c.in_ok-put_opening.ensures,
    )
    (simp append_assoc)
