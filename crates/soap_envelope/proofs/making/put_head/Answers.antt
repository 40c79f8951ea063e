use Rattle.std.proofs.Common.{append_assoc}
use Rattle.soap_envelope.proofs.making.put_head.Goals as goal

pub returns : goal.returns
returns c =
    rw (
      c.in_ok-put_middle.ensures,
      c.in_ok-put_relates.ensures,
      c.in_ok-put_action.ensures,
      c.in_ok-put_opening.ensures,
    )
    (simp append_assoc)
