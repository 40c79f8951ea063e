use Rattle.std.proofs.Common.{append_assoc}
use Rattle.soap_envelope.proofs.making.put_action.Goals as goal

pub returns : goal.returns
returns c =
    rw (
      c.in_ok-put_close.ensures,
      c.in_ok-put_text.ensures,
      c.in_ok-put_attribute.ensures,
      c.in_ok-put_start.ensures,
    )
    (simp append_assoc)
