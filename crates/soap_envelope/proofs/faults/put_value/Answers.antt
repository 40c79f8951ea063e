use Rattle.std.proofs.Common.{append_assoc}
use Rattle.soap_envelope.proofs.faults.put_value.Goals as goal

pub returns : goal.returns
returns c =
    rw (
      c.in_ok-put_close.ensures,
      c.in_ok-put_text.ensures,
      c.in_ok-text.ensures.same,
      c.in_ok-put_start.ensures,
    )
    (simp append_assoc)
