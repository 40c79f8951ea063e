use Rattle.std.proofs.Common.{append_assoc}
use Rattle.reliable_sequence.proofs.making.put_range.Goals as goal

pub returns : goal.returns
returns c =
    rw (
      c.in_ok-put_close.ensures,
      c.in_ok-put_attribute-2.ensures,
      c.numeral-2.ensures,
      c.in_ok-put_attribute.ensures,
      c.numeral.ensures,
      c.in_ok-put_start.ensures,
    )
    (simp append_assoc)
