use Rattle.std.proofs.Common.{append_assoc}
use Rattle.reliable_sequence.proofs.making.put_sequence.Goals as goal

pub returns : goal.returns
returns c =
    rw (
      c.in_ok-put_close.ensures,
      c.in_ok-put_last.ensures,
      c.in_ok-put_text_element.ensures,
      c.numeral-2.ensures,
      c.in_ok-put_identifier.ensures,
      c.in_ok-put_attribute.ensures,
      c.numeral.ensures,
      c.in_ok-put_block_start.ensures,
    )
    (simp append_assoc)
