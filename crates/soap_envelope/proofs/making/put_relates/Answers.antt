use Rattle.std.proofs.Common.{sym, ◌∙◌, append_assoc}
use Rattle.soap_envelope.proofs.Places.{relates_block-some}
use Rattle.soap_envelope.proofs.making.put_relates.Goals as goal

pub returns : goal.returns
returns c =
    rw (
      c.in_ok-put_close.ensures,
      c.in_ok-put_copies.ensures,
      c.in_ok-put_start.ensures,
      relates_block-some c.args.relates.now (sym c.is_empty.ensures ∙ c.if-is_empty.false),
    )
    (simp append_assoc)
