use Rattle.std.proofs.Common.{append_assoc}
use Rattle.soap_envelope.specs.Names.{soap}
use Rattle.soap_envelope.proofs.making.put_opening.Goals as goal

pub returns : goal.returns
unfolding soap
returns c =
    rw (
      c.in_ok-put_start-2.ensures,
      c.in_ok-put_xmlns-2.ensures.put,
      c.namespace.ensures,
      c.in_ok-put_xmlns.ensures.put,
      c.in_ok-put_start.ensures,
    )
    (simp append_assoc)
