use Rattle.relay.proofs.lines.put_start.Goals as goal

pub returns : goal.returns
returns g c = rw (c.from.ensures, c.from-2.ensures) at c.put_joined.ensures
