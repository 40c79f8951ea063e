use Rattle.relay.proofs.lines.put_middle.Goals as goal

pub returns : goal.returns
returns g c = rw c.from.ensures at c.put_joined.ensures
