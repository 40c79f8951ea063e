use Rattle.duplex_server.proofs.lines.put_counts.Goals as goal

pub returns : goal.returns
returns g c = rw (c.from.ensures, c.from-2.ensures, c.from-3.ensures) at c.put_joined.ensures
