use Rattle.stream_loop.proofs.Writing.{after_flush}
use Rattle.client.proofs.peers.put_line.Goals as goal

pub returns-clause-puts : goal.returns-clause-puts
returns-clause-puts g c = after_flush c.flush.result c.in_ok-put_due.ensures c.flush.ensures.puts
