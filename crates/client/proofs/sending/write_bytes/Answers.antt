use Rattle.{std.proofs.Common.refl, client.proofs.Opening.flushes_out}
use Rattle.client.proofs.sending.write_bytes.Goals as goal

pub returns-clause-written : goal.returns-clause-written
returns-clause-written g c =
    let f = c.flush.ensures.flushed in
    let done = c.if-not-is_going.ensures.going refl in
    rw f.2 (flushes_out f.0
    c.args.bytes.now (g.K.Sink.view c.args.sink.now) (g.K.Sink.view c.put_bytes-put.new.sink)
    (g.K.Sink.view c.flush.new.sink)
    (rw done at c.put_bytes-put.ensures.goes) f.1 c.flush.ensures.emptied)
