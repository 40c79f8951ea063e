use Rattle.std.proofs.Common.{Err, ap, sym, ◌∙◌}
use Rattle.stream_loop.proofs.Written.{goes_of, out_of_memory}
use Rattle.stream_loop.proofs.outbound.put_bytes.Goals as goal

pub returns-in-Err-clause-goes : goal.returns-in-Err-clause-goes
returns-in-Err-clause-goes g c =
    rw c.outbound_of.ensures (goes_of c.in-Err.fault c.args.bytes.now
    (g.K.Sink.view c.args.sink.now) (g.K.Sink.view c.put.new.self) c.in-Err.ensures.puts)

pub returns-in-Err-clause-memory : goal.returns-in-Err-clause-memory
returns-in-Err-clause-memory g c = λ is. c.in-Err.ensures.puts.memory
    (ap Err (out_of_memory c.in-Err.fault (sym c.outbound_of.ensures ∙ is)))
