use Rattle.std.proofs.Common.{refl}
use Rattle.stream_loop.proofs.Parts.{given_flushed}
use Rattle.stream_loop.proofs.part_writer.PartWriter.write_out.Goals as goal

pub returns-then-is_going-clause-given : goal.returns-then-is_going-clause-given
returns-then-is_going-clause-given g c = λ first parts h.
    let w = c.put_gathered.new.self in
    let e = c.put_gathered.ensures in
    let f = c.flush-self.ensures.flushed in
    rw (e.emptied, e.unmarked) (given_flushed
    first parts w.whole (g.K.Sink.view c.put_gathered.new.sink)
    (rw (c.if-is_going.ensures.going refl, e.emptied, e.unmarked) at (e.given first parts h))
    f.0 c.flush-self.result (g.K.Sink.view c.flush-self.new.sink) f.2 f.1)

pub returns-else-is_going-clause-given : goal.returns-else-is_going-clause-given
returns-else-is_going-clause-given g c = λ first parts h.
    c.put_gathered.ensures.given first parts h
