use Rattle.std.proofs.Common.{[], refl, arith}
use Rattle.stream_loop.proofs.Parts.{given_cut, given_stopped}
use Rattle.stream_loop.proofs.part_writer.PartWriter.run_out.Goals as goal

pub returns-then-is_going-clause-given : goal.returns-then-is_going-clause-given
returns-then-is_going-clause-given g c = λ first parts next h.
    let w = c.put_gathered.new.self in
    let e = c.put_gathered.ensures in
    rw (e.emptied, e.unmarked) (given_cut first
    parts w.whole (g.K.Sink.view c.put_gathered.new.sink)
    (rw (c.if-is_going.ensures.going refl, e.emptied, e.unmarked) at (e.given first parts h))
    c.run_out-self.result next (g.K.Sink.view c.run_out-self.new.sink) c.run_out-self.ensures.cut)

pub returns-else-is_going-clause-given : goal.returns-else-is_going-clause-given
returns-else-is_going-clause-given g c = λ first parts next h.
    let w = c.put_gathered.new.self in
    given_stopped first parts w.whole
    w.gathered.items w.ends.items (g.K.Sink.view c.put_gathered.new.sink) w.outbound next
    (c.if-is_going.ensures.stopped refl) (c.put_gathered.ensures.given first parts h)

pub returns-then-is_going-clause-stopped : goal.returns-then-is_going-clause-stopped
returns-then-is_going-clause-stopped g c = λ done.
    (rw done at (c.run_out-self.ensures.cut [])).ends

pub returns-else-is_going-clause-stopped : goal.returns-else-is_going-clause-stopped
returns-else-is_going-clause-stopped g c = c.if-is_going.ensures.stopped refl

pub returns-then-is_going-clause-little : goal.returns-then-is_going-clause-little
returns-then-is_going-clause-little g c = rw c.put_gathered.ensures.emptied (omega arith)

pub returns-else-is_going-clause-little : goal.returns-else-is_going-clause-little
returns-else-is_going-clause-little g c = rw c.put_gathered.ensures.emptied (omega arith)
