use Rattle.std.proofs.Common.{refl}
use Rattle.stream_loop.proofs.Parts.{closed_at, closed_before, closed_well}
use Rattle.stream_loop.proofs.part_writer.PartWriter.close.Goals as goal

pub returns-then-not-is_going-clause-closed : goal.returns-then-not-is_going-clause-closed
returns-then-not-is_going-clause-closed g c = λ first parts h.
    let m = c.args.self.now in
    closed_before first parts m.outbound
    m.whole m.gathered.items m.ends.items c.args.last.now (g.K.Sink.view c.args.sink.now)
    (c.if-not-is_going.ensures.stopped refl) h

pub returns-then-not-is_going-2-clause-closed : goal.returns-then-not-is_going-2-clause-closed
returns-then-not-is_going-2-clause-closed g c = λ first parts h.
    let w = c.put_gathered.new.self in
    closed_before first parts w.outbound
    w.whole w.gathered.items w.ends.items c.args.last.now (g.K.Sink.view c.put_gathered.new.sink)
    (c.if-not-is_going-2.ensures.stopped refl) (c.put_gathered.ensures.given first parts h)

pub returns-then-is_going-clause-closed : goal.returns-then-is_going-clause-closed
returns-then-is_going-clause-closed g c = λ first parts h.
    let w = c.put_gathered.new.self in
    let e = c.put_gathered.ensures in
    let p = c.put_bytes-self in
    let f = c.flush-self.ensures.flushed in
    closed_well first parts w.whole
    (g.K.Sink.view c.put_gathered.new.sink)
    (rw (c.if-not-is_going-2.ensures.going refl, e.emptied, e.unmarked) at (e.given first parts h))
    c.args.last.now f.0 c.flush-self.result (g.K.Sink.view p.new.sink) (g.K.Sink.view c.flush-self.new.sink)
    (rw (c.if-is_going.ensures.going refl) at p.ensures.goes) f.2 f.1 c.flush-self.ensures.emptied

pub returns-else-is_going-clause-closed : goal.returns-else-is_going-clause-closed
returns-else-is_going-clause-closed g c = λ first parts h.
    let w = c.put_gathered.new.self in
    let e = c.put_gathered.ensures in
    let p = c.put_bytes-self in
    closed_at first parts w.whole
    (g.K.Sink.view c.put_gathered.new.sink)
    (rw (c.if-not-is_going-2.ensures.going refl, e.emptied, e.unmarked) at (e.given first parts h))
    c.args.last.now p.result (g.K.Sink.view p.new.sink) (c.if-is_going.ensures.stopped refl) p.ensures.goes
    p.ensures.memory

-- once the writing has stopped, nothing is put
pub returns-then-not-is_going-clause-stopped : goal.returns-then-not-is_going-clause-stopped
returns-then-not-is_going-clause-stopped g c = λ stopped. (refl, refl)

pub returns-then-not-is_going-2-clause-stopped : goal.returns-then-not-is_going-2-clause-stopped
returns-then-not-is_going-2-clause-stopped g c = λ stopped.
    absurd (stopped (c.if-not-is_going.ensures.going refl))

pub returns-then-is_going-clause-stopped : goal.returns-then-is_going-clause-stopped
returns-then-is_going-clause-stopped g c = λ stopped.
    absurd (stopped (c.if-not-is_going.ensures.going refl))

pub returns-else-is_going-clause-stopped : goal.returns-else-is_going-clause-stopped
returns-else-is_going-clause-stopped g c = λ stopped.
    absurd (stopped (c.if-not-is_going.ensures.going refl))
