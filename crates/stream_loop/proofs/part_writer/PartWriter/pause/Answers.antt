use Rattle.std.proofs.Common.{refl, arith}
use Rattle.stream_loop.proofs.Parts.{waits_ended, waits_going}
use Rattle.stream_loop.proofs.part_writer.PartWriter.pause.Goals as goal

-- the writing had stopped before
pub returns-then-not-is_going-clause-given : goal.returns-then-not-is_going-clause-given
returns-then-not-is_going-clause-given g c = λ first parts h.
    rw c.end.ensures.kept h

pub returns-then-not-is_going-clause-may_wait : goal.returns-then-not-is_going-clause-may_wait
returns-then-not-is_going-clause-may_wait g c =
    let m = c.args.self.now in
    waits_ended m.outbound (c.if-not-is_going.ensures.stopped refl) m.gathered.items
    (g.K.Sink.view c.end.new.self) (g.K.Sink.ended c.end.new.self) c.end.ensures.ended

pub returns-then-not-is_going-clause-little : goal.returns-then-not-is_going-clause-little
returns-then-not-is_going-clause-little g c = λ little. little

pub returns-then-not-is_going-clause-same_end : goal.returns-then-not-is_going-clause-same_end
returns-then-not-is_going-clause-same_end g c = λ done.
    absurd (c.if-not-is_going.ensures.stopped refl done)

pub returns-then-not-is_going-clause-stopped : goal.returns-then-not-is_going-clause-stopped
returns-then-not-is_going-clause-stopped g c = λ stopped.
    (refl, c.end.ensures.kept)

-- it stopped now
pub returns-then-not-is_going-2-clause-given : goal.returns-then-not-is_going-2-clause-given
returns-then-not-is_going-2-clause-given g c = λ first parts h.
    rw c.end-then-not-is_going-2.ensures.kept (c.write_out.ensures.given first parts h)

pub returns-then-not-is_going-2-clause-may_wait : goal.returns-then-not-is_going-2-clause-may_wait
returns-then-not-is_going-2-clause-may_wait g c =
    let n = c.write_out.new.self in
    waits_ended n.outbound (c.if-not-is_going-2.ensures.stopped refl) n.gathered.items
    (g.K.Sink.view c.end-then-not-is_going-2.new.self)
    (g.K.Sink.ended c.end-then-not-is_going-2.new.self) c.end-then-not-is_going-2.ensures.ended

pub returns-then-not-is_going-2-clause-little : goal.returns-then-not-is_going-2-clause-little
returns-then-not-is_going-2-clause-little g c = λ little.
    rw c.write_out.ensures.emptied (omega arith)

pub returns-then-not-is_going-2-clause-same_end : goal.returns-then-not-is_going-2-clause-same_end
returns-then-not-is_going-2-clause-same_end g c = λ done.
    absurd (c.if-not-is_going-2.ensures.stopped refl done)

pub returns-then-not-is_going-2-clause-stopped : goal.returns-then-not-is_going-2-clause-stopped
returns-then-not-is_going-2-clause-stopped g c = λ stopped.
    absurd (stopped (c.if-not-is_going.ensures.going refl))

-- it goes on
pub returns-else-not-is_going-2-clause-given : goal.returns-else-not-is_going-2-clause-given
returns-else-not-is_going-2-clause-given g c = λ first parts h.
    c.write_out.ensures.given first parts h

pub returns-else-not-is_going-2-clause-may_wait : goal.returns-else-not-is_going-2-clause-may_wait
returns-else-not-is_going-2-clause-may_wait g c =
    let n = c.write_out.new.self in
    let e = c.write_out.ensures in
    let going = c.if-not-is_going-2.ensures.going refl in
    waits_going n.outbound going n.gathered.items (g.K.Sink.view c.write_out.new.sink)
    (g.K.Sink.ended c.write_out.new.sink) e.emptied (e.written going)

pub returns-else-not-is_going-2-clause-little : goal.returns-else-not-is_going-2-clause-little
returns-else-not-is_going-2-clause-little g c = λ little.
    rw c.write_out.ensures.emptied (omega arith)

pub returns-else-not-is_going-2-clause-stopped : goal.returns-else-not-is_going-2-clause-stopped
returns-else-not-is_going-2-clause-stopped g c = λ stopped.
    absurd (stopped (c.if-not-is_going.ensures.going refl))
