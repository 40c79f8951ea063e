use Rattle.{std.proofs.Common.refl, client.specs.Called.closing_of}
use Rattle.client.proofs.Handling.{closed_at, closed_before, closed_well}
use Rattle.client.proofs.answers.AnswerHandler.close.Goals as goal

pub returns-then-not-is_going-clause-closed : goal.returns-then-not-is_going-clause-closed
returns-then-not-is_going-clause-closed g c = λ first events h.
    let m = c.args.self.now in
    closed_before first events m.reached (g.O.Sink.view c.args.output.now) m.report
    (closing_of c.args.ending m.reached) h (c.if-not-is_going.ensures.stopped refl)

pub returns-then-is_going-clause-closed : goal.returns-then-is_going-clause-closed
returns-then-is_going-clause-closed g c = λ first events h.
    let m = c.args.self.now in
    let p = c.put_last-self in
    let f = c.flush-self.ensures.flushed in
    let done = c.if-is_going.ensures.going refl in
    closed_well first events m.reached (g.O.Sink.view c.args.output.now) m.report
    (closing_of c.args.ending m.reached) h f.0 c.flush-self.result (g.O.Sink.view p.new.output)
    (g.O.Sink.view c.flush-self.new.sink) (c.if-not-is_going.ensures.going refl)
    (rw done at p.ensures.goes) f.2 f.1 c.flush-self.ensures.emptied

pub returns-else-is_going-clause-closed : goal.returns-else-is_going-clause-closed
returns-else-is_going-clause-closed g c = λ first events h.
    let m = c.args.self.now in
    let p = c.put_last-self in
    closed_at first events m.reached (g.O.Sink.view c.args.output.now) m.report
    (closing_of c.args.ending m.reached) h p.result (g.O.Sink.view p.new.output)
    (c.if-not-is_going.ensures.going refl) (c.if-is_going.ensures.stopped refl) p.ensures.goes
    p.ensures.memory
