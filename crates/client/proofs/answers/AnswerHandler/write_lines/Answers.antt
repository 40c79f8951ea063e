use Rattle.{std.proofs.Common.refl, client.proofs.Handling.reports_on}
use Rattle.client.proofs.answers.AnswerHandler.write_lines.Goals as goal

pub returns-then-is_going-clause-writes : goal.returns-then-is_going-clause-writes
returns-then-is_going-clause-writes g c = λ first events writes.
    let f = c.flush-self.ensures.flushed in
    let m = c.args.self.now in
    reports_on first events m.reached (g.O.Sink.view c.args.output.now) f.0 m.report
    c.flush-self.result (g.O.Sink.view c.flush-self.new.sink)
    (c.if-is_going.ensures.going refl) f.2 f.1 writes
