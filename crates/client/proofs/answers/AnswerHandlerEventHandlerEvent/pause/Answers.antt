use Rattle.std.proofs.Common.{◌++◌, append-nil}
use Rattle.client.proofs.Answered.{tells_on}
use Rattle.client.proofs.answers.AnswerHandlerEventHandlerEvent.pause.Goals as goal

pub returns-clause-handled : goal.returns-clause-handled
returns-clause-handled g c = λ first paused since told.
    let w = c.write_lines.ensures in
    let m = c.args.self.now in
    let n = c.write_lines.new.self in
    rw (append-nil (paused ++ since)) (tells_on (g.O.Sink.view first) (paused ++ since) m.stage
    n.stage m.reached n.reached m.report n.report (g.O.Sink.view c.args.output.now)
    (g.O.Sink.view c.write_lines.new.output) w.stage w.reached w.writes told)

pub returns-clause-may_wait : goal.returns-clause-may_wait
returns-clause-may_wait g c = c.write_lines.ensures.written
