use Rattle.stream_loop.proofs.{Lines.fails_flush, Lines.puts_all, Writing.on_ok}
use Rattle.stream_loop.proofs.report.ReportingEventHandler.pause.Goals as goal

pub returns-clause-may_wait : goal.returns-clause-may_wait
returns-clause-may_wait g c = on_ok c.flush.result c.flush.ensures.emptied

pub returns-clause-handled : goal.returns-clause-handled
returns-clause-handled g c = λ first paused since h.
    let t = g.T.Reporter.rules c.args.self.now.reporter.now in
    let s = g.T.Reporter.state c.args.self.now.reporter.now in
    let view = g.K.Sink.view in
    puts_all t (view first) paused since s (view c.args.output.now) h (view c.flush.new.self)
    c.flush.result c.flush.ensures.puts c.flush.ensures.emptied

pub returns-clause-halted : goal.returns-clause-halted
returns-clause-halted g c = λ first paused since h.
    let t = g.T.Reporter.rules c.args.self.now.reporter.now in
    let s = g.T.Reporter.state c.args.self.now.reporter.now in
    let view = g.K.Sink.view in
    fails_flush t (view first) paused since s (view c.args.output.now) h
    (view c.flush.new.self) c.flush.result c.flush.ensures.puts
