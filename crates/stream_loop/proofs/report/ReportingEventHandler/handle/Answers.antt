use Rattle.std.proofs.Common.{[], ◌∷◌, ◌++◌, Some, sym, subst}
use Rattle.std.proofs.lemmas.Result.{err_from_is_err_and}
use Rattle.unit_streams.specs.Tellers.{Teller}
use Rattle.stream_loop.specs.Report.{HasFailed, HasPut}
use Rattle.stream_loop.proofs.Lines.{fails_event, puts_event}
use Rattle.stream_loop.proofs.report.ReportingEventHandler.handle.Goals as goal

pub returns-in_err-put_event-clause-handled : goal.returns-in_err-put_event-clause-handled
returns-in_err-put_event-clause-handled g c = λ first paused since h.
    let r = err_from_is_err_and c.from_residual.result c.from_residual.ensures.1 in
    rw r.1 tt

pub returns-in_err-put_event-clause-halted : goal.returns-in_err-put_event-clause-halted
returns-in_err-put_event-clause-halted g c = λ first paused since h.
    let r = err_from_is_err_and c.from_residual.result c.from_residual.ensures.1 in
    let t = g.T.Reporter.rules c.args.self.now.reporter.now in
    let s = g.T.Reporter.state c.args.self.now.reporter.now in
    let view = g.K.Sink.view in
    let fault = c.in_err-put_event.field-0.0 in
    rw (r.1, r.2) (subst (λ (u : Teller g.T.Reporter.State g.row.Event.Denot g.row.R.Denot).
    HasFailed u (view first) paused since (Some c.args.event) fault (view c.put_event.new.output))
    (sym c.put_event.ensures.rules)
    (fails_event t (view first) paused since s (view c.args.output.now) h c.args.event
    (view c.put_event.new.output) fault c.in_err-put_event.ensures.puts))

pub returns-clause-handled : goal.returns-clause-handled
returns-clause-handled g c = λ first paused since h.
    let t = g.T.Reporter.rules c.args.self.now.reporter.now in
    let s = g.T.Reporter.state c.args.self.now.reporter.now in
    let s' = g.T.Reporter.state c.put_event.new.self in
    let view = g.K.Sink.view in
    subst (λ (u : Teller g.T.Reporter.State g.row.Event.Denot g.row.R.Denot).
    HasPut u (view first) paused (since ++ c.args.event ∷ []) s' (view c.put_event.new.output))
    (sym c.put_event.ensures.rules)
    (puts_event t (view first) paused since s (view c.args.output.now) h c.args.event
    (view c.put_event.new.output) c.in_ok-put_event.ensures.puts s' c.in_ok-put_event.ensures.next)
