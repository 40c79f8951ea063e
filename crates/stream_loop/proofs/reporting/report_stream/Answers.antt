use Rattle.std.proofs.Common.{subst}
use Rattle.stream_loop.specs.{Answers.written_by, Edges.input_at, Reported.EndsAs}
use Rattle.stream_loop.proofs.Finishing.{ends_so, finished_by}
use Rattle.stream_loop.proofs.reporting.report_stream.Goals as goal

pub returns-clause-reported : goal.returns-clause-reported
returns-clause-reported g c =
    let x = g.E.ReadingEnd.grammar c.args.end.now in
    let t = written_by g.E.ReadingEnd.event_for (g.T.Reporter.rules c.args.reporter.now) in
    let seen = g.O.Sink.view in
    let seen_in = input_at g.I.Source.left g.I.Source.taken g.I.Source.faults
    g.I.Source.empty_takes in
    let r = c.put_report-ending.ensures.reports in
    subst (λ (last : g.row.T.Denot). EndsAs x t (seen_in c.args.input.now)
    (seen_in c.put_report-ending.new.input) (seen c.args.output.now) (seen c.written.new.output)
    (g.T.Reporter.state last) c.written.result) r.1
    (ends_so x t _ _ _ _ _ _ c.put_report-ending.result r.2 _ r.4
    (finished_by x t (seen c.args.output.now) (seen c.put_report-ending.new.output)
    (seen c.written.new.output) _ _ r.2 c.written.result _ c.put_report-ending.result r.3 r.4
    c.written.ensures.kept c.written.ensures.failed c.written.ensures.flushed)
    c.put_report-ending.ensures.counted)
