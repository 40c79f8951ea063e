use Rattle.std.proofs.Common.{◌≡◌, [], refl, rules, subst}
use Rattle.io_edges.proofs.Putting.{Puts-nothing}
use Rattle.stream_loop.specs.{Answers.written_by, Edges.input_at}
use Rattle.stream_loop.proofs.{LoopSteps.first_pending, Reports.unbegun_reports}
use Rattle.stream_loop.proofs.reporting.put_report.Goals as goal

-- there was no memory to begin with
pub returns-in_default-clause-reports : goal.returns-in_default-clause-reports
returns-in_default-clause-reports g c =
    let x = g.E.ReadingEnd.grammar c.args.end.now in
    let o = g.O.Sink.view c.args.output.now in (
      c.args.reporter.now,
      refl,
      [],
      Puts-nothing _,
      unbegun_reports x (written_by g.E.ReadingEnd.event_for
          (g.T.Reporter.rules c.args.reporter.now))
          (input_at g.I.Source.left g.I.Source.taken g.I.Source.faults g.I.Source.empty_takes
          c.args.input.now) o o (first_pending x g.E.ReadingEnd.ends
          (g.E.ReadingEnd.most c.args.end.now) c.requires.ends) _ refl,
    )

-- the reporter stays the same
pub returns-clause-reports : goal.returns-clause-reports
returns-clause-reports g c =
    let r = c.put_lines.ensures.reports in
    (c.put_lines.new.reporting.reporter.now, search rules, r.0, r.1, r.2)

pub returns-clause-rules : goal.returns-clause-rules
returns-clause-rules g c =
    subst (λ (r : g.row.T.Denot). g.T.Reporter.rules r
    ≡ g.T.Reporter.rules c.args.reporter.now) (search rules) c.put_lines.ensures.rules

pub put_lines-requires-clause-empty : goal.put_lines-requires-clause-empty
put_lines-requires-clause-empty g c = c.in-Ok.ensures
