use Rattle.std.proofs.Common.{sym, ap, ap₂, ◌∙◌, subst}
use Rattle.{unit_streams.specs.Tellers.Teller, stream_reader.specs.StreamReaderState.settings_of}
use Rattle.{nbfx_values.specs.declared.refusals.Offence.Offence, command_words.specs.Asking.two_of}
use Rattle.stream_reader.specs.Stream.{ends, Settings, Side, stream, StreamEvent}
use Rattle.{nbfx_values.specs.Limits.Limits}
use Rattle.stream_loop.specs.{Answers.written_by, Reported.EndsAs}
use Rattle.session_report.proofs.{Saying.lines_are, Streams.ends_within}
use Rattle.session_report.specs.{declared.reporter.LineReporter.LineReporter, Report.lines_of}
use Rattle.session_report.specs.declared.reporter.Outcome.{Outcome, TheVariants.Open}
use Rattle.session_report.specs.Saying.{event_for, said_by}
use Rattle.dump_replay.specs.Statics.{settings_for}
use Rattle.dump_replay.proofs.{Beginnings.ends_under, Beginnings.not_begun, Directions.good_for}
use Rattle.dump_replay.proofs.{Seen.input_by, Seen.output_by, Statuses.reports_by}
use Rattle.stream_loop.specs.declared.reporting.ReportEnding.TheVariants as endings
use Rattle.io_edges.specs.Views.{SinkView}
use Rattle.dump_replay.proofs.reporting.report_input.Goals as goal

pub returns-in_default : goal.returns-in_default
returns-in_default g c =
    let x = settings_for c.args.origin c.args.statics.now (two_of c.args.quotas.now) in
    let i = input_by g.I.Source c.args.input.now in
    let o = output_by g.O.Sink c.args.output in
    reports_by c.args.detail x (good_for c.args.origin c.args.quotas.now) i i o o Open
    endings.Memory
    (not_begun (stream x) (lines_of c.args.detail) i o o.held ends x.limits.session
    (ends_within x (good_for c.args.origin c.args.quotas.now)) Open)

pub returns-in_default-gathering_room : goal.returns-in_default-gathering_room
returns-in_default-gathering_room g c =
    let x = settings_for c.args.origin c.args.statics.now (two_of c.args.quotas.now) in
    let i = input_by g.I.Source c.args.input.now in
    let o = output_by g.O.Sink c.args.output in
    reports_by c.args.detail x (good_for c.args.origin c.args.quotas.now) i i o o Open
    endings.Memory
    (not_begun (stream x) (lines_of c.args.detail) i o o.held ends x.limits.session
    (ends_within x (good_for c.args.origin c.args.quotas.now)) Open)

pub report_stream-ending-requires-clause-ends : goal.report_stream-ending-requires-clause-ends
report_stream-ending-requires-clause-ends g c =
    ends_within (settings_of c.in-Ok.end.reader) c.in-Ok.end.good

pub returns : goal.returns
returns g c =
    let x = settings_for c.args.origin c.args.statics.now (two_of c.args.quotas.now) in
    let i = input_by g.I.Source c.args.input.now in
    let i' = input_by g.I.Source c.report_stream-ending.new.input in
    let o = output_by g.O.Sink c.args.output in
    let o' = output_by g.O.Sink c.into_sink.result in
    let ending = c.report_stream-ending.result in
    let end = c.report_stream-ending.new.reporter.outcome in
    let set = c.in-Ok.ensures.settings
    ∙ ap₂ (λ (s : Side) (l : Limits). record {
      side = s;
      statics = c.args.statics.now;
      limits = l;
    }) c.side_of.ensures c.quotas_of.ensures in
    let written = ap (λ (r : LineReporter). written_by event_for
    (said_by r.detail)) c.new-reporter.ensures
    ∙ lines_are c.args.detail in
    let first = c.new-gathered.result in
    let last = c.report_stream-ending.new.output in
    let view = g.O.Sink.view in
    let under = ends_under _ _ i i' (view first.sink) (view last.sink) first.gathered last.gathered
    end ending c.new-gathered.ensures.nothing c.report_stream-ending.ensures.reported in
    let given = subst (λ (k : SinkView). EndsAs (stream (settings_of c.in-Ok.end.reader))
    (written_by event_for (said_by c.new-reporter.result.detail)) i i' (view first.sink) k end
    ending) (sym (ap view c.into_sink.ensures)) under in
    let beneath = subst (λ (k : SinkView). EndsAs (stream (settings_of c.in-Ok.end.reader))
    (written_by event_for (said_by c.new-reporter.result.detail)) i i' k o' end ending)
    (ap view c.new-gathered.ensures.sink) given in
    let by_settings = subst (λ (s : Settings). EndsAs (stream s) (written_by event_for
    (said_by c.new-reporter.result.detail)) i i' o o' end ending) set beneath in
    let by_lines = subst (λ (t : Teller Outcome StreamEvent Offence). EndsAs
    (stream x) t i i' o o' end ending) written by_settings in
    rw c.status.ensures
    (reports_by c.args.detail x (good_for c.args.origin c.args.quotas.now) i i' o o' end ending
    by_lines)
