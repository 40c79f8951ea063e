use Rattle.std.proofs.Common.{sym, ap, subst}
use Rattle.{io_edges.specs.Views.SinkView, stream_loop.specs.Reported.EndsAs}
use Rattle.rehearsal.specs.{History.history, History.Settings, History.told}
use Rattle.rehearsal.specs.HistoryReaderState.{settings_of}
use Rattle.command_words.specs.Asking.{rehearsal_of}
use Rattle.dump_replay.proofs.{Beginnings.ends_under, Rehearsals.history_ends_within}
use Rattle.dump_replay.proofs.{Rehearsals.unplayed, Seen.input_by, Seen.output_by}
use Rattle.dump_replay.proofs.rehearsing.rehearse_input.Goals as goal

pub returns-in_default : goal.returns-in_default
returns-in_default g c =
    unplayed (rehearsal_of c.args.asked) (input_by g.I.Source c.args.input.now)
    (output_by g.O.Sink c.args.output)

pub returns-in_default-gathering_room : goal.returns-in_default-gathering_room
returns-in_default-gathering_room g c =
    unplayed (rehearsal_of c.args.asked) (input_by g.I.Source c.args.input.now)
    (output_by g.O.Sink c.args.output)

pub report_stream-ending-requires-clause-ends : goal.report_stream-ending-requires-clause-ends
report_stream-ending-requires-clause-ends g c =
    history_ends_within (settings_of c.in-Ok.reader)

pub returns : goal.returns
returns g c =
    let i = input_by g.I.Source c.args.input.now in
    let i' = input_by g.I.Source c.report_stream-ending.new.input in
    let o' = output_by g.O.Sink c.into_sink.result in
    let ending = c.report_stream-ending.result in
    let counts = c.report_stream-ending.new.reporter.counts in
    let first = c.new-gathered.result in
    let last = c.report_stream-ending.new.output in
    let view = g.O.Sink.view in
    let lines = history (settings_of c.in-Ok.reader) in
    let under = ends_under lines told i i' (view first.sink) (view last.sink) first.gathered
    last.gathered counts ending c.new-gathered.ensures.nothing
    c.report_stream-ending.ensures.reported in
    let given = subst (λ (k : SinkView). EndsAs lines told i i' (view first.sink) k counts ending)
    (sym (ap view c.into_sink.ensures)) under in
    let beneath = subst (λ (k : SinkView). EndsAs lines told i i' k o' counts ending)
    (ap view c.new-gathered.ensures.sink) given in (
      counts,
      subst (λ (x : Settings). EndsAs (history x) told i i'
          (output_by g.O.Sink c.args.output) o' counts ending) c.in-Ok.ensures.settings beneath,
    )
