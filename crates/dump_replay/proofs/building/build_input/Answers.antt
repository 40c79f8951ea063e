use Rattle.std.proofs.Common.{sym, ap, ◌∙◌, subst}
use Rattle.{nbfx_values.specs.QuotasOf.limits_of, stream_loop.specs.Reported.EndsAs}
use Rattle.nbfx_values.specs.declared.session.Kind.{Kind}
use Rattle.document_lines.specs.DocumentReaderState.{has_good_quotas, settings_of}
use Rattle.document_lines.specs.Input.{envelopes_and_end, lines_of_documents, Settings}
use Rattle.command_words.specs.{Asking.opening_of, Tasks.Opening}
use Rattle.dump_replay.specs.Building.{preamble_of, with_preamble}
use Rattle.dump_replay.proofs.{Beginnings.ends_behind, Seen.input_by, Seen.output_by}
use Rattle.dump_replay.proofs.BuildEndings.{lines_end_within, unbegun}
use Rattle.io_edges.specs.Views.{SinkView}
use Rattle.dump_replay.proofs.building.build_input.Goals as goal

pub returns-in_default : goal.returns-in_default
returns-in_default g c =
    unbegun c.args.statics.now (limits_of c.args.quotas) (opening_of c.args.wanted)
    c.args.quotas.good
    (input_by g.I.Source c.args.input.now)
    (output_by g.O.Sink c.args.output)

pub returns-in_default-gathering_room : goal.returns-in_default-gathering_room
returns-in_default-gathering_room g c =
    unbegun c.args.statics.now (limits_of c.args.quotas) (opening_of c.args.wanted)
    c.args.quotas.good
    (input_by g.I.Source c.args.input.now)
    (output_by g.O.Sink c.args.output)

pub report_stream-ending-requires-clause-ends : goal.report_stream-ending-requires-clause-ends
report_stream-ending-requires-clause-ends g c =
    lines_end_within (settings_of c.new-reader.result) (has_good_quotas c.new-reader.result)

pub returns : goal.returns
returns g c =
    let opening : Opening = opening_of c.args.wanted in
    let set : Kind → Settings = λ kind. record {
      limits = limits_of c.args.quotas;
      kind = kind;
      mode = c.args.wanted.mode;
      statics = c.args.statics.now;
    } in
    let i = input_by g.I.Source c.args.input.now in
    let i' = input_by g.I.Source c.report_stream-ending.new.input in
    let o = output_by g.O.Sink c.args.output in
    let o' = output_by g.O.Sink c.into_sink.result in
    let ending = c.report_stream-ending.result in
    let first = c.holding-gathered.result in
    let last = c.report_stream-ending.new.output in
    let view = g.O.Sink.view in
    let lines = lines_of_documents (settings_of c.new-reader.result) in
    let beneath = ends_behind lines envelopes_and_end i i' (view first.sink) (view last.sink)
    first.gathered last.gathered tt ending (preamble_of opening)
    (c.holding-gathered.ensures.gathered ∙ c.deref.ensures.value ∙ c.in-Ok.ensures.bytes)
    c.report_stream-ending.ensures.reported in
    let given = subst (λ (k : SinkView). EndsAs lines envelopes_and_end i i'
    (with_preamble opening (view first.sink)) k tt ending)
    (sym (ap view c.into_sink.ensures)) beneath in
    let began = subst (λ (k : SinkView). EndsAs lines envelopes_and_end i i'
    (with_preamble opening k) o' tt ending) (ap view c.holding-gathered.ensures.sink) given in
    subst (λ (s : Settings). EndsAs (lines_of_documents s) envelopes_and_end i i'
    (with_preamble opening o) o' tt ending) (c.new-reader.ensures.settings ∙ ap set c.kind.ensures)
    began
