use Rattle.std.proofs.Common.{◌≡◌, Err, sym, ap, subst}
use Rattle.io_edges.specs.{declared.SinkFault.TheVariants.Failed, Faults.CountsFaults}
use Rattle.io_edges.specs.{Gathering.with_room, Views.SinkView}
use Rattle.nbfx_values.specs.QuotasOf.{limits_of}
use Rattle.session_generator.specs.{Documents.documents, Summary.Summarizes}
use Rattle.session_generator.specs.Measuring.{line_of, summary_by}
use Rattle.session_generator.proofs.Measuring.{beneath, summarized, Wrote, wrote}
use Rattle.session_generator.proofs.summary.summarize.Goals as goal

pub returns : goal.returns
returns g c =
    let first = c.new-gathered.result in
    let last = c.put_summary-put.new.output in
    let answer = c.put_summary-put.result in
    let e = c.put_summary-put.ensures in
    let new = c.new-gathered.ensures in
    let line = line_of c.in-Ok.measured in
    let beneath_first : SinkView = g.O.Sink.view first.sink in
    let beneath_last : SinkView = g.O.Sink.view last.sink in
    let output : SinkView = g.O.Sink.view c.args.output in
    let result : SinkView = g.O.Sink.view c.into_sink.result in
    let w = wrote (with_room first.gathered beneath_first) (with_room last.gathered beneath_last)
    line answer e.puts e.emptied in
    let begun = subst (λ (k : SinkView). CountsFaults k.faults beneath_last.faults
    (answer ≡ Err Failed)) (ap g.O.Sink.view new.sink) e.puts.counted in
    let counted = subst (λ (k : SinkView). CountsFaults output.faults k.faults
    (answer ≡ Err Failed)) (sym (ap g.O.Sink.view c.into_sink.ensures)) begun in
    rw c.summary_by.ensures (summarized (limits_of c.args.quotas.now) c.args.statics.now
    (documents c.args.seed c.args.count) output result line answer c.in-Ok.ensures.0
    c.in-Ok.ensures.1 (beneath (Wrote line answer) beneath_first output beneath_last result
    first.gathered (ap g.O.Sink.view new.sink) new.nothing
    (ap g.O.Sink.view c.into_sink.ensures) w) counted)
