use Rattle.std.proofs.Common.{ap, sym, subst, take}
use Rattle.io_edges.specs.Views.{SinkView}
use Rattle.stream_loop.specs.Edges.{input_at}
use Rattle.two_lanes.specs.Merges.{merge}
use Rattle.client.specs.declared.outcome.CallOutcome.{CallOutcome}
use Rattle.client.specs.{Lanes.outcome_of, Peers.CallsPeer, Sent.sending_by, Tags.sent_line}
use Rattle.client.proofs.{Assembling.peer_called, Gathered.beneath}
use Rattle.client.proofs.peers.call_gathered.Goals as goal

pub returns : goal.returns
returns g c =
    let a = c.args.call in
    let p = c.call_lanes-outcome in
    let m = p.ensures.calls in
    let n = m.calls in
    let called = p.result.0 in
    let f = c.finish_report-finished in
    let first = c.new-report.result in
    let last = f.new.output in
    let s = g.S.Source in
    let view = g.O.Sink.view in
    let x = sending_by a.settings (merge a.a.now a.b.now m.order) in
    let line = sent_line (take called.sent m.order) in
    let i = input_at s.left s.taken s.faults s.empty_takes c.args.source in
    let i' = input_at s.left s.taken s.faults s.empty_takes p.result.1 in
    let k = g.K.Sink.view c.args.sink in
    let k' = g.K.Sink.view p.result.2 in
    let via = a.via.now in
    let done : CallOutcome = record {
      sent = called.sent;
      inbound = called.inbound;
      outbound = called.outbound;
      report = f.result;
    } in
    let fin = rw m.tags_are at f.ensures in
    let peer = peer_called x via line i i' k k' _ _ _ (outcome_of called) f.result n fin in record {
      order = m.order;
      all = m.all;
      calls = subst (λ (o : SinkView). CallsPeer x via line i i' k k' o
          (view c.into_sink.result) done) (ap view c.new-report.ensures.sink)
          (subst (λ (o : SinkView). CallsPeer x via line i i' k k' (view first.sink) o done)
          (ap view (sym c.into_sink.ensures))
          (beneath x via line i i' k k' done (view first.sink) (view last.sink) first.gathered
          last.gathered c.new-report.ensures.nothing peer));
    }
