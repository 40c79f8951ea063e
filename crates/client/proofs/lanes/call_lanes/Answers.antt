use Rattle.std.proofs.Common.{List, sym, refl, ap, ◌∙◌, subst}
use Rattle.stream_loop.specs.Edges.{Input, input_at}
use Rattle.two_lanes.specs.{declared.jobs.Lane.Lane, Merges.merge, Merges.tags_of}
use Rattle.two_lanes.proofs.Naming.{some_order}
use Rattle.client.specs.declared.{settings.CallSettings.CallSettings}
use Rattle.client.specs.declared.outcome.CallOutcome.{CallOutcome}
use Rattle.client.specs.{Answering.reads_by, Called.KnownCall, Sent.sending_by}
use Rattle.client.proofs.{Begun.knows_behind, lanes.call_lanes.Given.Over}
use Rattle.client.proofs.lanes.call_lanes.Goals as goal

module _ (g : Over) where
  abbrev input_of : g.row.S.Denot → Input
  input_of source = input_at g.S.Source.left g.S.Source.taken g.S.Source.faults
      g.S.Source.empty_takes source

pub exchange-owned-requires-clause-come : goal.exchange-owned-requires-clause-come
exchange-owned-requires-clause-come g c κs within =
    let a = c.args in
    let s : CallSettings = record {
      statics = a.statics;
      quotas = a.quotas.now;
      mode = a.mode;
      encoding = a.encoding;
    } in
    let has = c.in-Ok.ensures.begun in
    (reads_by s, input_of g a.source, a.output, has.read, has.come)

-- the call was over before the Ack
pub returns-in-Err : goal.returns-in-Err
returns-in-Err g c =
    let a = c.args in
    let s : CallSettings = record {
      statics = a.statics;
      quotas = a.quotas.now;
      mode = a.mode;
      encoding = a.encoding;
    } in
    let f = c.begin_call-begun in
    let over = c.in-Err.ensures.over in
    let w = c.with_tags.ensures in
    let some = some_order a.a.now a.b.now in
    let order = tags_of some.0 in
    let x = sending_by s (merge a.a.now a.b.now order) in
    let sent = ap (λ (v : CallOutcome). v.sent) w.outcome ∙ over.none in record {
      calls = record {
        order = order;
        all = some.1.all_tagged;
        tags_are = rw (w.tags, c.new.ensures.items, sent) (refl {A = List Lane});
        calls = subst (λ (v : CallOutcome). KnownCall x a.via.now (input_of g a.source)
            (input_of g f.new.source) (g.K.Sink.view a.sink) (g.K.Sink.view f.new.sink)
            (g.O.Sink.view a.output) (g.O.Sink.view f.new.output) v) (sym w.outcome)
            (over.known (merge a.a.now a.b.now order));
      };
      ended = λ not. c.in-Err.ensures.ended
          (λ is. not (ap (λ (v : CallOutcome). v.outbound) w.outcome ∙ is));
    }

-- the documents of both lists were sent
pub returns : goal.returns
returns g c =
    let a = c.args in
    let s : CallSettings = record {
      statics = a.statics;
      quotas = a.quotas.now;
      mode = a.mode;
      encoding = a.encoding;
    } in
    let i = input_of g a.source in
    let output = g.O.Sink.view a.output in
    let f = c.begin_call-begun in
    let has = c.in-Ok.ensures.begun in
    let b = c.exchange-owned in
    let n = b.ensures in
    let q = b.result.0 in
    let d = c.close_call-called in
    let e = d.ensures in
    let w = c.with_tags-2.ensures in
    let tags = b.result.3 in
    let m = n.sends in
    let documents = merge a.a.now a.b.now m.order in
    let count = e.sent ∙ c.len-sent.ensures ∙ tags.ok.0 in
    let sent = ap (λ (v : CallOutcome). v.sent) w.outcome ∙ count in
    let k = knows_behind s a.via.now documents i (input_of g f.new.source) (input_of g q.source)
    (g.K.Sink.view a.sink) (g.K.Sink.view f.new.sink) (g.K.Sink.view b.result.2) output
    (g.O.Sink.view f.new.output) (g.O.Sink.view q.output) (g.O.Sink.view d.new.output)
    c.in-Ok.reader q.reader b.result.1 d.result has
    (n.followed (reads_by s) i a.output has.read has.come) n.counted e.closed e.inbound
    (λ start before puts flushed. rw (e.outbound, count) (m.sends c.requires.admitted start before
    puts flushed)) in record {
      calls = record {
        order = m.order;
        all = m.all;
        tags_are = rw (w.tags, sent) (m.tags_are c.requires.admitted);
        calls = subst (λ (v : CallOutcome). KnownCall (sending_by s documents) a.via.now i
            (input_of g q.source) (g.K.Sink.view a.sink) (g.K.Sink.view b.result.2) output
            (g.O.Sink.view d.new.output) v) (sym w.outcome) k;
      };
      ended = λ not. n.ended;
    }
