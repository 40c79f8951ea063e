use Rattle.stream_loop.specs.Edges.{Input, input_at}
use Rattle.client.specs.declared.settings.CallSettings.{CallSettings}
use Rattle.client.specs.{Answering.reads_by}
use Rattle.client.proofs.{Begun.knows_behind, calling.call_one.Given.Over}
use Rattle.client.proofs.calling.call_one.Goals as goal

module _ (g : Over) where
  abbrev input_of : g.row.S.Denot → Input
  input_of source = input_at g.S.Source.left g.S.Source.taken g.S.Source.faults
      g.S.Source.empty_takes source

pub read_behind-reader-requires-clause-come : goal.read_behind-reader-requires-clause-come
read_behind-reader-requires-clause-come g c =
    let a = c.args in
    let s : CallSettings = record {
      statics = a.statics;
      quotas = a.quotas.now;
      mode = a.mode;
      encoding = a.encoding;
    } in
    let has = c.in-Ok.ensures.begun in
    (reads_by s, input_of g a.source.now, a.output.now, has.read, has.come)

-- the call was over before the Ack
pub returns-in-Err : goal.returns-in-Err
returns-in-Err g c = record {
  called = c.in-Err.ensures.over.known c.args.docs.now;
  ended = c.in-Err.ensures.ended;
}

-- the documents were sent
pub returns : goal.returns
returns g c =
    let a = c.args in
    let s : CallSettings = record {
      statics = a.statics;
      quotas = a.quotas.now;
      mode = a.mode;
      encoding = a.encoding;
    } in
    let i = input_of g a.source.now in
    let output = g.O.Sink.view a.output.now in
    let f = c.begin_call in
    let has = c.in-Ok.ensures.begun in
    let d = c.send_list-sent in
    let b = c.read_behind-reader in
    let e = c.close_call.ensures in
    record {
      called = knows_behind s a.via.now a.docs.now i (input_of g f.new.source)
          (input_of g b.new.source) (g.K.Sink.view a.sink.now) (g.K.Sink.view f.new.sink)
          (g.K.Sink.view d.new.sink) output (g.O.Sink.view f.new.output) (g.O.Sink.view b.new.output)
          (g.O.Sink.view c.close_call.new.output) c.in-Ok.reader b.result.0 b.result.1
          c.close_call.result has
          (b.ensures.followed (reads_by s) i a.output.now has.read has.come) b.ensures.counted e.closed
          e.inbound (λ start before puts flushed. rw (e.outbound, e.sent) (d.ensures.sends start before
          puts flushed));
      ended = λ not. d.ensures.ended;
    }
