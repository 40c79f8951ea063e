use Rattle.stream_reader.specs.Sides.{endpoint_of}
use Rattle.stream_loop.specs.Edges.{Input, input_at}
use Rattle.duplex_server.specs.ServerStream.{answering}
use Rattle.duplex_server.proofs.{Keeping.known, beside.serve_kept.Given.Over}
use Rattle.duplex_server.proofs.beside.serve_kept.Goals as goal

module _ (g : Over) where
  abbrev input_of : g.row.S.Denot → Input
  input_of source = input_at g.S.Source.left g.S.Source.taken g.S.Source.faults
      g.S.Source.empty_takes source

pub returns-in_default-clause-judged : goal.returns-in_default-clause-judged
returns-in_default-clause-judged g c =
    let o = c.serve_carried-outcome in
    (known (answering (g.V.Service.served c.args.service.now) c.args.statics.now c.args.quotas.now)
    (endpoint_of c.args.endpoint.now) (input_of g c.args.source) (input_of g o.new.source)
    c.args.carry o.new.buffer (g.K.Sink.view c.args.sink) (g.K.Sink.view o.new.sink) o.result
    c.carry.view_is o.ensures.serves).judged

pub returns-in_default-clause-written : goal.returns-in_default-clause-written
returns-in_default-clause-written g c =
    let o = c.serve_carried-outcome in
    (known (answering (g.V.Service.served c.args.service.now) c.args.statics.now c.args.quotas.now)
    (endpoint_of c.args.endpoint.now) (input_of g c.args.source) (input_of g o.new.source)
    c.args.carry o.new.buffer (g.K.Sink.view c.args.sink) (g.K.Sink.view o.new.sink) o.result
    c.carry.view_is o.ensures.serves).written

pub returns-clause-judged : goal.returns-clause-judged
returns-clause-judged g c =
    let o = c.serve_across-buffer in
    (known (answering (g.V.Service.served c.args.service.now) c.args.statics.now c.args.quotas.now)
    (endpoint_of c.args.endpoint.now) (input_of g c.args.source) (input_of g o.result.2)
    c.args.carry o.result.1 (g.K.Sink.view c.args.sink) (g.K.Sink.view o.result.3) o.result.0
    c.carry.view_is o.ensures.serves).judged

pub returns-clause-written : goal.returns-clause-written
returns-clause-written g c =
    let o = c.serve_across-buffer in
    (known (answering (g.V.Service.served c.args.service.now) c.args.statics.now c.args.quotas.now)
    (endpoint_of c.args.endpoint.now) (input_of g c.args.source) (input_of g o.result.2)
    c.args.carry o.result.1 (g.K.Sink.view c.args.sink) (g.K.Sink.view o.result.3) o.result.0
    c.carry.view_is o.ensures.serves).written
