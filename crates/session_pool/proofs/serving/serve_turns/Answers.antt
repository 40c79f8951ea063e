use Rattle.stream_reader.specs.Sides.{endpoint_of}
use Rattle.stream_loop.specs.Edges.{input_at}
use Rattle.duplex_server.specs.ServerStream.{answering}
use Rattle.session_pool.proofs.Owing.{turns_write}
use Rattle.session_pool.proofs.serving.serve_turns.Goals as goal

pub returns-clause-written : goal.returns-clause-written
returns-clause-written g c = λ bytes w left told.
    let r = g.S.Source in
    turns_write (answering (g.V.Service.served c.args.service.now) c.args.statics.now
    c.args.quotas.now) (endpoint_of c.args.endpoint.now) c.args.most
    (input_at r.left r.taken r.faults r.empty_takes c.args.source)
    (input_at r.left r.taken r.faults r.empty_takes c.serve_all.result.1)
    (g.K.Sink.view c.args.sink) (g.K.Sink.view c.serve_all.result.2) c.serve_all.result.0
    c.serve_all.ensures.served bytes w left told
