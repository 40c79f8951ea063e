use Rattle.stream_loop.specs.Edges.{input_at}
use Rattle.stream_reader.specs.Sides.{endpoint_of}
use Rattle.duplex_server.{specs.ServerStream.answering, proofs.Outcomes.replayed}
use Rattle.duplex_server.proofs.replaying.replay_stream.Goals as goal

pub returns : goal.returns
returns g c =
    let x = answering (g.V.Service.served c.args.service.now) c.args.statics.now
    c.args.quotas.now in
    let i = input_at g.I.Source.left g.I.Source.taken g.I.Source.faults g.I.Source.empty_takes
    c.args.input in
    let i' = input_at g.I.Source.left g.I.Source.taken g.I.Source.faults g.I.Source.empty_takes
    c.serve_two-input.result.1 in
    replayed x (endpoint_of c.args.endpoint.now) i i' (g.O.Sink.view c.args.output)
    (g.O.Sink.view c.serve_two-input.result.2)
    c.serve_two-input.result.0 c.serve_two-input.ensures.served
