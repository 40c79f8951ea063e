use Rattle.{std.proofs.Common.◌≡◌, io_edges.specs.Wires.network_at}
use Rattle.stream_reader.specs.Sides.{endpoint_of}
use Rattle.duplex_server.specs.{Along.IsAlong, ServerStream.answering, Served.ends_at}
use Rattle.duplex_server.proofs.connections.serve_each.Given as goal

abbrev pub invariant-loop-number : goal.invariant-loop-number
invariant-loop-number g l =
    let r = g.W.Reader.Source in
    let w = g.W.Writer.Sink in
    IsAlong (answering (g.V.Service.served l.fn.server.service.now) l.fn.server.statics.now
    l.fn.server.quotas.now) (endpoint_of l.fn.server.endpoint.now)
    (ends_at r.left r.taken r.faults r.empty_takes w.view)
    (network_at g.W.Wire.waiting g.W.Wire.closed g.W.Wire.out g.W.Wire.faults
    g.W.Wire.end_faults l.fn.wire)
    (network_at g.W.Wire.waiting g.W.Wire.closed g.W.Wire.out g.W.Wire.faults
    g.W.Wire.end_faults l.wire) (g.O.Sink.view l.fn.output) (g.O.Sink.view l.output)
    (l.output ≡ l.fn.output) l.number
    × ((g.O.Sink.view l.output).may_run_out ≡ (g.O.Sink.view l.fn.output).may_run_out)
