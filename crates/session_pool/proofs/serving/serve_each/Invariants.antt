use Rattle.std.specs.Prelude.{◌≡◌, ◌≤◌, length, vec_capacity}
use Rattle.stream_reader.specs.Sides.{endpoint_of}
use Rattle.stream_loop.specs.Edges.{input_at}
use Rattle.duplex_server.specs.ServerStream.{answering}
use Rattle.session_pool.specs.SoFar.{IsSoFar}
use Rattle.session_pool.proofs.serving.serve_each.Given as goal

abbrev pub invariant-loop-number : goal.invariant-loop-number
invariant-loop-number g l =
    let r = g.S.Source in
    let s = l.fn.server in
    IsSoFar (answering (g.V.Service.served s.service.now) s.statics.now s.quotas.now)
    (endpoint_of s.endpoint.now) (input_at r.left r.taken r.faults r.empty_takes l.fn.source)
    (input_at r.left r.taken r.faults r.empty_takes l.source) (g.K.Sink.view l.fn.sink)
    (g.K.Sink.view l.sink) l.carry l.outcomes.items
    × (length l.outcomes.items ≡ l._number)
    × (l.fn.most ≤ vec_capacity l.outcomes)
    × (g.K.Sink.ended l.sink ≡ g.K.Sink.ended l.fn.sink)
