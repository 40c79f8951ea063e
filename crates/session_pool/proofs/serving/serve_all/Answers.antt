use Rattle.std.proofs.Common.{◌∙◌}
use Rattle.stream_reader.specs.Sides.{endpoint_of}
use Rattle.stream_loop.specs.Edges.{input_at}
use Rattle.duplex_server.specs.ServerStream.{answering}
use Rattle.session_pool.proofs.Along.{no_memory}
use Rattle.session_pool.proofs.serving.serve_all.Goals as goal

pub returns-in_default-clause-served : goal.returns-in_default-clause-served
returns-in_default-clause-served g c =
    let r = g.S.Source in
    let s = c.args.server.now in
    no_memory (answering (g.V.Service.served s.service.now) s.statics.now s.quotas.now)
    (endpoint_of s.endpoint.now) c.args.most
    (input_at r.left r.taken r.faults r.empty_takes c.args.source) (g.K.Sink.view c.args.sink)
    c.turns.result (c.turns.ensures.outcomes ∙ c.new.ensures.items) c.turns.ensures.end

pub returns-in_default-new-clause-served : goal.returns-in_default-new-clause-served
returns-in_default-new-clause-served g c =
    let r = g.S.Source in
    let s = c.args.server.now in
    no_memory (answering (g.V.Service.served s.service.now) s.statics.now s.quotas.now)
    (endpoint_of s.endpoint.now) c.args.most
    (input_at r.left r.taken r.faults r.empty_takes c.args.source) (g.K.Sink.view c.args.sink)
    c.turns-in_default-new.result
    (c.turns-in_default-new.ensures.outcomes ∙ c.in-Ok.ensures.items)
    c.turns-in_default-new.ensures.end
