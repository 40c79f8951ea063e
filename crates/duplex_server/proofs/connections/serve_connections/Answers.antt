use Rattle.std.proofs.Common.{◌≡◌, sym, refl, ap, ◌∙◌, subst, inl, inr}
use Rattle.io_edges.specs.{Gathering.Gathering, Wires.Network, Wires.network_at}
use Rattle.stream_reader.specs.Sides.{endpoint_of}
use Rattle.duplex_server.specs.{ServerStream.answering, Served.Ends, Served.ends_at}
use Rattle.duplex_server.specs.{Served.ServesAll}
use Rattle.duplex_server.proofs.Stops.{none_served, served_under}
use Rattle.duplex_server.proofs.connections.serve_connections.Given.{Over}
use Rattle.duplex_server.proofs.connections.serve_connections.Goals as goal

module _ (g : Over) where
  abbrev seen : g.row.W.Denot → Network g.row.W-Reader.Denot g.row.W-Writer.Denot
  seen wire = network_at g.W.Wire.waiting g.W.Wire.closed g.W.Wire.out g.W.Wire.faults
      g.W.Wire.end_faults wire

  abbrev ends : g.row.W-Reader.Denot × g.row.W-Writer.Denot → Ends
  ends both = ends_at g.W.Reader.Source.left g.W.Reader.Source.taken g.W.Reader.Source.faults
      g.W.Reader.Source.empty_takes g.W.Writer.Sink.view both

pub returns-in_default-clause-served : goal.returns-in_default-clause-served
returns-in_default-clause-served g c =
    let s = c.args.server.now in
    none_served (answering (g.V.Service.served s.service.now) s.statics.now
    s.quotas.now) (endpoint_of s.endpoint.now) (ends g) c.args.connections
    (seen g c.args.wire.now) (g.O.Sink.view c.args.output) refl

pub returns-clause-served : goal.returns-clause-served
returns-clause-served g c =
    let s = c.args.server.now in
    let x = answering (g.V.Service.served s.service.now) s.statics.now s.quotas.now in
    let endpoint = endpoint_of s.endpoint.now in
    let first = c.new-lines.result in
    let run = c.serve_each-served in
    let last = run.new.output in
    let view = g.O.Sink.view in
    let n = seen g c.args.wire.now in
    let n' = seen g run.new.wire in
    let result = c.into_sink.result in
    let beneath = served_under x endpoint (ends g) c.args.connections n n' run.result
    (view first.sink) (view last.sink) first.gathered last.gathered (last ≡ first)
    (last.sink ≡ first.sink) c.new-lines.ensures.nothing
    (λ same. ap (λ (k : Gathering g.row.O.Denot). k.sink) same) (λ same. ap view same)
    run.ensures.served in
    let given = subst (λ (o : g.row.O.Denot). ServesAll x endpoint (ends g) c.args.connections n n'
    (view first.sink) (view o) (o ≡ first.sink) run.result) (sym c.into_sink.ensures) beneath in
    subst (λ (o : g.row.O.Denot). ServesAll x endpoint (ends g) c.args.connections n n' (view o)
    (view result) (result ≡ o) run.result) c.new-lines.ensures.sink given

pub returns-in_default-clause-memory : goal.returns-in_default-clause-memory
returns-in_default-clause-memory g c = λ stops. inl (refl, refl)

pub returns-clause-memory : goal.returns-clause-memory
returns-clause-memory g c = λ stops.
    inr (ap (λ (o : g.row.O.Denot). (g.O.Sink.view o).may_run_out) (sym c.new-lines.ensures.sink)
    ∙ c.serve_each-served.ensures.memory stops)
