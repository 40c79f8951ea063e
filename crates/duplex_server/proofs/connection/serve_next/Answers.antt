use Rattle.std.proofs.Common.{ℕ, List, Option, refl}
use Rattle.io_edges.specs.Wires.{Network, network_at}
use Rattle.stream_reader.specs.Sides.{endpoint_of}
use Rattle.duplex_server.specs.{ServerStream.Answering, ServerStream.answering, Served.ends_at}
use Rattle.duplex_server.proofs.{Meeting.met, Turns.serves_one, connection.serve_next.Given.Over}
use Rattle.duplex_server.proofs.connection.serve_next.Goals as goal

module _ (g : Over) where
  abbrev seen : g.row.W.Denot → Network g.row.W-Reader.Denot g.row.W-Writer.Denot
  seen wire = network_at g.W.Wire.waiting g.W.Wire.closed g.W.Wire.out g.W.Wire.faults
      g.W.Wire.end_faults wire

pub returns : goal.returns
returns g c =
    let s = c.args.server.now in
    let r = g.W.Reader.Source in
    let w = g.W.Writer.Sink in
    let x : Answering = answering (g.V.Service.served s.service.now) s.statics.now
    s.quotas.now in
    let endpoint : Option (List ℕ) = endpoint_of s.endpoint.now in
    let a = c.in_ok-ends.ensures in
    let found = c.in-Some.is in
    let first = c.in-Some.ends in
    let served = c.serve_two-reader in
    let last : g.row.W-Reader.Denot × g.row.W-Writer.Denot = (served.result.1, served.result.2) in
    let outcome = served.result.0 in
    let closed = c.close.ensures in (
      met (ends_at r.left r.taken r.faults r.empty_takes w.view) first last outcome,
      refl,
      serves_one x endpoint r.left r.taken r.faults r.empty_takes w.view first last outcome
          served.ensures.served (seen g c.args.wire.now)
          (seen g c.accept.new.self) (seen g c.close.new.self) (rw found at a.handed)
          (rw found at a.out) (rw found at a.reader) (rw found at a.writer)
          (a.counted.same (λ e. cc)) a.ended closed.closed closed.out closed.waiting
          closed.counted closed.faults,
    )
