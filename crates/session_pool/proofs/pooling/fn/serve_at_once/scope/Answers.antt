use Rattle.std.proofs.Common.{sym, refl, subst, arith}
use Rattle.io_edges.specs.Wires.{Network, network_at}
use Rattle.session_pool.specs.{declared.pooling.PoolReport.PoolReport, Serving.Closes}
use Rattle.session_pool.proofs.Pooled.{pools_all}
use Rattle.session_pool.proofs.pooling.fn.serve_at_once.scope.Given.{Over}
use Rattle.session_pool.proofs.pooling.fn.serve_at_once.scope.Goals as goal

module _ (g : Over) where
  abbrev seen_at : g.row.W.Denot → Network g.row.W-Reader.Denot g.row.W-Writer.Denot
  seen_at wire = network_at g.W.Wire.waiting g.W.Wire.closed g.W.Wire.out g.W.Wire.faults
      g.W.Wire.end_faults wire

pub returns : goal.returns
returns g c =
    let r = g.W.Reader.Source in
    let server = c.captures.server.now in
    let stopped = c.accept_each-stopped in
    let first = seen_at g c.captures.wire.now in
    let mid = seen_at g stopped.new.wire in
    let last = seen_at g c.close_each.new.wire in
    let report : PoolReport = record { turns = c.from_vec.result; wire = stopped.result } in
    let a = stopped.ensures.accepts in
    let out = a.hands.out in
    let size = stopped.ensures.size.1 in
    let closes = c.close_each.ensures server c.captures.most a.ends
    (g.W.Wire.closed c.captures.wire.now) a.serving a.hands.new a.hands.closed
    (omega (arith, out, size)) in (
      refl,
      pools_all g.V.Service.served r.left r.taken r.faults r.empty_takes g.W.Writer.Sink.view server
          c.captures.most c.captures.connections first mid last stopped.new.turnings.items report a
          (subst (Closes g.V.Service.served r.left r.taken r.faults r.empty_takes
          g.W.Writer.Sink.view server c.captures.most a.ends
          (g.W.Wire.closed c.captures.wire.now) mid last) (sym c.from_vec.ensures) closes),
      tt,
    )
