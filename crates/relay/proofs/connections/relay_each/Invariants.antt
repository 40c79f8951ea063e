use Rattle.{std.proofs.Common.◌≡◌, io_edges.specs.Wires.network_at}
use Rattle.relay.specs.{Along.IsAlong, Connections.ends_at, Opening.relay_by}
use Rattle.relay.proofs.connections.relay_each.Given as goal

abbrev pub invariant-loop-number : goal.invariant-loop-number
invariant-loop-number g l =
    let r = g.W.Reader.Source in
    let w = g.W.Writer.Sink in
    IsAlong (relay_by l.fn.settings) (ends_at r.left r.taken r.faults r.empty_takes w.view)
    (network_at g.W.Wire.waiting g.W.Wire.closed g.W.Wire.out g.W.Wire.faults
    g.W.Wire.end_faults l.fn.wire)
    (network_at g.W.Wire.waiting g.W.Wire.closed g.W.Wire.out g.W.Wire.faults
    g.W.Wire.end_faults l.wire) (g.O.Sink.view l.fn.output) (g.O.Sink.view l.output)
    (l.output ≡ l.fn.output) l.number
    × (g.W.Wire.out l.wire ≡ g.W.Wire.out l.fn.wire)
