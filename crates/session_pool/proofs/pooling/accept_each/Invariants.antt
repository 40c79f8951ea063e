use Rattle.std.specs.Prelude.{◌≡◌, ◌≤◌, List, length, vec_capacity, vec_len}
use Rattle.io_edges.specs.Wires.{network_at}
use Rattle.duplex_server.specs.Served.{ends_at}
use Rattle.session_pool.specs.Serving.{AreServing, Hands}
use Rattle.session_pool.proofs.pooling.accept_each.Given as goal

abbrev pub invariant-loop-number : goal.invariant-loop-number
invariant-loop-number g l =
    let r = g.W.Reader.Source in
    let w = g.W.Writer.Sink in
    (ends : List (g.row.W-Reader.Denot × g.row.W-Writer.Denot))
    × Hands (ends_at r.left r.taken r.faults r.empty_takes w.view) ends
    (network_at g.W.Wire.waiting g.W.Wire.closed g.W.Wire.out g.W.Wire.faults
    g.W.Wire.end_faults l.fn.wire)
    (network_at g.W.Wire.waiting g.W.Wire.closed g.W.Wire.out g.W.Wire.faults
    g.W.Wire.end_faults l.wire)
    × AreServing g.V.Service.served r.left r.taken r.faults r.empty_takes w.view l.fn.server
    l.fn.most ends l.turnings.items
    × (length ends ≡ l._number) × (vec_len l.turnings ≡ l._number)
    × (l.fn.connections ≤ vec_capacity l.turnings)
    × (g.W.Wire.faults l.wire ≡ g.W.Wire.faults l.fn.wire)
