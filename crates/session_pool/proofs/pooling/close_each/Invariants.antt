use Rattle.std.specs.Prelude.{◌≡◌, ℕ, ◌+◌, ◌≤◌, All, List, ◌++◌, length, Option, vec_capacity}
use Rattle.std.specs.Prelude.{vec_len}
use Rattle.std.specs.Vec.Iter.{into_iter_items, into_iter_len}
use Rattle.io_edges.specs.Wires.{network_at}
use Rattle.stream_loop.specs.Edges.{AreNew, input_at}
use Rattle.duplex_server.specs.declared.connection.Server.{Server}
use Rattle.session_pool.specs.Serving.{AreServing, Closes}
use Rattle.session_pool.proofs.pooling.close_each.Given as goal

abbrev pub invariant-loop-turning : goal.invariant-loop-turning
invariant-loop-turning g l =
    let r = g.W.Reader.Source in
    let w = g.W.Writer.Sink in
    ((server : Server g.row.V.Denot) (most : ℕ)
    (ends : List (g.row.W-Reader.Denot × g.row.W-Writer.Denot))
    (told : Option (List (List ℕ × List ℕ)))
    → AreServing g.V.Service.served r.left r.taken r.faults r.empty_takes w.view server most ends
    l.fn.turnings.items
    → All (λ (one : g.row.W-Reader.Denot × g.row.W-Writer.Denot). AreNew told
    (input_at r.left r.taken r.faults r.empty_takes one.0) (w.view one.1)) ends
    → g.W.Wire.closed l.fn.wire ≡ told → length ends ≡ vec_len l.fn.turnings
    → (done : List (g.row.W-Reader.Denot × g.row.W-Writer.Denot))
    × (rest : List (g.row.W-Reader.Denot × g.row.W-Writer.Denot)) × (ends ≡ done ++ rest)
    × AreServing g.V.Service.served r.left r.taken r.faults r.empty_takes w.view server most rest
    (into_iter_items l.turning-iterator)
    × (length rest ≡ into_iter_len l.turning-iterator)
    × Closes g.V.Service.served r.left r.taken r.faults r.empty_takes w.view server most done told
    (network_at g.W.Wire.waiting g.W.Wire.closed g.W.Wire.out g.W.Wire.faults
    g.W.Wire.end_faults l.fn.wire)
    (network_at g.W.Wire.waiting g.W.Wire.closed g.W.Wire.out g.W.Wire.faults
    g.W.Wire.end_faults l.wire) l.list.items)
    × (vec_len l.list + into_iter_len l.turning-iterator ≤ vec_capacity l.list)
    × (into_iter_len l.turning-iterator ≤ g.W.Wire.out l.wire)
