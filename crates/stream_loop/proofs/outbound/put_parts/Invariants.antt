use Rattle.std.proofs.Common.{◌≡◌, ◌≤◌, ◌-◌, length, take, Ok}
use Rattle.io_edges.specs.Puts.{Puts}
use Rattle.stream_loop.proofs.outbound.put_parts.Given as goal

abbrev pub invariant-loop-at : goal.invariant-loop-at
invariant-loop-at g l = (l.at ≤ length l.bytes)
    × Puts (g.K.Sink.view l.fn.sink) (g.K.Sink.view l.sink)
    (take l.at l.bytes) (Ok tt)
    × (g.K.Sink.ended l.sink ≡ g.K.Sink.ended l.fn.sink)

abbrev pub decreases-loop-at : goal.decreases-loop-at
decreases-loop-at g l = length l.bytes - l.at
