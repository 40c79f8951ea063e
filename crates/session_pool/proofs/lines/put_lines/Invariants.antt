use Rattle.std.specs.Prelude.{◌≡◌, Ok, take}
use Rattle.io_edges.specs.Puts.{Puts}
use Rattle.session_pool.specs.PoolLines.{pool_lines}
use Rattle.session_pool.proofs.lines.put_lines.Given as goal

abbrev pub invariant-loop-turns : goal.invariant-loop-turns
invariant-loop-turns g l =
    Puts (g.K.Sink.view l.fn.output) (g.K.Sink.view l.output)
    (pool_lines 0 (take l.turns-index l.list)) (Ok tt)
    × (l.number ≡ l.turns-index)
