use Rattle.std.specs.Prelude.{◌≤◌, ◌+◌}
use Rattle.io_edges.proofs.tcp_wire.tried_again.Given as goal

abbrev pub invariant-loop-tried : goal.invariant-loop-tried
invariant-loop-tried g l =
    (l.fn.retried ≤ l.retried) × (l.retried ≤ l.fn.retried + l.tried)
