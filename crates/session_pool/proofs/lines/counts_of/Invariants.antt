use Rattle.std.specs.Prelude.{◌≡◌, map, take}
use Rattle.duplex_server.specs.declared.outcome.Outcome.{Outcome}
use Rattle.session_pool.specs.PoolLines.{added_to}
use Rattle.session_pool.proofs.lines.counts_of.Given as goal

abbrev pub invariant-loop-outcome : goal.invariant-loop-outcome
invariant-loop-outcome l =
    (l.messages ≡ added_to 0 (map (λ (o : Outcome). o.messages) (take l.outcome-index l.outcomes)))
    × (l.answers ≡ added_to 0 (map (λ (o : Outcome). o.answers) (take l.outcome-index l.outcomes)))
