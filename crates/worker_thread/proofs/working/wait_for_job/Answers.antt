use Rattle.std.proofs.Common.{ap, ◌∙◌}
use Rattle.worker_thread.proofs.Relays.{gets}
use Rattle.worker_thread.proofs.working.wait_for_job.Goals as goal

pub try_recv_as-requires-clause-rule : goal.try_recv_as-requires-clause-rule
try_recv_as-requires-clause-rule g c =
    (gets _ _ (ap (λ v. v.takes) c.loop.invariant.1 ∙ c.requires.seat.1), λ _ _ _ _. tt)

pub recv_as-requires-clause-rule : goal.recv_as-requires-clause-rule
recv_as-requires-clause-rule g c =
    (gets _ _ (ap (λ v. v.takes) c.loop.invariant.1 ∙ c.requires.seat.1), λ _ _ _ _. tt)
