use Rattle.std.proofs.Common.{ap}
use Rattle.worker_thread.proofs.Relays.{begins, forks}
use Rattle.worker_thread.proofs.channel.job_channel.Goals as goal

pub bounded_with-requires-clause-rule : goal.bounded_with-requires-clause-rule
bounded_with-requires-clause-rule g c = begins

pub another-taken-requires-clause-rule : goal.another-taken-requires-clause-rule
another-taken-requires-clause-rule g c = forks _ _ (ap (λ v. v.sends) c.in-Ok.ensures.3)
    (ap (λ v. v.takes) c.in-Ok.ensures.3)
