use Rattle.worker_thread.proofs.Relays.{gets}
use Rattle.worker_thread.proofs.working.next_job.Goals as goal

pub try_recv_as-requires-clause-rule : goal.try_recv_as-requires-clause-rule
try_recv_as-requires-clause-rule g c = (gets _ _ c.requires.1, λ _ _ _ _. tt)
