use Rattle.std.proofs.Common.{ap, ◌∙◌}
use Rattle.worker_thread.proofs.Relays.{sends}
use Rattle.worker_thread.proofs.sender.send_job.Goals as goal

pub send_as-requires-clause-rule : goal.send_as-requires-clause-rule
send_as-requires-clause-rule g c =
    (sends _ _ _ _ (ap (λ v. v.sends) c.loop.invariant.1 ∙ c.requires.1), λ _ _ _ _. tt)
