use Rattle.crossbeam_channel.specs.Claims.{view}
use Rattle.two_lanes.proofs.Rule.{gets}
use Rattle.two_lanes.proofs.Taking.{may_take}
use Rattle.two_lanes.proofs.working.next_job.Goals as goal

pub try_recv_as-requires-clause-rule : goal.try_recv_as-requires-clause-rule
try_recv_as-requires-clause-rule g c =
    (gets _ _ (may_take (view c.args.pass.now) c.requires.1), λ _ _ _ _. tt)
