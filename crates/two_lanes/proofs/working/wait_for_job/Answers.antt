use Rattle.std.proofs.Common.{ap, ◌∙◌}
use Rattle.crossbeam_channel.specs.Claims.{view}
use Rattle.two_lanes.proofs.Rule.{gets}
use Rattle.two_lanes.proofs.Taking.{may_take}
use Rattle.two_lanes.specs.Jobs.{is_known}
use Rattle.two_lanes.proofs.working.wait_for_job.Goals as goal

pub try_recv_as-requires-clause-rule : goal.try_recv_as-requires-clause-rule
try_recv_as-requires-clause-rule g c = (
  gets _ _ (ap (λ v. is_known v.got) c.loop.invariant.1
      ∙ may_take (view c.args.pass.now) c.requires.seat.1),
  λ _ _ _ _. tt,
)

pub recv_as-requires-clause-rule : goal.recv_as-requires-clause-rule
recv_as-requires-clause-rule g c = (
  gets _ _ (ap (λ v. is_known v.got) c.loop.invariant.1
      ∙ may_take (view c.args.pass.now) c.requires.seat.1),
  λ _ _ _ _. tt,
)
