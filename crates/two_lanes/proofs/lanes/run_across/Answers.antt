use Rattle.std.proofs.Common.{ap}
use Rattle.two_lanes.specs.Jobs.{is_known}
use Rattle.two_lanes.proofs.Rule.{forks_working}
use Rattle.two_lanes.proofs.lanes.run_across.Goals as goal

pub another-theirs-requires-clause-rule : goal.another-theirs-requires-clause-rule
another-theirs-requires-clause-rule g c = forks_working _ _
    (ap (λ v. is_known v.got) c.requires.seat.2)
