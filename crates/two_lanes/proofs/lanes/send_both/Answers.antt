use Rattle.std.proofs.Common.{ap}
use Rattle.two_lanes.specs.Jobs.{is_known}
use Rattle.two_lanes.proofs.Rule.{forks_lanes, merges_lanes}
use Rattle.two_lanes.proofs.lanes.send_both.Goals as goal

pub another-theirs-requires-clause-rule : goal.another-theirs-requires-clause-rule
another-theirs-requires-clause-rule g c = forks_lanes _ _ (ap (λ v. is_known v.b) c.requires.seat.1)

pub absorb-requires-clause-rule : goal.absorb-requires-clause-rule
absorb-requires-clause-rule g c =
    merges_lanes _ _ _ _ (ap (λ v. is_known v.b) c.scoped-pass.ensures.1.3)
