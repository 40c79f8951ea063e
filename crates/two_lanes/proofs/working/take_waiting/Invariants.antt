use Rattle.std.proofs.Common.{◌≡◌, ◌++◌, None, Some}
use Rattle.crossbeam_channel.specs.Claims.{view, IsSeatAt}
use Rattle.crossbeam_channel.specs.Ends.{receives_on}
use Rattle.two_lanes.specs.Jobs.{known, log}
use Rattle.two_lanes.proofs.working.take_waiting.Given as goal

abbrev pub invariant-loop : goal.invariant-loop
invariant-loop g l =
    IsSeatAt (receives_on l.from) l.pass
    × (view l.pass ≡ log None None (Some (known (view l.initial.pass).got ++ l.jobs.items)))
