use Rattle.std.proofs.Common.{◌≡◌, []}
use Rattle.crossbeam_channel.specs.Claims.{view, IsSeatAt}
use Rattle.crossbeam_channel.specs.Ends.{receives_on}
use Rattle.two_lanes.proofs.Taking.{Going}
use Rattle.two_lanes.proofs.working.work_on.Given as goal

abbrev pub invariant-loop : goal.invariant-loop
invariant-loop g l =
    IsSeatAt (receives_on l.from) l.pass
    × Going g.W.LaneWorker.did g.W.LaneWorker.finished (view l.pass) l.over l.initial.worker
    l.worker × (l.waiting.items ≡ [])
