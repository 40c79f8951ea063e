use Rattle.std.proofs.Common.{◌≡◌, true, false, []}
use Rattle.crossbeam_channel.specs.Claims.{view, IsSeatAt}
use Rattle.crossbeam_channel.specs.Ends.{receives_on}
use Rattle.worker_thread.specs.Crossing.{log}
use Rattle.worker_thread.specs.Jobs.{AreFirst}
use Rattle.worker_thread.proofs.working.work_on.Given as goal

abbrev pub invariant-loop : goal.invariant-loop
invariant-loop g l =
    IsSeatAt (receives_on l.from) l.pass
    × (view l.pass ≡ log false true [] (view l.pass).taken)
    × AreFirst g.W.Worker.is_last (view l.pass).taken
    × g.W.Worker.did l.initial.worker (view l.pass).taken l.worker
