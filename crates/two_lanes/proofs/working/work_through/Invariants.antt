use Rattle.std.proofs.Common.{◌-◌, ◌≤◌, ◌++◌, List}
use Rattle.two_lanes.specs.declared.jobs.LaneJob.{LaneJob}
use Rattle.two_lanes.specs.Jobs.{first_jobs}
use Rattle.two_lanes.proofs.working.work_through.Given as goal

abbrev pub invariant-loop-number : goal.invariant-loop-number
invariant-loop-number g l =
    ((first : g.row.W.Denot) (jobs : List LaneJob) → g.W.LaneWorker.did first jobs l.initial.worker
    → g.W.LaneWorker.did first (jobs ++ first_jobs l.fn.lane l.number) l.worker)
    × (l.number ≤ l.fn.count)

abbrev pub decreases-loop-number : goal.decreases-loop-number
decreases-loop-number g l = l.fn.count - l.number
