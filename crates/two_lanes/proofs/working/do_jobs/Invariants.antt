use Rattle.std.proofs.Common.{◌++◌, List, take}
use Rattle.two_lanes.specs.declared.jobs.LaneJob.{LaneJob}
use Rattle.two_lanes.specs.Numbers.{IsOver}
use Rattle.two_lanes.proofs.working.do_jobs.Given as goal

abbrev pub invariant-loop-job : goal.invariant-loop-job
invariant-loop-job g l =
    ((first : g.row.W.Denot) (done : List LaneJob) → g.W.LaneWorker.did first done l.initial.worker
    → g.W.LaneWorker.did first (done ++ take l.job-index l.jobs) l.worker)
    × ((done : List LaneJob) → IsOver l.fn.before done → IsOver l.over (done ++ take l.job-index l.jobs))
