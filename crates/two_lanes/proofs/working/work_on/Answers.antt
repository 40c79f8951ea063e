use Rattle.crossbeam_channel.specs.Claims.{view}
use Rattle.two_lanes.proofs.Taking.{takes_still}
use Rattle.two_lanes.proofs.working.work_on.Goals as goal

pub take_waiting-requires-clause-seat : goal.take_waiting-requires-clause-seat
take_waiting-requires-clause-seat g c = (
  c.next_job.ensures.seat,
  takes_still (view c.loop.pass) (view c.next_job.new.pass) c.in-Some-next_job.job
      c.loop.invariant.1.view c.in-Some-next_job.ensures.taken,
)
