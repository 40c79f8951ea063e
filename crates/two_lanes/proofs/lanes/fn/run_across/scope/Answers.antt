use Rattle.std.proofs.Common.{ap}
use Rattle.crossbeam_channel.specs.Claims.{view}
use Rattle.two_lanes.proofs.Joining.{back_done}
use Rattle.two_lanes.proofs.lanes.fn.run_across.scope.Goals as goal

pub run_behind-done-requires : goal.run_behind-done-requires
run_behind-done-requires g c =
    let done = back_done g.W.LaneWorker.did g.W.LaneWorker.finished c.captures.a c.captures.b
    (view c.spawn_with-theirs.result.0) c.captures.worker c.in-Err.refused.value.4
    c.spawn_with-theirs.result.1 c.work_alone.new.worker c.spawn_with-theirs.ensures.1
    c.take_in_back.ensures (ap (λ f. f.4) c.in-Err.ensures.err) c.work_alone.ensures in
    record { finished = (c.captures.worker, done.0, done.2); may_run = c.requires.7 }

pub returns-in-Err : goal.returns-in-Err
returns-in-Err g c = (
  back_done g.W.LaneWorker.did g.W.LaneWorker.finished c.captures.a c.captures.b
      (view c.spawn_with-theirs.result.0) c.captures.worker c.in-Err.refused.value.4
      c.spawn_with-theirs.result.1 c.work_alone.new.worker c.spawn_with-theirs.ensures.1
      c.take_in_back.ensures (ap (λ f. f.4) c.in-Err.ensures.err) c.work_alone.ensures,
  c.run_behind-done.ensures.ran,
)
