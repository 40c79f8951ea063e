use Rattle.std.proofs.Common.{[], refl}
use Rattle.two_lanes.proofs.{Joining.alone_done, Rule.begins}
use Rattle.two_lanes.proofs.lanes.run_lanes.Goals as goal

pub bounded_with-requires-clause-rule : goal.bounded_with-requires-clause-rule
bounded_with-requires-clause-rule g c = begins

pub run_behind-done-requires-clause-finished : goal.run_behind-done-requires-clause-finished
run_behind-done-requires-clause-finished g c =
    let done = alone_done g.W.LaneWorker.did g.W.LaneWorker.finished c.args.a c.args.b []
    c.args.worker c.args.worker c.work_alone.new.worker refl refl c.requires.begins
    c.work_alone.ensures in
    (c.args.worker, done.0, done.2)

pub returns-in_default-clause-finished : goal.returns-in_default-clause-finished
returns-in_default-clause-finished g c =
    alone_done g.W.LaneWorker.did g.W.LaneWorker.finished c.args.a c.args.b [] c.args.worker
    c.args.worker c.work_alone.new.worker refl refl c.requires.begins c.work_alone.ensures
