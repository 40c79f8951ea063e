use Rattle.std.proofs.Common.{refl}
use Rattle.client.proofs.{LaneDone.sends_lanes, LaneWriting.unwritten}
use Rattle.client.proofs.lanes.exchange.Goals as goal

pub run_lanes-sent-requires-clause-begins : goal.run_lanes-sent-requires-clause-begins
run_lanes-sent-requires-clause-begins g c κs within = record {
  settings = refl;
  first_is = refl;
  second_is = refl;
  writing = unwritten (g.K.Sink.view c.args.sink) c.new.result c.new.ensures.unwritten;
}

pub returns-clause-sends : goal.returns-clause-sends
returns-clause-sends g c =
    let a = c.args in
    let f = c.run_lanes-sent.ensures.finished in
    let o = c.into_outcome-tags.ensures in
    rw (o.tags, o.outbound) (sends_lanes g.K.Sink.view a.settings a.a.now a.b.now c.len.result
    c.len-2.result (g.K.Sink.view a.sink)
    (record { a = a.a; b = a.b; writer = c.new.result; sink = a.sink })
    c.run_lanes-sent.result.0 f.0 c.new.ensures.settings refl refl refl c.len.ensures
    c.len-2.ensures f.1 f.2.0)
