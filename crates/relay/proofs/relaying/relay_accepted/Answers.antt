use Rattle.std.proofs.Common.{[], refl, ◌∙◌}
use Rattle.stream_loop.specs.Edges.{Input, input_at}
use Rattle.nmf_records.specs.{declared.frame.Frame.TheVariants.PreambleAck, Writing.frame_bytes_of}
use Rattle.relay.specs.declared.beginning.Begun.TheVariants.{Accepted, Opened}
use Rattle.relay.specs.{Carried.Carrying, Relayed.back_by, Relayed.front_of, Relayed.to_back}
use Rattle.relay.specs.{Relayed.to_front, Writing.carrying_by}
use Rattle.relay.proofs.Known.{acknowledged, both_joined, both_unacknowledged, none_behind}
use Rattle.relay.proofs.Known.{unread_counted}
use Rattle.relay.proofs.relaying.relay_accepted.{Given.Over}
use Rattle.relay.proofs.relaying.relay_accepted.Goals as goal

module _ (g : Over) where
  abbrev front_at : g.row.S.Denot → Input
  front_at source = input_at g.S.Source.left g.S.Source.taken g.S.Source.faults
      g.S.Source.empty_takes source

  abbrev back_at : g.row.A.Denot → Input
  back_at source = input_at g.A.Source.left g.A.Source.taken g.A.Source.faults
      g.A.Source.empty_takes source

-- the Ack couldn't be written
pub returns-then-not-is_going-clause-follows : goal.returns-then-not-is_going-clause-follows
returns-then-not-is_going-clause-follows g c = λ x mode kind fi bi bo opened begins set.
    let fo = g.K.Sink.view c.args.front_out.now in
    let ack = frame_bytes_of PreambleAck [] in
    let o = c.open-to_front in
    let z : Carrying = carrying_by c.args.settings ack in
    let h = acknowledged x mode kind bi (back_at g c.args.back_in.now) fo
    (g.K.Sink.view o.new.sink) c.args.back begins z set o.result
    (λ events b n. o.ensures.carried ack c.preamble_ack.ensures events Accepted b n) in
    let f = c.finish-forward.ensures in
    let b = c.finish-backward.ensures in
    let forward = f.carries (to_back x mode kind) (g.B.Sink.view bo) opened.events
    opened.ready.carried in
    let backward = b.carries (to_front x mode kind) fo begins.events h in
    both_unacknowledged x fi (front_at g c.args.front_in.now) bi (back_at g c.args.back_in.now) fo
    (g.K.Sink.view c.finish-backward.new.sink) (g.B.Sink.view bo)
    (g.B.Sink.view c.finish-forward.new.sink)
    (record { forward = c.finish-forward.result; backward = c.finish-backward.result }) mode kind
    opened.events opened.begins_so opened.stops f.read forward
    (none_behind (to_back x mode kind) [] opened.events (Opened mode kind) (g.B.Sink.view bo)
    (g.B.Sink.view c.finish-forward.new.sink) c.finish-forward.result opened.begins_so forward)
    begins.events begins.begins_so begins.stops b.read
    (b.stopped (c.if-not-is_going.ensures.stopped refl)) backward
    (none_behind (to_front x mode kind) [] begins.events Accepted fo
    (g.K.Sink.view c.finish-backward.new.sink) c.finish-backward.result begins.begins_so backward)

pub returns-then-not-is_going-clause-front_reads : goal.returns-then-not-is_going-clause-front_reads
returns-then-not-is_going-clause-front_reads g c =
    unread_counted _ c.finish-forward.result.read c.finish-forward.ensures.read

pub returns-then-not-is_going-clause-back_reads : goal.returns-then-not-is_going-clause-back_reads
returns-then-not-is_going-clause-back_reads g c =
    unread_counted _ c.finish-backward.result.read c.finish-backward.ensures.read

-- it was
pub pump_both-requires-clause-forward : goal.pump_both-requires-clause-forward
pump_both-requires-clause-forward g c = λ lives outlives.
    let r = c.requires.accepted in
    (front_of r.0, r.3, to_back r.0 r.1 r.2, r.5, r.6.events, r.6.ready)

pub pump_both-requires-clause-backward : goal.pump_both-requires-clause-backward
pump_both-requires-clause-backward g c = λ lives outlives.
    let r = c.requires.accepted in
    let ack = frame_bytes_of PreambleAck [] in
    let o = c.open-to_front in
    let going = c.if-not-is_going.ensures.going refl in (
      back_by r.0 r.1 r.2,
      r.4,
      to_front r.0 r.1 r.2,
      c.args.front_out.now,
      r.7.events,
      record {
        comes = r.7.comes;
        carried = acknowledged r.0 r.1 r.2 r.4 (back_at g c.args.back_in.now)
            (g.K.Sink.view c.args.front_out.now) (g.K.Sink.view o.new.sink) c.args.back r.7
            (carrying_by c.args.settings ack) r.8 o.result
            (λ events b n. o.ensures.carried ack c.preamble_ack.ensures events Accepted b n);
        set = o.ensures.set ack c.preamble_ack.ensures going ∙ r.8;
        going = going;
      },
    )

pub returns-clause-follows : goal.returns-clause-follows
returns-clause-follows g c = λ x mode kind fi bi bo opened begins set.
    let fo = g.K.Sink.view c.args.front_out.now in
    let ack = frame_bytes_of PreambleAck [] in
    let o = c.open-to_front in
    let p = c.pump_both in
    let e = p.ensures in
    let going = c.if-not-is_going.ensures.going refl in
    both_joined x fi (front_at g p.new.front_in) bi (back_at g p.new.back_in) fo
    (g.K.Sink.view p.new.front_out) (g.B.Sink.view bo) (g.B.Sink.view p.new.back_out) p.result mode
    kind
    (e.forward.pumped (front_of x) fi (to_back x mode kind) bo opened.events opened.ready)
    (e.backward.pumped (back_by x mode kind) bi (to_front x mode kind) c.args.front_out.now
    begins.events (record {
      comes = begins.comes;
      carried = acknowledged x mode kind bi (back_at g c.args.back_in.now) fo
          (g.K.Sink.view o.new.sink) c.args.back begins (carrying_by c.args.settings ack) set
          o.result (λ events b n. o.ensures.carried ack c.preamble_ack.ensures events Accepted b n);
      set = o.ensures.set ack c.preamble_ack.ensures going ∙ set;
      going = going;
    }))
    e.forward.opened e.backward.opened

pub returns-clause-front_reads : goal.returns-clause-front_reads
returns-clause-front_reads g c = c.pump_both.ensures.forward.counted

pub returns-clause-back_reads : goal.returns-clause-back_reads
returns-clause-back_reads g c = c.pump_both.ensures.backward.counted

pub returns-clause-front_ended : goal.returns-clause-front_ended
returns-clause-front_ended g c = c.pump_both.ensures.backward.is_ended

pub returns-clause-back_ended : goal.returns-clause-back_ended
returns-clause-back_ended g c = c.pump_both.ensures.forward.is_ended
