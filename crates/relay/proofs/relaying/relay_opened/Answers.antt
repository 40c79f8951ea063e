use Rattle.std.proofs.Common.{[], refl, sym, subst}
use Rattle.session_report.proofs.Streams.{ends_within}
use Rattle.stream_loop.proofs.LoopSteps.{first_pending}
use Rattle.stream_loop.specs.Edges.{Input, input_at}
use Rattle.stream_reader.specs.Stream.{ends, stream}
use Rattle.nbfx_values.specs.declared.session.Encoding.TheVariants.{Known}
use Rattle.initiator_machine.specs.Opening.{opening_bytes}
use Rattle.relay.specs.declared.beginning.Begun.TheVariants.{Opened}
use Rattle.nbfx_encoder.specs.declared.sender.Side.TheVariants.{Receiver}
use Rattle.relay.specs.declared.outcome.PumpIn.{PumpIn}
use Rattle.relay.specs.Events.{has_begun}
use Rattle.relay.specs.{Beginning.EndsBefore, Relayed.EndsUnaccepted}
use Rattle.relay.specs.{Opening.relay_by, Relayed.back_by}
use Rattle.relay.specs.{Relayed.Relay, Relayed.to_back, Relayed.to_front}
use Rattle.relay.specs.Writing.{carrying_by}
use Rattle.relay.proofs.Known.{both_unaccepted, both_unsent, none_behind, sent_on, unread_counted}
use Rattle.relay.proofs.relaying.relay_opened.{Given.Over}
use Rattle.relay.proofs.Opened.{opened_now}
use Rattle.relay.proofs.relaying.relay_opened.Goals as goal

module _ (g : Over) where
  abbrev front_at : g.row.S.Denot → Input
  front_at source = input_at g.S.Source.left g.S.Source.taken g.S.Source.faults
      g.S.Source.empty_takes source

  abbrev back_at : g.row.A.Denot → Input
  back_at source = input_at g.A.Source.left g.A.Source.taken g.A.Source.faults
      g.A.Source.empty_takes source

pub returns-then-not-is_going-clause-follows : goal.returns-then-not-is_going-clause-follows
unfolding has_begun
returns-then-not-is_going-clause-follows g c = λ fi begins.
    let a = c.args in
    let mode = a.front.mode in
    let kind = a.front.kind in
    let x : Relay = relay_by a.settings in
    let y = back_by x mode kind in
    let bo = g.B.Sink.view a.back_out.now in
    let o = c.open-carrier in
    let bytes = opening_bytes mode (Known kind) a.settings.via.now in
    let h = sent_on x mode kind fi (front_at g a.front_in.now) bo (g.B.Sink.view o.new.sink)
    a.front.listener begins (carrying_by c.to_back.result bytes) c.to_back.ensures o.result
    (λ events b n. o.ensures.carried bytes c.preamble-opening.ensures events (Opened mode kind) b n)
    in
    let f = c.finish-forward.ensures in
    let b = c.close_unopened-backward.ensures in
    let forward = f.carries (to_back x mode kind) bo begins.events h in
    both_unsent x fi (front_at g a.front_in.now) (back_at g a.back_in.now)
    (back_at g a.back_in.now) (g.K.Sink.view a.front_out.now)
    (g.K.Sink.view c.close_unopened-backward.new.sink) bo
    (g.B.Sink.view c.finish-forward.new.sink)
    (record { forward = c.finish-forward.result; backward = c.close_unopened-backward.result })
    mode kind begins.events begins.begins_so begins.stops f.read forward
    (none_behind (to_back x mode kind) [] begins.events (Opened mode kind) bo
    (g.B.Sink.view c.finish-forward.new.sink) c.finish-forward.result begins.begins_so forward)
    b.read refl
    (first_pending (stream y) ends y.limits.session
    (ends_within y a.settings.quotas.now.back.good))
    (f.stopped (c.if-not-is_going.ensures.stopped refl))
    (b.carries (to_front x mode kind) [] refl) b.none

pub returns-then-not-is_going-clause-front_reads : goal.returns-then-not-is_going-clause-front_reads
returns-then-not-is_going-clause-front_reads g c =
    unread_counted _ c.finish-forward.result.read c.finish-forward.ensures.read

pub returns-then-not-is_going-clause-back_reads : goal.returns-then-not-is_going-clause-back_reads
returns-then-not-is_going-clause-back_reads g c = unread_counted _
    c.close_unopened-backward.result.read c.close_unopened-backward.ensures.read

pub relay_accepted-requires-clause-accepted : goal.relay_accepted-requires-clause-accepted
relay_accepted-requires-clause-accepted g c = λ lives outlives.
    let a = c.args in
    let mode = a.front.mode in
    let kind = a.front.kind in
    let x : Relay = relay_by a.settings in
    let r = c.requires.begun in
    let o = c.open-carrier in
    let bytes = opening_bytes mode (Known kind) a.settings.via.now in
    let going = c.if-not-is_going.ensures.going refl in (
      x,
      mode,
      kind,
      r.0,
      back_at g a.back_in.now,
      a.back_out.now,
      opened_now x mode kind r.0 (front_at g a.front_in.now) (g.B.Sink.view a.back_out.now)
          (g.B.Sink.view o.new.sink) a.front.listener r.1 (carrying_by c.to_back.result bytes)
          c.to_back.ensures o.result
          (λ events b n. o.ensures.carried bytes c.preamble-opening.ensures events
          (Opened mode kind) b n)
          (o.ensures.set bytes c.preamble-opening.ensures going) going,
      c.in-Ok.ensures.begun,
      c.to_front.ensures,
    )

pub returns-in-Ok-clause-follows : goal.returns-in-Ok-clause-follows
returns-in-Ok-clause-follows g c = λ fi begins.
    let a = c.args in
    let mode = a.front.mode in
    let kind = a.front.kind in
    let x : Relay = relay_by a.settings in
    let o = c.open-carrier in
    let bytes = opening_bytes mode (Known kind) a.settings.via.now in
    let going = c.if-not-is_going.ensures.going refl in
    c.relay_accepted.ensures.follows x mode kind fi (back_at g a.back_in.now) a.back_out.now
    (opened_now x mode kind fi (front_at g a.front_in.now) (g.B.Sink.view a.back_out.now)
    (g.B.Sink.view o.new.sink) a.front.listener begins (carrying_by c.to_back.result bytes)
    c.to_back.ensures o.result
    (λ events b n. o.ensures.carried bytes c.preamble-opening.ensures events (Opened mode kind) b n)
    (o.ensures.set bytes c.preamble-opening.ensures going) going)
    c.in-Ok.ensures.begun c.to_front.ensures

pub returns-in-Ok-clause-back_reads : goal.returns-in-Ok-clause-back_reads
returns-in-Ok-clause-back_reads g c =
    rw c.in-Ok.ensures.uncounted at c.relay_accepted.ensures.back_reads

pub returns-in-Err-clause-follows : goal.returns-in-Err-clause-follows
returns-in-Err-clause-follows g c = λ fi begins.
    let a = c.args in
    let mode = a.front.mode in
    let kind = a.front.kind in
    let x : Relay = relay_by a.settings in
    let bo = g.B.Sink.view a.back_out.now in
    let o = c.open-carrier in
    let bytes = opening_bytes mode (Known kind) a.settings.via.now in
    let h = sent_on x mode kind fi (front_at g a.front_in.now) bo (g.B.Sink.view o.new.sink)
    a.front.listener begins (carrying_by c.to_back.result bytes) c.to_back.ensures o.result
    (λ events b n. o.ensures.carried bytes c.preamble-opening.ensures events (Opened mode kind) b n)
    in
    let f = c.finish-forward-in-Err.ensures in
    let b = c.close_unopened-backward-in-Err.ensures in
    let forward = f.carries (to_back x mode kind) bo begins.events h in
    both_unaccepted x fi (front_at g a.front_in.now) (back_at g a.back_in.now)
    (back_at g c.begin_back.new.source) (g.K.Sink.view a.front_out.now)
    (g.K.Sink.view c.close_unopened-backward-in-Err.new.sink) bo
    (g.B.Sink.view c.finish-forward-in-Err.new.sink)
    (record {
      forward = c.finish-forward-in-Err.result;
      backward = c.close_unopened-backward-in-Err.result;
    })
    mode kind begins.events begins.begins_so begins.stops f.read forward
    (none_behind (to_back x mode kind) [] begins.events (Opened mode kind) bo
    (g.B.Sink.view c.finish-forward-in-Err.new.sink) c.finish-forward-in-Err.result
    begins.begins_so forward)
    (subst (λ (r : PumpIn). EndsBefore (back_by x mode kind) (back_at g a.back_in.now)
    (back_at g c.begin_back.new.source) Receiver r) (sym b.read) c.in-Err.ensures.ended)
    (subst EndsUnaccepted (sym b.read) c.in-Err.ensures.refused)
    (λ events unbegun. b.carries (to_front x mode kind) events unbegun) b.none

pub returns-in-Err-clause-front_reads : goal.returns-in-Err-clause-front_reads
returns-in-Err-clause-front_reads g c = unread_counted _ c.finish-forward-in-Err.result.read
    c.finish-forward-in-Err.ensures.read

pub returns-in-Err-clause-back_reads : goal.returns-in-Err-clause-back_reads
returns-in-Err-clause-back_reads g c =
    rw c.close_unopened-backward-in-Err.ensures.read c.in-Err.ensures.counted
