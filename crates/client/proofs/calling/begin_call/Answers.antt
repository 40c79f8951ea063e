use Rattle.std.proofs.Common.{[], sym, ap, ◌∙◌, subst}
use Rattle.stream_reader.specs.Stream.{ends, stream}
use Rattle.stream_loop.proofs.{LoopSteps.first_pending}
use Rattle.stream_loop.specs.Edges.{Input, input_at}
use Rattle.stream_loop.specs.declared.following.FollowEnding.TheVariants.{Memory}
use Rattle.{initiator_machine.specs.Opening.opening_bytes, session_report.proofs.Streams.ends_within}
use Rattle.client.specs.declared.{answers.Stage.Stage}
use Rattle.client.specs.{Answering.IsFollowed, Answering.reads_by}
use Rattle.client.specs.{Sent.sending_by, Writing.out_of}
use Rattle.client.proofs.LaneCalled.{begun_at, knows_unsent, opened_done, told_unread, unfailed}
use Rattle.client.proofs.calling.begin_call.{Given.Over}
use Rattle.client.proofs.calling.begin_call.Goals as goal

module _ (g : Over) where
  abbrev input_of : g.row.S.Denot → Input
  input_of source = input_at g.S.Source.left g.S.Source.taken g.S.Source.faults
      g.S.Source.empty_takes source

pub read-reader-requires : goal.read-reader-requires
read-reader-requires g c =
    let a = c.args in
    let i = input_of g a.source.now in
    (reads_by a.settings, i, a.output.now, [], c.in-Ok.ensures.comes i (g.O.Sink.view a.output.now))

-- there was no memory to read
pub returns-in_default-clause-over : goal.returns-in_default-clause-over
returns-in_default-clause-over g c =
    let a = c.args in
    let s = a.settings in
    let y = reads_by s in
    let i = input_of g a.source.now in
    let output = g.O.Sink.view a.output.now in
    let o = c.send_opening-opened in
    let t = c.stage_after-stage in
    let h = c.new-handler in
    let d = c.close_call in
    let e = d.ensures in record {
      known = λ documents. knows_unsent (sending_by s documents) a.via.now i i
          (g.K.Sink.view a.sink.now) (g.K.Sink.view t.new.sink) output output
          (g.O.Sink.view d.new.output) d.result Memory h.result.reached h.result.report e.closed
          e.inbound (unfailed i.faults) o.result (g.K.Sink.view o.new.sink) o.ensures.written
          t.ensures.unput
          (e.outbound ∙ c.client_out-outbound.ensures) e.sent
          (told_unread y i output o.result h.result.reached h.result.report
          (first_pending (stream y) ends y.limits.session (ends_within y s.quotas.back.good))
          h.ensures.reached h.ensures.report);
      none = e.sent;
    }

pub returns-in_default-clause-ended : goal.returns-in_default-clause-ended
returns-in_default-clause-ended g c = λ not. c.stage_after-stage.ensures.ended (λ is. not
    (c.close_call.ensures.outbound ∙ c.client_out-outbound.ensures ∙ ap out_of is))

-- the stream ended before the Ack
pub returns-in-Some-clause-over : goal.returns-in-Some-clause-over
returns-in-Some-clause-over g c =
    let a = c.args in
    let s = a.settings in
    let i = input_of g a.source.now in
    let output = g.O.Sink.view a.output.now in
    let o = c.send_opening-opened in
    let t = c.stage_after-stage in
    let r = c.read-reader in
    let q = r.result.0 in
    let d = c.close_call-in-Some in
    let e = d.ensures in
    let follows = rw c.in-Some.is at (r.ensures.followed (reads_by s) i a.output.now []
    (c.in-Ok.ensures.comes i output)) in record {
      known = λ documents. knows_unsent (sending_by s documents) a.via.now i
          (input_of g r.new.source) (g.K.Sink.view a.sink.now) (g.K.Sink.view t.new.sink) output
          (g.O.Sink.view r.new.output) (g.O.Sink.view d.new.output) d.result c.in-Some.ending
          q.handler.reached q.handler.report e.closed e.inbound
          (rw c.in-Some.is at r.ensures.counted) o.result (g.K.Sink.view o.new.sink) o.ensures.written
          t.ensures.unput (e.outbound ∙ c.client_out-outbound.ensures) e.sent
          (subst (λ (v : Stage). IsFollowed (reads_by s) i output v q (input_of g r.new.source)
          (g.O.Sink.view r.new.output) c.in-Some.ending) (c.in-Ok.ensures.stage ∙ t.ensures.stage)
          follows);
      none = e.sent;
    }

pub returns-in-Some-clause-ended : goal.returns-in-Some-clause-ended
returns-in-Some-clause-ended g c = λ not. c.stage_after-stage.ensures.ended (λ is. not
    (c.close_call-in-Some.ensures.outbound ∙ c.client_out-outbound.ensures ∙ ap out_of is))

-- the Ack was read
pub returns-clause-begun : goal.returns-clause-begun
returns-clause-begun g c =
    let a = c.args in
    let s = a.settings in
    let i = input_of g a.source.now in
    let o = c.send_opening-opened in
    let t = c.stage_after-stage in
    let r = c.read-reader in
    let come = rw c.in-None.is at (r.ensures.acked (reads_by s) i a.output.now []
    (c.in-Ok.ensures.comes i (g.O.Sink.view a.output.now))) in
    let at = rw c.in-None.is at r.ensures.stage in
    let wrote = begun_at (opening_bytes s.mode s.encoding a.via.now) o.result
    (g.K.Sink.view a.sink.now) (g.K.Sink.view o.new.sink) (g.K.Sink.view t.new.sink) o.ensures.written
    (sym (c.in-Ok.ensures.stage ∙ t.ensures.stage) ∙ at.0) t.ensures.unput in record {
      acked = at.1;
      puts = wrote.0;
      emptied = wrote.1;
      read = come.0;
      come = come.1;
      uncounted = rw c.in-None.is at r.ensures.uncounted;
    }

pub returns-clause-same_end : goal.returns-clause-same_end
returns-clause-same_end g c =
    let o = c.send_opening-opened in
    let t = c.stage_after-stage in
    let r = c.read-reader in
    let at = rw c.in-None.is at r.ensures.stage in
    t.ensures.same_end (opened_done o.result
    (sym (c.in-Ok.ensures.stage ∙ t.ensures.stage) ∙ at.0)) ∙ o.ensures.same_end
