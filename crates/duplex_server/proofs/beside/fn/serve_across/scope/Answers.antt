use Rattle.std.proofs.Common.{◌≡◌, [], ◌∷◌, ◌++◌, sym, ap, ◌∙◌, subst, rules}
use Rattle.duplex_server.specs.ServerStream.{answering}
use Rattle.crossbeam_channel.specs.Claims.{IsSeatAt, view}
use Rattle.crossbeam_channel.specs.Ends.{receives_on, sends_on}
use Rattle.stream_reader.specs.Sides.{endpoint_of}
use Rattle.stream_loop.specs.Edges.{input_at}
use Rattle.worker_thread.specs.Sending.{sent_by}
use Rattle.duplex_server.proofs.Crossed.{back_alone, serves_beside}
use Rattle.duplex_server.proofs.beside.fn.serve_across.scope.Goals as goal
use Rattle.duplex_server.specs.declared.jobs.Job.TheVariants as jobs

-- the thread wasn't started, and its work was done here
pub join_worker-requires-in-Err : goal.join_worker-requires-in-Err
join_worker-requires-in-Err g c =
    let e = c.spawn_with-theirs.ensures in
    let is = c.in-Err.ensures.err in
    let same = ap (λ f. receives_on f.4) is ∙ c.requires.1
    ∙ sym (ap sends_on (c.send.ensures.to ∙ c.new-sender.ensures.to)) in
    record {
      seat = subst (λ r. IsSeatAt r c.spawn_with-theirs.result.0) same e.0;
      ended = back_alone (sent_by c.send.new.self) (c.send.ensures.sent
          ∙ ap (λ l. l ++ jobs.Back ∷ []) c.new-sender.ensures.unsent);
      taken = e.1.only_takes;
      all = e.1.all;
    }

pub returns-in-Ok : goal.returns-in-Ok
returns-in-Ok g c =
    let p = c.in-Ok.child.promise in
    let j = c.join-theirs in
    let a = c.ask_for_replies-ending in
    let sink_is : p.sink.value ≡ c.captures.sink = search rules in
    let statics_is : p.statics.value.now ≡ c.captures.statics.now = search rules in
    let quotas_is : p.quotas.value ≡ c.captures.quotas.now.back = search rules in
    let all = rw (sink_is, statics_is, quotas_is) at j.ensures.1 in
    let x = answering (g.V.Service.served c.captures.service.now) c.captures.statics.now
    c.captures.quotas.now in (
      serves_beside x (g.K.Sink.view c.captures.sink) (g.K.Sink.view j.result.1)
          (g.K.Sink.ended c.captures.sink) (g.K.Sink.ended j.result.1) (sent_by a.new.sender)
          (view j.result.0).taken a.result.0
          record {
            messages = a.result.1;
            answers = j.result.3;
            inbound = c.inbound_of.result;
            outbound = j.result.2;
          }
          c.inbound_of.ensures all.replied c.join_worker.ensures
          (endpoint_of c.captures.endpoint.now)
          (input_at g.S.Source.left g.S.Source.taken g.S.Source.faults g.S.Source.empty_takes
          c.captures.source)
          (input_at g.S.Source.left g.S.Source.taken g.S.Source.faults g.S.Source.empty_takes
          a.new.source) c.captures.buffer a.new.buffer a.ensures.follows a.ensures.left
          a.ensures.counted,
      all.replied.same_end,
    )
