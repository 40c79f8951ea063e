use Rattle.std.proofs.Common.{◌≡◌, List, [], ◌∷◌, ◌++◌, Some, None, refl, subst, append_assoc}
use Rattle.unit_streams.specs.Tellers.{state_behind}
use Rattle.stream_loop.proofs.Parts.{given_stopped}
use Rattle.duplex_server.specs.declared.requests.Request.{Request}
use Rattle.nbfx_values.specs.{declared.limits.Quotas.Quotas, QuotasOf.limits_of}
use Rattle.duplex_server.specs.Jobs.{AsksFor, behind_job, part_for}
use Rattle.duplex_server.specs.ServerStream.{Answering, answering, replies, Replying, start}
use Rattle.duplex_server.specs.Replying.{answering_of, StandsAt}
use Rattle.duplex_server.proofs.Due.{asks_due, part_due}
use Rattle.duplex_server.proofs.Handled.{handled_part, handled_part_as, handled_quietly}
use Rattle.duplex_server.proofs.replier.ReplierEventHandlerRequest.handle.Goals as goal

-- the writing had ended before
pub returns-then-not-is_going-clause-handled : goal.returns-then-not-is_going-clause-handled
returns-then-not-is_going-clause-handled g c = λ first paused since handled.
    let from = g.K.Sink.view first in
    let events : List Request = paused ++ since in
    let m = c.args.self.now in
    let x : Answering = answering_of g.V.Service.served m in
    let s : Replying = state_behind (replies x) (start x.statics) events in
    let d = part_due x s c.args.request in
    let stopped = c.if-not-is_going.ensures.stopped refl in
    rw (← append_assoc paused since (c.args.request ∷ []), c.count.ensures.service)
    (handled_part x from events m _
    (g.K.Sink.view c.args.sink.now) (g.K.Sink.view c.args.sink.now) c.args.request handled
    c.count.ensures.messages d.0 d.1 (record {
      given = given_stopped from
          handled.parts m.writer.parts.whole m.writer.parts.gathered.items m.writer.parts.ends.items
          (g.K.Sink.view c.args.sink.now) m.writer.parts.outbound d.0 stopped handled.stands.given;
      is_at = λ going. absurd (stopped going);
      little = handled.stands.little;
    }))

-- nothing is due
pub returns-in-None-clause-handled : goal.returns-in-None-clause-handled
returns-in-None-clause-handled g c = λ first paused since handled.
    let from = g.K.Sink.view first in
    let events : List Request = paused ++ since in
    let m = c.args.self.now in
    let x : Answering = answering_of g.V.Service.served m in
    let s : Replying = state_behind (replies x) (start x.statics) events in
    let e = c.in_ok-asked.ensures in
    rw (← append_assoc paused since (c.args.request ∷ []), c.ask.ensures.service)
    (handled_quietly x from events
    m _ (g.K.Sink.view c.args.sink.now) (g.K.Sink.view c.args.sink.now) c.args.request handled
    e.messages
    (asks_due x s c.args.request None (subst (λ (q : Quotas). AsksFor
    (g.V.Service.served m.answerer.service.now) (limits_of q) c.args.request None)
    m.made (rw c.in-None.is at e.asked))) handled.stands)

-- a job was done
pub returns-in-Some-clause-handled : goal.returns-in-Some-clause-handled
returns-in-Some-clause-handled g c = λ first paused since handled.
    let from = g.K.Sink.view first in
    let events : List Request = paused ++ since in
    let m = c.args.self.now in
    let x : Answering = answering_of g.V.Service.served m in
    let s : Replying = state_behind (replies x) (start x.statics) events in
    let e = c.in_ok-asked.ensures in
    let job = c.in-Some.job in
    let d = asks_due x s c.args.request (Some job) (subst (λ (q : Quotas). AsksFor
    (g.V.Service.served m.answerer.service.now) (limits_of q) c.args.request (Some job))
    m.made (rw c.in-Some.is at e.asked)) in
    let w = c.work.ensures in
    let same : answering (g.V.Service.served c.ask.new.self.service.now)
    c.work.new.self.statics.now m.quotas ≡ x =
    rw (c.ask.ensures.service, w.kept.statics_are) refl in
    rw (← append_assoc paused since (c.args.request ∷ []))
    (handled_part_as x from events m _ (g.K.Sink.view c.args.sink.now)
    (g.K.Sink.view c.work.new.sink) c.args.request handled e.messages _ same
    (part_for x.statics x.back s job) d.0
    (subst (λ (z : Replying). StandsAt from
    (handled.parts ++ part_for x.statics x.back s job ∷ []) z c.work.new.self
    (g.K.Sink.view c.work.new.sink)) d.1 (subst (λ (q : Quotas). StandsAt from
    (handled.parts ++ part_for x.statics (limits_of q) s job ∷ [])
    (behind_job x.statics (limits_of q) s job) c.work.new.self (g.K.Sink.view c.work.new.sink))
    m.spelled (w.stands from handled.parts s handled.stands))))
