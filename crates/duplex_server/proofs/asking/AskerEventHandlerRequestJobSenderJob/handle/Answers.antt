use Rattle.std.proofs.Common.{List, [], ◌∷◌, ◌++◌, append_assoc}
use Rattle.nbfx_values.specs.QuotasOf.{limits_of}
use Rattle.duplex_server.specs.declared.requests.Request.{Request}
use Rattle.duplex_server.proofs.AskedFor.{asked_more, asked_quietly}
use Rattle.duplex_server.proofs.asking.AskerEventHandlerRequestJobSenderJob.handle.Goals as goal

pub returns-in-Some-clause-handled : goal.returns-in-Some-clause-handled
returns-in-Some-clause-handled g c = λ first paused since handled.
    let events : List Request = paused ++ since in
    let m = c.args.self.now.answerer in
    let e = c.in_ok-asked.ensures in
    rw (
      ← append_assoc paused since (c.args.request ∷ []),
      c.ask.ensures.service,
      c.ask.ensures.quotas,
    )
    (asked_more (g.V.Service.served m.service.now) (limits_of m.quotas) first c.args.sender.now
    events m _ c.args.request handled e.messages c.in-Some.job (rw c.in-Some.is at e.asked)
    c.send.new.self c.send.ensures.sent c.send.ensures.to)

pub returns-in-None-clause-handled : goal.returns-in-None-clause-handled
returns-in-None-clause-handled g c = λ first paused since handled.
    let events : List Request = paused ++ since in
    let m = c.args.self.now.answerer in
    let e = c.in_ok-asked.ensures in
    rw (
      ← append_assoc paused since (c.args.request ∷ []),
      c.ask.ensures.service,
      c.ask.ensures.quotas,
    )
    (asked_quietly (g.V.Service.served m.service.now) (limits_of m.quotas) first c.args.sender.now
    events m _ c.args.request handled e.messages (rw c.in-None.is at e.asked))
