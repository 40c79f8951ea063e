use Rattle.{action_dispatch.specs.Answers.answered, nbfx_values.specs.QuotasOf.limits_of}
use Rattle.duplex_server.proofs.answerer.Answerer.ask.Goals as goal

pub returns-in_ok-measured-in-Received-clause-asked :
    goal.returns-in_ok-measured-in-Received-clause-asked
returns-in_ok-measured-in-Received-clause-asked g c =
    let m = c.args.self.now in
    rw c.in-Received.is (c.job_for.ensures (limits_of m.quotas)
    (answered (g.V.Service.served m.service.now) c.in-Received.doc)
    c.in_ok-measured-in-Received.ensures.measured)
