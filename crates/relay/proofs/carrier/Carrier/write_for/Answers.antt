use Rattle.std.proofs.Common.{refl}
use Rattle.relay.proofs.Putting.{put_other}
use Rattle.relay.proofs.carrier.Carrier.write_for.Goals as goal

pub returns-in-Message-clause-carried : goal.returns-in-Message-clause-carried
returns-in-Message-clause-carried g c = λ x first events set h.
    rw c.in-Message.is (c.carry.ensures.carried x first events c.in-Message.received refl set h)

pub returns-in_default-clause-carried : goal.returns-in_default-clause-carried
returns-in_default-clause-carried g c = λ x first events set h.
    put_other x first events c.args.self.now (g.K.Sink.view c.args.sink.now) h c.args.event.now
    c.in_default.not-Message
