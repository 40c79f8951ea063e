use Rattle.std.proofs.Common.{refl, ◌∙◌}
use Rattle.relay.specs.Carried.{carried_by}
use Rattle.relay.proofs.Closing.{last_is, wrote_closed, wrote_stopped}
use Rattle.relay.proofs.carrier.Carrier.close.Goals as goal

pub returns-then-not-is_going-clause-wrote : goal.returns-then-not-is_going-clause-wrote
returns-then-not-is_going-clause-wrote g c = λ x first events h.
    wrote_stopped x first events c.args.self.now (g.K.Sink.view c.args.sink.now) h _
    (c.if-not-is_going.ensures.stopped refl)

pub returns-then-not-is_going-clause-fits : goal.returns-then-not-is_going-clause-fits
returns-then-not-is_going-clause-fits g c = λ x first events h going.
    absurd (c.if-not-is_going.ensures.stopped refl going)

pub returns-clause-wrote : goal.returns-clause-wrote
returns-clause-wrote g c = λ x first events h.
    let m = c.args.self.now in
    let going = c.if-not-is_going.ensures.going refl in
    let last = c.last-last.ensures ∙ last_is c.args.read m.unfit (carried_by x events)
    (h.is_at going).unfit_is in
    rw last at (wrote_closed x first events m (g.K.Sink.view c.args.sink.now) h
    c.close.new.self.outbound c.close.new.self.whole c.last-last.result.now
    (g.K.Sink.view c.close.new.sink) (c.close.ensures.closed first h.parts h.given))

pub returns-clause-fits : goal.returns-clause-fits
returns-clause-fits g c = λ x first events h on.
    (h.is_at (c.if-not-is_going.ensures.going refl)).unfit_is
