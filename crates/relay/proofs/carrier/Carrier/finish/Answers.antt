use Rattle.std.proofs.Common.{sym, ap, ◌∙◌}
use Rattle.relay.specs.{Carried.carried_by, Carried.last_of, Outcomes.written_by}
use Rattle.relay.proofs.Closing.{carries_by, stopped_by}
use Rattle.relay.proofs.carrier.Carrier.finish.Goals as goal

pub returns-clause-carries : goal.returns-clause-carries
returns-clause-carries g c = λ x first events h.
    let m = c.close.new.self in
    let p = c.pump.ensures in
    carries_by x m.parts.outbound (last_of c.args.read (carried_by x events)) first events
    c.pump.result _ m.unfit
    (rw (c.end.ensures.kept, p.documents) (c.close.ensures.wrote x first events h.0))
    (p.written ∙ ap (written_by m.parts.outbound m.unfit) (sym p.documents))
    (c.close.ensures.fits x first events h.0)

pub returns-clause-stopped : goal.returns-clause-stopped
returns-clause-stopped g c = λ never.
    rw c.pump.ensures.written (stopped_by c.close.new.self.parts.outbound c.close.new.self.unfit _
    (c.close.ensures.stopped never))
