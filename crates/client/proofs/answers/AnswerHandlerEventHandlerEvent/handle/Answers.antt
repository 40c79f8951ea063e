use Rattle.std.proofs.Common.{[], ◌∷◌, ◌++◌, sym, ◌∙◌, subst, append_assoc}
use Rattle.client.specs.declared.answers.Stage.{Stage}
use Rattle.client.specs.Answering.{IsAt}
use Rattle.client.proofs.Answered.{at_more, tells_ack, tells_more}
use Rattle.client.proofs.answers.AnswerHandlerEventHandlerEvent.handle.Goals as goal

-- behind the Ack
pub returns-then-stops_at-clause-halted : goal.returns-then-stops_at-clause-halted
returns-then-stops_at-clause-halted g c = λ first paused since told.
    let m = c.args.self.now in
    let r = c.report.ensures in
    let s = c.stops_at.ensures.stops c.if-stops_at.true in
    tells_ack (g.O.Sink.view first) (paused ++ since) c.args.event m.stage m.reached m.report
    c.report.new.self (g.O.Sink.view c.args.output.now) (g.O.Sink.view c.report.new.output) told
    r.reports r.reached s.0 s.1

pub returns-then-stops_at-clause-may_halt : goal.returns-then-stops_at-clause-may_halt
returns-then-stops_at-clause-may_halt g c =
    sym c.report.ensures.stage ∙ (c.stops_at.ensures.stops c.if-stops_at.true).0

-- behind any other event
pub returns-clause-handled : goal.returns-clause-handled
returns-clause-handled g c = λ first paused since told.
    let m = c.args.self.now in
    let n = c.report.new.self in
    let r = c.report.ensures in
    rw (← append_assoc paused since (c.args.event ∷ [])) (tells_more (g.O.Sink.view first)
    (paused ++ since) c.args.event m.stage n.stage m.reached n.reached m.report n.report
    (g.O.Sink.view c.args.output.now) (g.O.Sink.view c.report.new.output) told r.reports r.reached
    (subst (λ (s : Stage). IsAt s ((paused ++ since) ++ c.args.event ∷ [])) (sym r.stage)
    (at_more m.stage (paused ++ since) c.args.event
    (λ at is. c.stops_at.ensures.goes_on c.if-stops_at.false (r.stage ∙ at) is) told.stage_is)))
