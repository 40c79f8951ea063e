use Rattle.std.proofs.Common.{sym, refl}
use Rattle.rehearsal.proofs.Happening.{few-so, may-happen, played-so}
use Rattle.rehearsal.proofs.player.Player.play.Goals as goal

pub step-requires : goal.step-requires
step-requires c =
    may-happen c.in-Some.world
    (few-so c.in-Some.world c.args.self.now.world c.args.self.now.lines c.in-Some.ensures.value
    c.args.self.now.few c.requires)
    c.args.line.now c.in-Ok.event c.in-Ok.ensures

pub returns-clause-answers : goal.returns-clause-answers
returns-clause-answers c = λ z plays.
    played-so z c.args.self.now c.args.line.now plays c.in-Ok.event c.in-Some.world
    (sym c.in-Some.ensures.value) c.in-Ok.ensures _ c.in-Ok-step.world c.in-Ok-step.body
    c.counts-counts.result c.in-Ok-step.ensures.kept c.in-Ok-step.ensures.body
    c.counts-counts.ensures.counted refl refl
