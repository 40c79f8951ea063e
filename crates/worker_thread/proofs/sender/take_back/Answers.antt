use Rattle.std.proofs.Common.{ap}
use Rattle.crossbeam_channel.specs.Claims.{view}
use Rattle.worker_thread.proofs.Relays.{merges, totals}
use Rattle.worker_thread.proofs.Steps.{learned}
use Rattle.worker_thread.proofs.sender.take_back.Goals as goal

pub absorb-requires-clause-rule : goal.absorb-requires-clause-rule
absorb-requires-clause-rule g c =
    merges _ _ _ _ (ap (λ v. v.sends) c.requires.sent) (ap (λ v. v.takes) c.requires.taken)

pub learn_as-requires-clause-rule : goal.learn_as-requires-clause-rule
learn_as-requires-clause-rule g c =
    totals _ _ (ap (λ v. v.sends) c.absorb.ensures.rule) (ap (λ v. v.takes) c.absorb.ensures.rule)

pub returns : goal.returns
returns g c =
    learned g.W.Worker.is_last (view c.args.pass.now) (view c.args.theirs) (view c.absorb.new.pass)
    c.learn_as.ensures.rule.0 c.requires.ended c.requires.all c.absorb.ensures.rule
    c.learn_as.ensures.rule.1
