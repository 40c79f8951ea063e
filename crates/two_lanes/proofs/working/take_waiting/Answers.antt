use Rattle.std.proofs.Common.{◌∷◌, ◌++◌, [], ap, ◌∙◌}
use Rattle.crossbeam_channel.specs.Claims.{view}
use Rattle.two_lanes.specs.Jobs.{known}
use Rattle.two_lanes.proofs.Rule.{gets}
use Rattle.two_lanes.proofs.Taking.{none_more, one_more, still_taking}
use Rattle.two_lanes.proofs.working.take_waiting.Goals as goal

pub try_recv_as-requires-clause-rule : goal.try_recv_as-requires-clause-rule
try_recv_as-requires-clause-rule g c =
    (gets _ _ (still_taking _ _ c.loop.invariant.1), λ _ _ _ _. tt)

pub loop-init : goal.loop-init
loop-init g c = (
  c.requires.seat.0,
  none_more (view c.args.pass.now) c.args.jobs.now.items c.requires.seat.1 c.requires.empty,
)

pub loop-preserved : goal.loop-preserved
loop-preserved g c = (
  c.try_recv_as.ensures.channel.0,
  one_more (view c.loop.pass) (view c.try_recv_as.new.pass) c.in-Ok.job
      (known (view c.args.pass.now).got) c.loop.jobs.items c.push_reserved.new.self.items
      c.loop.invariant.1 c.in-Ok.ensures.rule
      (c.push_reserved.ensures.items ∙ ap (λ l. l ++ c.in-Ok.job ∷ []) c.reserve.ensures.items),
)
