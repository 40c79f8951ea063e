use Rattle.std.proofs.{Common.arith, lemmas.Grind.common_steps}
use Rattle.io_edges.proofs.Tapes.{after_sure_take}
use Rattle.io_edges.proofs.sure_source.SureSourceSource.take.Goals as goal

pub returns-clause-after : goal.returns-clause-after
returns-clause-after c = rw (← c.self.view_is)
    (after_sure_take _ _ _ _ _ _ (grind (arith, common_steps)) c.with_take-self-inside.ensures)
