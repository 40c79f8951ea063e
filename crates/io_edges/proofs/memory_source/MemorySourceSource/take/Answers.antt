use Rattle.std.proofs.{Common.sym, Common.◌∙◌, Common.arith, lemmas.Grind.common_steps}
use Rattle.io_edges.proofs.Tapes.{after_good_take}
use Rattle.io_edges.proofs.memory_source.MemorySourceSource.take.Goals as goal

pub returns-clause-after : goal.returns-clause-after
returns-clause-after c = rw (← c.self.view_is)
    (after_good_take _ _ _ _ _ _ _ _ _ (sym c.fails.ensures.answer ∙ c.if-fails.false)
    (grind (arith, common_steps)) c.fails.ensures.counted c.with_take-self-inside.ensures)
