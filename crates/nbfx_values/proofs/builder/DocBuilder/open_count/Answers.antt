use Rattle.std.proofs.Common.{sym, ◌∙◌}
use Rattle.nbfx_values.proofs.Positions.{open-position}
use Rattle.nbfx_values.proofs.builder.DocBuilder.open_count.Goals as goal

pub returns-clause-opened : goal.returns-clause-opened
returns-clause-opened c = c.open_count.ensures ∙ sym
    (open-position c.args.self.now c.position.result c.position.ensures.ends)
