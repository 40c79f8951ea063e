use Rattle.nbfx_records.proofs.BegunFacts.{attribute_tells, begun_tells}
use Rattle.nbfx_records.proofs.begun.attribute_parts.Goals as goal

pub returns-clause-tells : goal.returns-clause-tells
returns-clause-tells c place may = begun_tells place c.requires may
    (attribute_tells c.args.prefix c.args.name c.attribute_at.result c.attribute_at.ensures.tells)
