use Rattle.nbfx_records.proofs.BegunFacts.{begun_tells, element_tells}
use Rattle.nbfx_records.proofs.begun.element_parts.Goals as goal

pub returns : goal.returns
returns c place may = begun_tells place c.requires may
    (element_tells c.args.prefix c.args.name c.element_at.result c.element_at.ensures)
