use Rattle.nbfx_records.proofs.BegunFacts.{begun_tells, declaration_tells}
use Rattle.nbfx_records.proofs.begun.declaration_parts.Goals as goal

pub returns-clause-tells : goal.returns-clause-tells
returns-clause-tells c place may = begun_tells place c.requires may
    (declaration_tells c.args.prefix c.args.uri c.declaration_at.result
    c.declaration_at.ensures.tells)
