use Rattle.nbfx_records.proofs.BegunFacts.{begun_tells, text_tells}
use Rattle.nbfx_records.proofs.begun.scalar_parts.Goals as goal

pub returns : goal.returns
returns c place may = begun_tells place c.requires.begins may
    (text_tells c.args.kind c.args.ends c.requires.no_list c.scalar_at.result c.scalar_at.ensures)
