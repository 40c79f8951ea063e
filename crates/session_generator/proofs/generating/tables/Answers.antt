use Rattle.std.proofs.Common.{◌∙◌, sym}
use Rattle.session_generator.proofs.generating.tables.Goals as goal

pub returns-clause-sent : goal.returns-clause-sent
returns-clause-sent c = c.table.ensures.strings

pub returns-clause-read : goal.returns-clause-read
returns-clause-read c = c.table-2.ensures.stands

pub returns-clause-same : goal.returns-clause-same
returns-clause-same c = c.table-2.ensures.stands c.requires.bytes c.requires.read
    ∙ c.requires.same_strings ∙ sym c.table.ensures.strings
