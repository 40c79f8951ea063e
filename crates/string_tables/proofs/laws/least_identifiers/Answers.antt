use Rattle.string_tables.proofs.{SessionFacts.gives_least_session, TableFacts.gives_least_id}
use Rattle.string_tables.proofs.StaticFacts.{gives_least_static}
use Rattle.string_tables.proofs.laws.least_identifiers.Goals as goal

pub returns-clause-both : goal.returns-clause-both
returns-clause-both c = gives_least_id

pub returns-clause-entries : goal.returns-clause-entries
returns-clause-entries c = gives_least_static

pub returns-clause-strings : goal.returns-clause-strings
returns-clause-strings c = gives_least_session
