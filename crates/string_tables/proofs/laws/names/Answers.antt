use Rattle.string_tables.proofs.SessionFacts.{session_text-string}
use Rattle.string_tables.proofs.StaticFacts.{static_text-entry, static_text-stands}
use Rattle.string_tables.proofs.TableFacts.{named_text-names, names_one_text}
use Rattle.string_tables.proofs.laws.names.Goals as goal

pub returns-clause-both : goal.returns-clause-both
returns-clause-both c = named_text-names

pub returns-clause-entries : goal.returns-clause-entries
returns-clause-entries c = static_text-entry

pub returns-clause-strings : goal.returns-clause-strings
returns-clause-strings c = session_text-string

pub returns-clause-one_text : goal.returns-clause-one_text
returns-clause-one_text c = names_one_text

pub returns-clause-static_ids : goal.returns-clause-static_ids
returns-clause-static_ids c entries id text rises held =
    (static_text-stands 0 entries id text rises held).static_id
