use Rattle.soap_envelope.proofs.{Renamed.prefixes_are_free, ResolvedViews.names_are_all}
use Rattle.soap_envelope.proofs.laws.prefixes.Goals as goal

pub returns-clause-names : goal.returns-clause-names
returns-clause-names c = names_are_all

pub returns-clause-renamed : goal.returns-clause-renamed
returns-clause-renamed c = prefixes_are_free
