use Rattle.unit_streams.proofs.Telling.{prefixes_tell_fronts, open_tell_fronts}
use Rattle.unit_streams.proofs.laws.fronts_are_told.Goals as goal

pub returns-clause-prefixes : goal.returns-clause-prefixes
returns-clause-prefixes c = λ g t. prefixes_tell_fronts g t

pub returns-clause-on : goal.returns-clause-on
returns-clause-on c = λ g t. open_tell_fronts g t
