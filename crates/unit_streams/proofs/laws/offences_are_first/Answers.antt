use Rattle.unit_streams.proofs.Offences.{offences_are_first}
use Rattle.unit_streams.proofs.laws.offences_are_first.Goals as goal

pub returns : goal.returns
returns c = λ g. offences_are_first g
