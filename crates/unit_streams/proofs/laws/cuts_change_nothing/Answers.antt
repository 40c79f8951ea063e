use Rattle.unit_streams.proofs.Cuts.{cuts_change_nothing}
use Rattle.unit_streams.proofs.laws.cuts_change_nothing.Goals as goal

pub returns : goal.returns
returns c = λ g. cuts_change_nothing g
