use Rattle.unit_streams.proofs.Standing.{standing_append}
use Rattle.unit_streams.proofs.laws.standings_go_on.Goals as goal

pub returns : goal.returns
returns c = λ g readable. standing_append g readable
