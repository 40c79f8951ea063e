use Rattle.nbfx_values.proofs.Walks.{front-position, position_of-is_front}
use Rattle.nbfx_values.proofs.laws.a_front_leads_on.Goals as goal

pub returns : goal.returns
returns c items = (front-position items, position_of-is_front items)
