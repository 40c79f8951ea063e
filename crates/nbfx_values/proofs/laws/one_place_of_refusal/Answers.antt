use Rattle.nbfx_values.proofs.Walks.{refused-once}
use Rattle.nbfx_values.proofs.laws.one_place_of_refusal.Goals as goal

pub returns : goal.returns
returns c = refused-once
