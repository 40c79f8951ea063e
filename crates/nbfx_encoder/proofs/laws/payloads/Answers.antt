use Rattle.nbfx_encoder.proofs.{LawFacts.writes_what_fits, Leasts.large_is_unwritten}
use Rattle.nbfx_encoder.proofs.Payloads.{chosen_is_payload}
use Rattle.nbfx_encoder.proofs.laws.payloads.Goals as goal

pub returns-clause-payload : goal.returns-clause-payload
returns-clause-payload c = chosen_is_payload

pub returns-clause-fits : goal.returns-clause-fits
returns-clause-fits c = writes_what_fits

pub returns-clause-large : goal.returns-clause-large
returns-clause-large c = large_is_unwritten
