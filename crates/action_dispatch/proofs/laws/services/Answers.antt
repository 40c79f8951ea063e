use Rattle.action_dispatch.proofs.AskedFacts.{asks_the_service}
use Rattle.action_dispatch.proofs.laws.services.Goals as goal

pub returns : goal.returns
returns c = asks_the_service
