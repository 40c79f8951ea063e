use Rattle.command_words.proofs.RequestFacts.{request-one}
use Rattle.command_words.proofs.laws.one_request.Goals as goal

pub returns : goal.returns
returns c = request-one
