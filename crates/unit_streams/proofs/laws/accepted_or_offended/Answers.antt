use Rattle.unit_streams.proofs.Accepted.{accepted_or_offended}
use Rattle.unit_streams.proofs.laws.accepted_or_offended.Goals as goal

pub returns : goal.returns
returns c = λ g readable. accepted_or_offended g readable
