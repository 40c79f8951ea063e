use Rattle.stream_reader.proofs.Closed.{closed_or_refused}
use Rattle.stream_reader.proofs.laws.closed_or_refused.Goals as goal

pub returns : goal.returns
returns c = closed_or_refused
