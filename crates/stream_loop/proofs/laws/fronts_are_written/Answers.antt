use Rattle.stream_loop.proofs.Fronts.{fronts_are_written}
use Rattle.stream_loop.proofs.laws.fronts_are_written.Goals as goal

pub returns : goal.returns
returns c = λ g t. fronts_are_written g t
