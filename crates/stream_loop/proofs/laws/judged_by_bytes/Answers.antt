use Rattle.stream_loop.proofs.Fronts.{judged_by_bytes}
use Rattle.stream_loop.proofs.laws.judged_by_bytes.Goals as goal

pub returns : goal.returns
returns c = λ g t. judged_by_bytes g t
