use Rattle.stream_reader.proofs.{Reasons.too_long_is, ReasonsOfStreams.too_long_at_quota}
use Rattle.stream_reader.proofs.laws.too_long.Goals as goal

pub returns : goal.returns
returns c = record { by_length = too_long_is; at_quota = too_long_at_quota }
