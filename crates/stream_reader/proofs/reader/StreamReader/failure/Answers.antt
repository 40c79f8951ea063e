use Rattle.{std.proofs.Common.refl, stream_reader.specs.StreamReaderState.failure_of}
use Rattle.stream_reader.proofs.reader.StreamReader.failure.Goals as goal

pub returns : goal.returns
unfolding failure_of
returns c = refl
