use Rattle.std.proofs.Common.{refl}
use Rattle.stream_reader.specs.StreamReaderState.{StandsFor, FailedBehind, messages_of}
use Rattle.stream_reader.proofs.reader.StreamReader.messages.Goals as goal

pub returns-clause-counted : goal.returns-clause-counted
unfolding messages_of
returns-clause-counted c = refl

pub returns-clause-stands : goal.returns-clause-stands
unfolding StandsFor
returns-clause-stands c = λ p h. h.at.messages

pub returns-clause-failed : goal.returns-clause-failed
unfolding FailedBehind messages_of
returns-clause-failed c = λ refusal taken p h. h.messages
