use Rattle.std.proofs.Common.{refl}
use Rattle.stream_reader.specs.StreamReaderState.{StandsFor, FailedBehind, taken_of}
use Rattle.stream_reader.proofs.reader.StreamReader.taken.Goals as goal

pub returns-clause-counted : goal.returns-clause-counted
unfolding taken_of
returns-clause-counted c = refl

pub returns-clause-stands : goal.returns-clause-stands
unfolding StandsFor
returns-clause-stands c = λ p h. h.taken

pub returns-clause-failed : goal.returns-clause-failed
unfolding FailedBehind taken_of
returns-clause-failed c = λ refusal taken p h. h.taken_is

pub returns-clause-within : goal.returns-clause-within
unfolding StandsFor
returns-clause-within c = λ p h. h.within
