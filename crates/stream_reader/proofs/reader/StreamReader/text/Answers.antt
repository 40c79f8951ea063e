use Rattle.stream_reader.specs.StreamReaderState.{StandsFor, FailedBehind, ShowsText}
use Rattle.stream_reader.proofs.reader.StreamReader.text.Goals as goal

pub returns-clause-shown : goal.returns-clause-shown
unfolding ShowsText
returns-clause-shown c = λ via h. c.text.ensures via h

pub returns-clause-stands : goal.returns-clause-stands
unfolding StandsFor
returns-clause-stands c = λ p h. c.text.ensures _ h.text

pub returns-clause-failed : goal.returns-clause-failed
unfolding FailedBehind ShowsText
returns-clause-failed c = λ refusal taken p h. c.text.ensures _ h.text
