use Rattle.stream_reader.specs.Stream.{message, opened, ended, peer_fault}
use Rattle.stream_reader.proofs.Situations.{event_tells}
use Rattle.stream_reader.proofs.laws.events_are_told.Goals as goal

pub returns : goal.returns
returns c = record {
  preambles = λ x p mode kind via here. event_tells x p (opened mode kind via) here;
  messages = λ x p e here. let told = event_tells x p (message e) here in (told.1, told.0);
  ends = λ x p n here. event_tells x p (ended n) here;
  faults = λ x p n text here. event_tells x p (peer_fault n text) here;
}
