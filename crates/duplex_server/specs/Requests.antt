-- The events of an initiator's stream, as far as a server answers them.
use Rattle.std.specs.Prelude.{Some, None, Option}
use Rattle.stream_reader.specs.declared.reader.StreamStep.{StreamStep}
use Rattle.stream_reader.specs.Stream.{accepted, ended, message, opened, peer_fault, StreamEvent}
use Rattle.duplex_server.specs.declared.requests.Request.{Request, TheVariants.Received}
use Rattle.duplex_server.specs.declared.requests.Request.TheVariants.{Ended, Opened}
use Rattle.stream_reader.specs.declared.reader.StreamStep.TheVariants as steps

-- a Preamble Ack and a Fault record never come in such a stream
abbrev pub request_for : StreamEvent → Request
request_for (opened mode kind via) = Opened mode kind
request_for (message e) = Received e.items
request_for accepted = Ended
request_for (ended n) = Ended
request_for (peer_fault n text) = Ended

-- what a step of a receiver brings
abbrev pub request_in : StreamStep → Option Request
request_in steps.More = None
request_in (steps.Opened mode kind) = Some (Opened mode kind)
request_in steps.Accepted = Some Ended
request_in (steps.Message number size document strings used) = Some (Received document)
request_in (steps.Ended n) = Some Ended
request_in (steps.PeerFault n) = Some Ended
