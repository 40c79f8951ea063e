use Rattle.stream_reader.proofs.{PayloadRefusals.in_payload_is, ReasonsOfStreams.in_payload_first}
use Rattle.stream_reader.proofs.laws.reasons_of_payloads.Goals as goal

pub returns : goal.returns
returns c = record { by_bytes = in_payload_is; first = in_payload_first }
