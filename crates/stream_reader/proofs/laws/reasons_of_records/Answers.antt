use Rattle.stream_reader.proofs.{Reasons.refused_by_record, ReasonsOfStreams.refused_first}
use Rattle.stream_reader.proofs.laws.reasons_of_records.Goals as goal

pub returns : goal.returns
returns c = record { by_record = refused_by_record; first = refused_first }
