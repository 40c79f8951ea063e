use Rattle.stream_reader.proofs.SessionEnds.{sessions_are_told, spells_one_session}
use Rattle.stream_reader.proofs.laws.sessions.Goals as goal

pub returns : goal.returns
returns c = record { told = sessions_are_told; one = spells_one_session }
