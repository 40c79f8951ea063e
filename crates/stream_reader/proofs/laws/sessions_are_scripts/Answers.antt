use Rattle.stream_reader.proofs.Scripts.{sessions_are_scripts}
use Rattle.stream_reader.proofs.laws.sessions_are_scripts.Goals as goal

pub returns : goal.returns
returns c = sessions_are_scripts
