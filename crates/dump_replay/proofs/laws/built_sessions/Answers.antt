use Rattle.dump_replay.proofs.BuildLaws.{built_are_sessions}
use Rattle.dump_replay.proofs.laws.built_sessions.Goals as goal

pub returns : goal.returns
returns c = built_are_sessions
