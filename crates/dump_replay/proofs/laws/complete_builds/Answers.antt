use Rattle.dump_replay.proofs.BuildLaws.{builds_are_complete}
use Rattle.dump_replay.proofs.laws.complete_builds.Goals as goal

pub returns : goal.returns
returns c = builds_are_complete
