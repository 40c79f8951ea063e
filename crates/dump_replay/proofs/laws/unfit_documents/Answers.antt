use Rattle.dump_replay.proofs.BuildLaws.{unfit_has_a_cause}
use Rattle.dump_replay.proofs.laws.unfit_documents.Goals as goal

pub returns : goal.returns
returns c = unfit_has_a_cause
