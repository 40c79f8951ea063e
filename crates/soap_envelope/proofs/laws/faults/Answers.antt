use Rattle.soap_envelope.proofs.{FaultSizes.unfit_names_are_unfit, LawFacts.faults_are_viewed}
use Rattle.soap_envelope.proofs.laws.faults.Goals as goal

pub returns-clause-viewed : goal.returns-clause-viewed
returns-clause-viewed c = faults_are_viewed

pub returns-clause-unfit : goal.returns-clause-unfit
returns-clause-unfit c = unfit_names_are_unfit
