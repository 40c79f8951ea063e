use Rattle.soap_envelope.proofs.{BodyNames.bodies_are_named, LawFacts.bodies_stand}
use Rattle.soap_envelope.proofs.ReplySizes.{unfit_bodies_are_unfit}
use Rattle.soap_envelope.proofs.laws.bodies.Goals as goal

pub returns-clause-stand : goal.returns-clause-stand
returns-clause-stand c = bodies_stand

pub returns-clause-named : goal.returns-clause-named
returns-clause-named c = bodies_are_named

pub returns-clause-unfit : goal.returns-clause-unfit
returns-clause-unfit c = unfit_bodies_are_unfit
