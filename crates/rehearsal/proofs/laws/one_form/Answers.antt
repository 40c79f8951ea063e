use Rattle.rehearsal.proofs.FormFacts.{one-form}
use Rattle.rehearsal.proofs.laws.one_form.Goals as goal

pub returns : goal.returns
returns c = one-form
