use Rattle.{std.proofs.Common.refl, multibyte_ints.proofs.TextSteps.stands_at_start}
use Rattle.multibyte_ints.proofs.text.StringReader.new.Goals as goal

pub returns-clause-stands : goal.returns-clause-stands
returns-clause-stands c = stands_at_start _ refl c.new.ensures
