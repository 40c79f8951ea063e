use Rattle.{std.proofs.Common.refl, multibyte_ints.proofs.ReaderSteps.stands_for_none}
use Rattle.multibyte_ints.proofs.integer.IntReader.new.Goals as goal

pub returns : goal.returns
returns c = stands_for_none _ refl
