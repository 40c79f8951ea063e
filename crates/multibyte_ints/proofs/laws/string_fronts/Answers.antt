use Rattle.multibyte_ints.proofs.TextBytes.{string_reads_front}
use Rattle.multibyte_ints.proofs.laws.string_fronts.Goals as goal

pub returns : goal.returns
returns c = string_reads_front
