use Rattle.multibyte_ints.proofs.IntegerBytes.{int_reads_front}
use Rattle.multibyte_ints.proofs.laws.integer_fronts.Goals as goal

pub returns : goal.returns
returns c = int_reads_front
