use Rattle.document_lines.proofs.Written.{no_memory, written}
use Rattle.document_lines.proofs.laws.input_is_written.Goals as goal

pub returns-clause-written : goal.returns-clause-written
returns-clause-written c = written

pub returns-clause-no_memory : goal.returns-clause-no_memory
returns-clause-no_memory c = no_memory
