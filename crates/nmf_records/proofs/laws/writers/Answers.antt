use Rattle.nmf_records.proofs.Written.{written_are_records, written_are_read}
use Rattle.nmf_records.proofs.laws.writers.Goals as goal

pub returns-clause-written : goal.returns-clause-written
returns-clause-written c = written_are_records

pub returns-clause-read : goal.returns-clause-read
returns-clause-read c = written_are_read
