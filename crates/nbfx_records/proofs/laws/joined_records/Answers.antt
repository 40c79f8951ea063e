use Rattle.nbfx_records.proofs.PayloadFacts.{records_join, records_stay, written_are_records}
use Rattle.nbfx_records.proofs.laws.joined_records.Goals as goal

pub returns : goal.returns
returns c = record { join = records_join; stay = records_stay; written = written_are_records }
