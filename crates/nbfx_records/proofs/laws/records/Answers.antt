use Rattle.nbfx_records.proofs.NodeBytes.{records_are_read, no_record_goes_on}
use Rattle.nbfx_records.proofs.ValidFacts.{records_are_valid}
use Rattle.nbfx_records.proofs.laws.records.Goals as goal

pub returns : goal.returns
returns c = record {
  read = records_are_read;
  none_goes_on = no_record_goes_on;
  valid =
      records_are_valid;
}
