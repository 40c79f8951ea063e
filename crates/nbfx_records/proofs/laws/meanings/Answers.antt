use Rattle.nbfx_records.proofs.MeaningFacts.{meanings_are_found, meanings_are_valid, means_once}
use Rattle.nbfx_records.proofs.{MeaningFacts.nothing_without_names, StayFacts.meanings_stay}
use Rattle.nbfx_records.proofs.WritableFacts.{said_may_be_written}
use Rattle.nbfx_records.proofs.laws.meanings.Goals as goal

pub returns : goal.returns
returns c = record {
  found = meanings_are_found;
  unnamed = nothing_without_names;
  one =
      means_once;
  valid = meanings_are_valid;
  stay = meanings_stay;
  writable = said_may_be_written;
}
