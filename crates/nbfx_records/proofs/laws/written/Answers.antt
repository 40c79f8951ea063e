use Rattle.nbfx_records.proofs.ChosenNodes.{chosen_is, chosen_is_read}
use Rattle.nbfx_records.proofs.ChosenLengths.{chosen_is_shortest}
use Rattle.nbfx_records.proofs.laws.written.Goals as goal

pub returns : goal.returns
returns c = record {
  is_record = chosen_is;
  read_back = chosen_is_read;
  shortest =
      chosen_is_shortest;
}
