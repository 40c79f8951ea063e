use Rattle.nbfx_records.proofs.PayloadFacts.{strings_once, written_are_strings, written_is_table}
use Rattle.nbfx_records.proofs.laws.joined_strings.Goals as goal

pub returns : goal.returns
returns c = record { once = strings_once; written = written_are_strings; table = written_is_table }
