use Rattle.nbfx_records.proofs.FaultCauses.{wrong_by_part, wrong_by_text, wrong_by_value}
use Rattle.nbfx_records.proofs.laws.faults.Goals as goal

pub returns : goal.returns
returns c = record { by_part = wrong_by_part; bad_utf8 = wrong_by_text; bad_value = wrong_by_value }
