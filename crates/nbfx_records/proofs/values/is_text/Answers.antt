use Rattle.nbfx_records.proofs.JudgedFacts.{utf8_told, utf8_refused}
use Rattle.nbfx_records.proofs.values.is_text.Goals as goal

pub returns-in-Ok : goal.returns-in-Ok
returns-in-Ok c = utf8_told c.args.bytes.now c.in-Ok.ensures.cases.1

pub returns-in-Err : goal.returns-in-Err
returns-in-Err c = utf8_refused c.args.bytes.now c.in-Err.ensures.cases.0
