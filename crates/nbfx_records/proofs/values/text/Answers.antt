use Rattle.nbfx_records.proofs.JudgedFacts.{text_made, text_refused}
use Rattle.nbfx_records.proofs.values.text.Goals as goal

pub returns-in_ok-of-in-Ok : goal.returns-in_ok-of-in-Ok
returns-in_ok-of-in-Ok c = text_made c.args.bytes.now c.in-Ok.text.now c.in_ok-of-in-Ok.field-0
    c.in-Ok.ensures.cases.1 c.in-Ok.ensures.cases.0 c.in_ok-of-in-Ok.ensures.same

pub returns-in-Err : goal.returns-in-Err
returns-in-Err c = text_refused c.args.bytes.now c.in-Err.ensures.cases.0
