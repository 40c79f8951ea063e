use Rattle.rehearsal.proofs.Words.{text-bad, text-good, text-none}
use Rattle.rehearsal.proofs.line.text.Goals as goal

pub returns-in-Ok : goal.returns-in-Ok
returns-in-Ok c =
    text-good c.args.argument.now c.in-Ok.text c.in-Ok.ensures.0 c.in-Ok.ensures.1

pub returns-in-Err-NotQuoted : goal.returns-in-Err-NotQuoted
returns-in-Err-NotQuoted c = text-none c.args.argument.now
    (rw c.in-Err-NotQuoted.field-0-is at c.in-Err-NotQuoted.ensures)

pub returns-in-Err-BadText : goal.returns-in-Err-BadText
returns-in-Err-BadText c =
    let bad = rw c.in-Err-BadText.field-0-is at c.in-Err-BadText.ensures in
    text-bad c.args.argument.now bad.0 bad.1 bad.2
