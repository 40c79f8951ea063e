use Rattle.line_notation.proofs.EscapeFacts.{row_few, row_len, row_shows}
use Rattle.line_notation.proofs.escapes.shown.Goals as goal

pub returns-clause-len : goal.returns-clause-len
returns-clause-len c = rw c.to_be_bytes.ensures (row_len c.args.byte c.ranges.byte.fits)

pub returns-clause-few : goal.returns-clause-few
returns-clause-few c = rw c.to_be_bytes.ensures (row_few c.args.byte c.ranges.byte.fits)

pub returns-clause-shown : goal.returns-clause-shown
returns-clause-shown c = rw c.to_be_bytes.ensures (row_shows c.args.byte c.ranges.byte.fits)
