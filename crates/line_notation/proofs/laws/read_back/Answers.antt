use Rattle.line_notation.proofs.LinesRead.{put-read}
use Rattle.line_notation.proofs.laws.read_back.Goals as goal

pub returns-clause-document : goal.returns-clause-document
returns-clause-document c doc d = (put-read doc d).brings

pub returns-clause-ended : goal.returns-clause-ended
returns-clause-ended c doc d = (put-read doc d).stands
