use Rattle.{std.proofs.Common.ap, line_notation.specs.LineReaderState.ending}
use Rattle.line_notation.proofs.{LinesAre.read-documents, LinesRead.documents-read}
use Rattle.line_notation.proofs.laws.documents.Goals as goal

pub returns : goal.returns
returns c docs lines = (
  λ are. let l = documents-read docs lines are in (l.brings, ap ending l.stands),
  λ read.
      read-documents lines docs read.0 read.1,
)
