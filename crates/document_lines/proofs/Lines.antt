-- What holds of lines of documents as it does of any lines.
use Rattle.std.proofs.Common.{arith}
use Rattle.unit_streams.specs.Grammar.{IsReadable}
use Rattle.line_streams.proofs.LineFacts.{begins as lines_begin, bounded as lines_bounded}
use Rattle.line_streams.proofs.LineFacts.{closes as lines_close, readable as lines_readable}
use Rattle.document_lines.specs.Input.{document_rules, lines_of_documents, Settings}
use Rattle.document_lines.specs.Laws.{InputIsBounded, InputIsClosed, InputMayBegin}

pub readable : (x : Settings) → IsReadable (lines_of_documents x)
readable x = lines_readable (document_rules x)

pub closes : InputIsClosed
closes x = lines_close (document_rules x)

pub begins : InputMayBegin
begins x some = lines_begin (document_rules x) (omega (arith, some))

pub bounded : InputIsBounded
bounded x bytes pending = lines_bounded (document_rules x) bytes pending
