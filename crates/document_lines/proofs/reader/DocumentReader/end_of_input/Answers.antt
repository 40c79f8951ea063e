use Rattle.{std.proofs.Common.ap, document_lines.specs.DocumentReaderState.said_at_end}
use Rattle.document_lines.specs.DocumentReaderState.{settings_of, StandsFor}
use Rattle.document_lines.proofs.reader.DocumentReader.end_of_input.Goals as goal

pub returns-in-Some-fault_at_end-clause-answers : goal.returns-in-Some-fault_at_end-clause-answers
unfolding StandsFor settings_of
returns-in-Some-fault_at_end-clause-answers c = λ p h.
    rw c.fail.ensures.same (ap said_at_end (c.in-Some-fault_at_end.ensures p h.reached))

pub returns-in-None-clause-answers : goal.returns-in-None-clause-answers
unfolding StandsFor settings_of
returns-in-None-clause-answers c = λ p h. ap said_at_end (c.in-None.ensures p h.reached)
