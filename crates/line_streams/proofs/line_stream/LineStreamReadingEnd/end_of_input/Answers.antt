use Rattle.std.proofs.Common.{ap}
use Rattle.stream_loop.specs.Answers.{said_at_end}
use Rattle.line_streams.proofs.line_stream.LineStreamReadingEnd.end_of_input.Goals as goal

pub returns-in-Some-clause-answers : goal.returns-in-Some-clause-answers
returns-in-Some-clause-answers g c = λ p stands. ap said_at_end (c.in-Some.ensures p stands.1)

pub returns-in-None-clause-answers : goal.returns-in-None-clause-answers
returns-in-None-clause-answers g c = λ p stands. ap said_at_end (c.in-None.ensures p stands.1)
