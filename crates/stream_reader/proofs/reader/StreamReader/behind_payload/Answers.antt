use Rattle.{std.proofs.Common.subst, stream_reader.proofs.PayloadSteps.decoded_as}
use Rattle.stream_reader.specs.{declared.reader.StreamReader.StreamReader, Stepping.KeepsFraming}
use Rattle.stream_reader.proofs.reader.StreamReader.behind_payload.Goals as goal

pub returns-clause-answers : goal.returns-clause-answers
returns-clause-answers c = λ x z p h.
    c.behind_last.ensures.answers x z p
    (decoded_as (c.awaits_more.ensures.unchanged c.if-awaits_more.false) h)

pub returns-clause-keeps : goal.returns-clause-keeps
returns-clause-keeps c =
    subst (λ (s : StreamReader). KeepsFraming s c.behind_last.new.self)
    (c.awaits_more.ensures.unchanged c.if-awaits_more.false) c.behind_last.ensures.keeps
