use Rattle.std.proofs.Common.{sym, refl, ◌∙◌, arith}
use Rattle.stream_reader.proofs.PayloadSteps.{behind_chunk, behind_more}
use Rattle.stream_reader.proofs.reader.StreamReader.awaits_more.Goals as goal

pub returns-then-payload-gt0-clause-answers : goal.returns-then-payload-gt0-clause-answers
returns-then-payload-gt0-clause-answers c = λ is x z p h.
    behind_more c.args.self.now x z c.args.payload p h c.requires.awaited c.if-payload-gt0.true

pub returns-then-is_chunked-clause-answers : goal.returns-then-is_chunked-clause-answers
returns-then-is_chunked-clause-answers c = λ is x z p h.
    behind_chunk c.args.self.now x z c.args.payload p h (omega (arith, c.if-payload-gt0.false)) _
    (sym c.is_chunked.ensures ∙ c.if-is_chunked.true) refl refl refl refl refl
