use Rattle.std.proofs.Common.{take, drop, subst, take-append-drop}
use Rattle.stream_reader.specs.{Stepping.UnitAnswers, StreamReaderState.settings_of}
use Rattle.stream_reader.proofs.RunFeeds.{answers_further}
use Rattle.stream_reader.proofs.reader.StreamReader.short_chunks.Goals as goal

pub returns-clause-answers : goal.returns-clause-answers
returns-clause-answers c = λ p h on.
    subst (λ bytes. UnitAnswers (settings_of c.args.self.now) p bytes c.joined_chunks.new.self
    c.joined_chunks.result)
    (take-append-drop c.gather-gathered.result.used c.args.bytes.now)
    (answers_further (settings_of c.args.self.now) p
    (take c.gather-gathered.result.used c.args.bytes.now)
    (drop c.gather-gathered.result.used c.args.bytes.now) c.joined_chunks.new.self
    c.joined_chunks.result
    (c.joined_chunks.ensures.answers p h))
