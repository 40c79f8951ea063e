use Rattle.{std.proofs.Common.length, unit_streams.specs.Judging.answer}
use Rattle.{stream_reader.specs.Stream.stream, receiver_machine.specs.ReceiverState.settings_of}
use Rattle.duplex_server.proofs.Saying.{step_said}
use Rattle.duplex_server.proofs.requests.RequestReaderReadingEnd.feed.Goals as goal

pub returns-in-Ok-clause-answers : goal.returns-in-Ok-clause-answers
returns-in-Ok-clause-answers c = λ p stands on.
    rw c.request_in.ensures (step_said (length c.args.piece.now)
    (answer (stream (settings_of c.args.self.now.receiver)) p c.args.piece.now) c.in-Ok.n
    c.in-Ok.step
    (c.in-Ok.ensures.answers p stands on))
