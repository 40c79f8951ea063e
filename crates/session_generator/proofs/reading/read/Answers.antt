use Rattle.{std.proofs.Common.◌∙◌, unit_streams.specs.Judging.answer}
use Rattle.{stream_reader.specs.Stream.stream, receiver_machine.specs.ReceiverState.settings_of}
use Rattle.session_generator.proofs.Answered.{refused_so, taken_so}
use Rattle.session_generator.proofs.reading.read.Goals as goal

pub returns-in-Err-Offence-clause-settings : goal.returns-in-Err-Offence-clause-settings
returns-in-Err-Offence-clause-settings c = c.feed.ensures.settings

pub returns-in-Err-Offence-clause-answered : goal.returns-in-Err-Offence-clause-answered
returns-in-Err-Offence-clause-answered c = λ p stands going.
    refused_so p c.args.bytes.now c.feed.new.self
    (answer (stream (settings_of c.args.receiver.now)) p c.args.bytes.now) c.in-Err-Offence.offence
    (rw c.in-Err-Offence.field-0-is at (c.in-Err-Offence.ensures.answers p stands going))

pub returns-in-Err-Memory-clause-settings : goal.returns-in-Err-Memory-clause-settings
returns-in-Err-Memory-clause-settings c = c.feed.ensures.settings

pub returns-in-Message-clause-settings : goal.returns-in-Message-clause-settings
returns-in-Message-clause-settings c = c.reuse.ensures.settings ∙ c.feed.ensures.settings

pub returns-in-Message-clause-answered : goal.returns-in-Message-clause-answered
returns-in-Message-clause-answered c = λ p stands going.
    taken_so p c.args.bytes.now c.reuse.new.self
    (answer (stream (settings_of c.args.receiver.now)) p c.args.bytes.now) c.in-Ok.field-0-0
    c.in-Ok.step (c.in-Ok.ensures.answers p stands going)
    (c.reuse.ensures.stands _ (c.in-Ok.ensures.stands p stands))

pub returns-in_default : goal.returns-in_default
returns-in_default c = record {
  settings = c.feed.ensures.settings;
  answered = λ p stands going.
      taken_so p c.args.bytes.now c.feed.new.self
      (answer (stream (settings_of c.args.receiver.now)) p c.args.bytes.now) c.in-Ok.field-0-0
      c.in-Ok.step (c.in-Ok.ensures.answers p stands going) (c.in-Ok.ensures.stands p stands);
}
