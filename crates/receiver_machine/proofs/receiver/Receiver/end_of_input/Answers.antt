use Rattle.std.proofs.Common.{◌≡◌, Err, ap}
use Rattle.stream_reader.proofs.EndTold.{ends_refused, ends_well}
use Rattle.stream_reader.specs.declared.reader.ReadRefusal.TheVariants.{Offence as Refused}
use Rattle.stream_reader.specs.declared.reader.StreamReader.{StreamReader}
use Rattle.stream_reader.specs.StreamReaderState.{failure_of as failure_at}
use Rattle.receiver_machine.{specs.declared.receiver.Receiver.Receiver, proofs.Owing.owed_failed}
use Rattle.receiver_machine.specs.ReceiverState.{FailedBehind, failure_of, messages_of, owed_of}
use Rattle.receiver_machine.specs.ReceiverState.{owed_unless, settings_of, ShowsStrings, ShowsText}
use Rattle.receiver_machine.specs.ReceiverState.{StandsFor, taken_of}
use Rattle.receiver_machine.proofs.receiver.Receiver.end_of_input.Goals as goal

pub unreachable-requires : goal.unreachable-requires
unfolding settings_of taken_of messages_of failure_of ShowsText ShowsStrings StandsFor FailedBehind
unreachable-requires c = c.requires
    (c.in-Err-Memory.ensures.wanted (ap Err c.in-Err-Memory.field-0-is))

pub returns-in-Ok-clause-answers : goal.returns-in-Ok-clause-answers
unfolding settings_of taken_of messages_of failure_of ShowsText ShowsStrings StandsFor FailedBehind
returns-in-Ok-clause-answers c = λ p stands. ends_well _ (c.in-Ok.ensures.answers p stands)

pub returns-in-Err-Offence-clause-answers : goal.returns-in-Err-Offence-clause-answers
unfolding settings_of taken_of messages_of failure_of ShowsText ShowsStrings StandsFor FailedBehind
returns-in-Err-Offence-clause-answers c = λ p stands. ends_refused _ c.in-Err-Offence.offence
    (rw c.in-Err-Offence.field-0-is at (c.in-Err-Offence.ensures.answers p stands))

pub returns-in-Err-Offence-clause-owed : goal.returns-in-Err-Offence-clause-owed
unfolding owed_of
returns-in-Err-Offence-clause-owed c = λ p stands.
    owed_failed _ _ (Refused c.in-Err-Offence.offence)
    (rw c.in-Err-Offence.field-0-is at c.in-Err-Offence.ensures.refused)
