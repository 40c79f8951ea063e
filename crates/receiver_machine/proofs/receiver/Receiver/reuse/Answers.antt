use Rattle.receiver_machine.specs.ReceiverState.{FailedBehind, failure_of, messages_of, owed_of}
use Rattle.receiver_machine.specs.ReceiverState.{settings_of, ShowsStrings, ShowsText, StandsFor}
use Rattle.receiver_machine.{specs.ReceiverState.taken_of, proofs.Owing.owed_kept}
use Rattle.receiver_machine.proofs.receiver.Receiver.reuse.Goals as goal

pub returns-clause-owed : goal.returns-clause-owed
unfolding StandsFor owed_of
returns-clause-owed c = λ p stands. owed_kept _ _ _ p stands (c.reuse.ensures.stands p stands)
