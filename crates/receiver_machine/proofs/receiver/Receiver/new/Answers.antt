use Rattle.receiver_machine.specs.ReceiverState.{settings_of, StandsFor, owed_of}
use Rattle.receiver_machine.proofs.Owing.{owed_unfailed, unfailed}
use Rattle.receiver_machine.proofs.receiver.Receiver.new.Goals as goal

pub returns-clause-owed : goal.returns-clause-owed
unfolding owed_of
returns-clause-owed c = owed_unfailed _ _ (unfailed _ _ c.in_ok-reader.ensures.stands)
