use Rattle.receiver_machine.specs.ReceiverState.{settings_of, failure_of, StandsFor, FailedBehind}
use Rattle.receiver_machine.specs.ReceiverState.{owed_of}
use Rattle.receiver_machine.proofs.Owing.{owed_fed, repeats_it}
use Rattle.receiver_machine.proofs.receiver.Receiver.feed.Goals as goal

pub returns-clause-unchanged : goal.returns-clause-unchanged
unfolding settings_of failure_of StandsFor FailedBehind
returns-clause-unchanged c = λ refusal e. rw c.after-self.ensures (repeats_it _ _ _ _ refusal
    (c.feed-answer.ensures.unchanged refusal e) (c.feed-answer.ensures.repeated refusal e))

pub returns-clause-owed : goal.returns-clause-owed
unfolding StandsFor owed_of
returns-clause-owed c = λ p stands. rw c.after-self.ensures
    (owed_fed _ _ _ p c.args.piece.now _ stands
    (c.feed-answer.ensures.stands p stands) c.feed-answer.ensures.refused)
