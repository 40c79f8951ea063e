use Rattle.std.proofs.Common.{◌≡◌, Some}
use Rattle.stream_reader.specs.StreamReaderState.{failure_of as failure_at}
use Rattle.receiver_machine.{specs.ReceiverState.FailedBehind, proofs.Owing.failure_is}
use Rattle.receiver_machine.proofs.receiver.Receiver.owed.Goals as goal

pub returns-in-Some-clause-failed : goal.returns-in-Some-clause-failed
unfolding FailedBehind
returns-in-Some-clause-failed c = λ refusal taken p failed.
    let is : failure_at c.args.self.now.reader ≡ Some refusal = failure_is _ refusal taken p failed
    in cc

pub returns-in-None-clause-failed : goal.returns-in-None-clause-failed
unfolding FailedBehind
returns-in-None-clause-failed c = λ refusal taken p failed.
    let is : failure_at c.args.self.now.reader ≡ Some refusal = failure_is _ refusal taken p failed
    in cc
