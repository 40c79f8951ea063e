use Rattle.unit_streams.proofs.{Answers.answers_are_first, Pending.pending_history}
use Rattle.unit_streams.proofs.{Cuts.cuts_change_nothing, Histories.history_is_answers}
use Rattle.stream_reader.specs.Stream.{stream}
use Rattle.stream_reader.proofs.laws.answers.Goals as goal

pub returns : goal.returns
returns c = record {
  are_first = λ x. answers_are_first (stream x);
  cuts_change_nothing = λ x. cuts_change_nothing (stream x);
  make_the_history = λ x. history_is_answers (stream x);
  so_far = λ x. pending_history (stream x);
}
