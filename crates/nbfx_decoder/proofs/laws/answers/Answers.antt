use Rattle.unit_streams.proofs.{Answers.answers_are_first, Cuts.cuts_change_nothing}
use Rattle.{unit_streams.proofs.Histories.history_is_answers, nbfx_decoder.specs.Payload.payload}
use Rattle.nbfx_decoder.proofs.laws.answers.Goals as goal

pub returns : goal.returns
returns c = record {
  are_first = λ x strings. answers_are_first (payload x strings);
  cuts_change_nothing = λ x strings. cuts_change_nothing (payload x strings);
  make_the_history = λ x strings. history_is_answers (payload x strings);
}
