use Rattle.nbfx_decoder.proofs.PayloadAnswers.{finished_where_whole, goes_on_unrefused}
use Rattle.nbfx_decoder.proofs.PayloadAnswers.{goes_on_where_nothing, nothing_is_refused}
use Rattle.nbfx_decoder.proofs.PayloadAnswers.{offends_where_shown}
use Rattle.nbfx_decoder.proofs.laws.reading.Goals as goal

pub returns : goal.returns
returns c = record {
  offends = offends_where_shown;
  goes_on = goes_on_where_nothing;
  begins = nothing_is_refused;
  unrefused = goes_on_unrefused;
  finished = finished_where_whole;
}
