use Rattle.nbfx_decoder.proofs.PayloadReasons.{cut_where_unended, first_reason_refuses}
use Rattle.nbfx_decoder.proofs.PayloadReasons.{refused_where_shown}
use Rattle.nbfx_decoder.proofs.laws.reasons.Goals as goal

pub returns : goal.returns
returns c = record {
  shown = refused_where_shown;
  cut = cut_where_unended;
  first =
      first_reason_refuses;
}
