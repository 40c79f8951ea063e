use Rattle.unit_streams.proofs.{Standing.standing_append, Units.no_unit_goes_on}
use Rattle.nbfx_decoder.{specs.Payload.payload, proofs.Readable.readable}
use Rattle.nbfx_decoder.proofs.laws.units.Goals as goal

pub returns : goal.returns
returns c = record {
  standings_go_on = λ x strings. standing_append (payload x strings) (readable x strings);
  none_goes_on = λ x strings. no_unit_goes_on (payload x strings) (readable x strings);
}
