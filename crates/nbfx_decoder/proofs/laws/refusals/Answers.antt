use Rattle.unit_streams.proofs.{Accepted.accepted_or_offended, Offences.offences_are_first}
use Rattle.nbfx_decoder.{specs.Payload.payload, proofs.Readable.readable}
use Rattle.nbfx_decoder.proofs.laws.refusals.Goals as goal

pub returns : goal.returns
returns c = record {
  first_is_the_offence = λ x strings. offences_are_first (payload x strings);
  accepted = λ x strings. accepted_or_offended (payload x strings) (readable x strings);
}
