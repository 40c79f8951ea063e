use Rattle.unit_streams.proofs.{Accepted.accepted_or_offended, Offences.offences_are_first}
use Rattle.unit_streams.proofs.Refusals.{refusals_are_three}
use Rattle.stream_reader.{specs.Stream.stream, proofs.Grammar.readable}
use Rattle.stream_reader.proofs.laws.refusals.Goals as goal

pub returns : goal.returns
returns c = record {
  first_is_the_offence = λ x. offences_are_first (stream x);
  are_three = λ x. refusals_are_three (stream x) (readable x);
  accepted = λ x. accepted_or_offended (stream x) (readable x);
}
