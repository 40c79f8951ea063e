use Rattle.unit_streams.proofs.{Ends.ends_are_closed, Standing.standing_append}
use Rattle.{unit_streams.proofs.Units.no_unit_goes_on, stream_reader.specs.Stream.stream}
use Rattle.stream_reader.proofs.{Closing.closes, Grammar.quiet_over, Grammar.readable}
use Rattle.stream_reader.proofs.laws.units.Goals as goal

pub returns : goal.returns
returns c = record {
  standings_go_on = λ x. standing_append (stream x) (readable x);
  none_goes_on = λ x. no_unit_goes_on (stream x) (readable x);
  ends_are_closed = λ x. ends_are_closed (stream x) (readable x) (quiet_over x);
  closed = closes;
}
