-- The loop may read the streams of a reading end.
use Rattle.{std.proofs.Common.arith, nbfx_values.specs.Limits.IsGood}
use Rattle.stream_reader.proofs.{Closing.closes, Readings.few_bytes, Readings.first_unrefused}
use Rattle.stream_reader.specs.Stream.{ends, Settings, stream}
use Rattle.stream_loop.specs.Answers.{EndsWithin}

pub ends_within : (x : Settings) → IsGood x.limits → EndsWithin (stream x) ends x.limits.session
ends_within x good = record {
  closes = closes x;
  first = let some = good.session_least in first_unrefused x (omega (arith, some));
  within = λ p pending. let few = few_bytes x p pending in omega (arith, few);
}
