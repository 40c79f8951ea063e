-- What is answered to bytes at whose front an integer is read.
use Rattle.std.specs.Prelude.{◌≡◌, ℕ, ◌^◌, ◌<◌, List}
use Rattle.unit_streams.specs.Front.{begun, whole, wrong}
use Rattle.multibyte_ints.specs.{declared.front.IntRead.IntRead, Integer.int_at}
use Rattle.multibyte_ints.specs.declared.front.IntRead.TheVariants.{Bad, Done, More}

-- what stands there
abbrev pub StandsAtFront : List ℕ → IntRead → Type 0
StandsAtFront b More = int_at b ≡ begun
StandsAtFront b (Done value used) = (int_at b ≡ whole value used) × (value < 2 ^ 31)
StandsAtFront b Bad = int_at b ≡ wrong tt 5
