-- What a reader of integers stands for, and what it answers. A reader doesn't keep the bytes that
-- it used.
use Rattle.std.specs.Prelude.{◌≡◌, ℕ, ◌⊎◌, List, [], length}
use Rattle.unit_streams.specs.Front.{begun, whole, wrong}
use Rattle.multibyte_ints.specs.declared.integer.{IntReader.IntReader, IntStep.IntStep}
use Rattle.multibyte_ints.specs.declared.integer.IntStep.TheVariants.{Bad, Done, More}
use Rattle.multibyte_ints.specs.declared.integer.State.TheVariants.{Refused, Within}
use Rattle.multibyte_ints.specs.Integer.{int_at, value_of}

-- an integer has begun, whose bytes are so many and add up to this
pub record Holds (reader : IntReader) (p : List ℕ) : Type 0 where
  pub begun : int_at p ≡ begun
  pub state : reader.state ≡ Within (length p) (value_of p)

-- the bytes are no integer
pub record HasFailed (reader : IntReader) (p : List ℕ) : Type 0 where
  pub wrong : int_at p ≡ wrong tt 5
  pub state : reader.state ≡ Refused

-- the bytes since the last whole integer
unfoldable pub StandsFor : IntReader → List ℕ → Type 0
StandsFor reader p = Holds reader p ⊎ HasFailed reader p

-- the answer at the last of these bytes
abbrev pub AnswersAt : List ℕ → IntStep → Type 0
AnswersAt p More = int_at p ≡ begun
AnswersAt p (Done n) = int_at p ≡ whole n (length p)
AnswersAt p Bad = int_at p ≡ wrong tt 5

-- of these bytes, those since the last whole integer
abbrev pub since : IntStep → List ℕ → List ℕ
since More p = p
since (Done n) p = []
since Bad p = p
