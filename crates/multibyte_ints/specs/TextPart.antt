-- What a reader of strings waits for.
use Rattle.std.specs.Prelude.{◌≡◌, ℕ, ◌<◌, Bool, true, false}
use Rattle.multibyte_ints.specs.declared.text.Part.{Part}
use Rattle.multibyte_ints.specs.declared.text.Part.TheVariants.{Answered, Length, Text}
use Rattle.multibyte_ints.specs.declared.text.StringStep.{StringStep, TheVariants.More}

-- how many bytes of the text are still to come
abbrev pub left_of : Part → ℕ
left_of Length = 0
left_of (Text left) = left
left_of (Answered step) = 0

-- what it has answered
abbrev pub step_of : Part → StringStep
step_of Length = More
step_of (Text left) = More
step_of (Answered step) = step

-- an answer that it has given is another than More
abbrev pub is_settled : Part → Bool
is_settled (Answered More) = false
is_settled _ = true

-- where it waits for text, there is some to come
abbrev pub Waits : Part → Type 0
Waits Length = Unit {0}
Waits (Text left) = 0 < left
Waits (Answered step) = Unit {0}

-- in this part of a string all bytes were used, so many of so many
abbrev pub InLengthAllUsed : Part → ℕ → ℕ → Type 0
InLengthAllUsed Length used len = used ≡ len
InLengthAllUsed (Text left) used len = Unit {0}
InLengthAllUsed (Answered step) used len = Unit {0}

abbrev pub InTextAllUsed : Part → ℕ → ℕ → Type 0
InTextAllUsed Length used len = used ≡ 0
InTextAllUsed (Text left) used len = (0 < left) × (used ≡ len)
InTextAllUsed (Answered step) used len = Unit {0}

-- the bytes of the length are behind
abbrev pub IsBehindLength : Part → Type 0
IsBehindLength Length = ⊥
IsBehindLength (Text left) = Unit {0}
IsBehindLength (Answered step) = Unit {0}
