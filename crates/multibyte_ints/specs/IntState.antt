-- What a reader of integers has of one.
use Rattle.{std.specs.Prelude.ℕ, multibyte_ints.specs.declared.integer.State.State}
use Rattle.multibyte_ints.specs.declared.integer.State.TheVariants.{Refused, Within}

-- how many bytes
abbrev pub count_of : State → ℕ
count_of (Within count value) = count
count_of Refused = 0

-- what they add up to
abbrev pub sum_of : State → ℕ
sum_of (Within count value) = value
sum_of Refused = 0
