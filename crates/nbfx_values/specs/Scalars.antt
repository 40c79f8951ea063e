-- Which values a record of MC-NBFX can hold. Numbers have no greatest here, and a text is any list,
-- so what the types of a program keep anyway is said too.
use Rattle.std.specs.Prelude.{ℕ, ◌-◌, ◌^◌, Bool, true, not, ◌&&◌, List, length, ℤ, pos, negsuc}
use Rattle.std.specs.Prelude.{nat_lt, nat_le, ◌==◌, int_lt}
use Rattle.std.specs.{List.list_all, Str.is_utf8}
use Rattle.nbfx_values.specs.declared.scalars.{Scalar.Scalar, Value.Value}
use Rattle.nbfx_values.specs.declared.scalars.Scalar.TheVariants.{Bytes, DateTime, Decimal, Double}
use Rattle.nbfx_values.specs.declared.scalars.Scalar.TheVariants.{Float, Number, QName, Text}
use Rattle.nbfx_values.specs.declared.scalars.Scalar.TheVariants.{TimeSpan, Truth, UniqueId, Uuid}
use Rattle.nbfx_values.specs.declared.scalars.Value.TheVariants.{List as ListOf, One}

-- whether a number is from the first to the last
abbrev pub is_between : ℤ → ℤ → ℤ → Bool
is_between first last n = not (int_lt n first) && not (int_lt last n)

-- the least and the greatest number of so many bits, one of which is the sign
abbrev pub least_signed : ℕ → ℤ
least_signed bits = negsuc (2 ^ (bits - 1) - 1)

abbrev pub greatest_signed : ℕ → ℤ
greatest_signed bits = pos (2 ^ (bits - 1) - 1)

abbrev pub is_signed : ℕ → ℤ → Bool
is_signed bits = is_between (least_signed bits) (greatest_signed bits)

-- whether a number has so many bits, none of which is a sign
abbrev pub is_unsigned : ℕ → ℕ → Bool
is_unsigned bits n = nat_lt n (2 ^ bits)

-- whether a number has a record: the widest with a sign has 64 bits, and so has the one without
abbrev pub is_number : ℤ → Bool
is_number = is_between (least_signed 64) (pos (2 ^ 64 - 1))

-- whether all are bytes, and whether they are an identifier
abbrev pub are_bytes : List ℕ → Bool
are_bytes = list_all (is_unsigned 8)

abbrev pub is_identifier : List ℕ → Bool
is_identifier bytes = length bytes == 16 && are_bytes bytes

abbrev pub is_valid_scalar : Scalar → Bool
is_valid_scalar (Number n) = is_number n
is_valid_scalar (Truth truth) = true
is_valid_scalar (Float bits) = is_unsigned 32 bits
is_valid_scalar (Double bits) = is_unsigned 64 bits
is_valid_scalar (Decimal d) = nat_le d.scale 28 && is_unsigned 96 d.magnitude
is_valid_scalar (DateTime pattern) = is_unsigned 64 pattern
is_valid_scalar (TimeSpan span) = is_signed 64 span
is_valid_scalar (Text bytes) = is_utf8 bytes
is_valid_scalar (Bytes bytes) = are_bytes bytes
is_valid_scalar (UniqueId bytes) = is_identifier bytes
is_valid_scalar (Uuid bytes) = is_identifier bytes
is_valid_scalar (QName letter name) = nat_le letter 25 && is_utf8 name

abbrev pub is_valid_value : Value → Bool
is_valid_value (One s) = is_valid_scalar s
is_valid_value (ListOf ss) = list_all is_valid_scalar ss
