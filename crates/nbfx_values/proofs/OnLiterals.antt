-- What a proof unfolds to compute the definitions on literal items and values.
use Rattle.std.specs.{Prelude.⊤, Char.encode_utf8, Fmt.digits, Str.chars, Str.is_utf8}
use Rattle.uuid.specs.Text.{by_index}

unfoldable pub values_on_literals : ⊤
unfolding is_utf8 chars encode_utf8 digits by_index
values_on_literals = tt
