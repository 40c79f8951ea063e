-- What a proof unfolds to compute the rows of literal files.
use Rattle.std.specs.{Prelude.⊤, Char.encode_utf8, Str.chars, Str.is_utf8}
use Rattle.csv.proofs.OnLiterals.{csv_on_literals}

unfoldable pub rows_on_literals : ⊤
unfolding csv_on_literals is_utf8 chars encode_utf8
rows_on_literals = tt
