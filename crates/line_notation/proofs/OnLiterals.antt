-- What a proof unfolds to compute the definitions on literal lines and items.
use Rattle.{std.specs.Prelude.⊤, hex.proofs.OnLiterals.hex_on_literals}
use Rattle.nbfx_values.proofs.OnLiterals.{values_on_literals}
use Rattle.line_notation.specs.{Lines.items_text, Quoted.quoted, Values.tokens_within}

unfoldable pub lines_on_literals : ⊤
unfolding hex_on_literals values_on_literals items_text quoted tokens_within
lines_on_literals = tt
