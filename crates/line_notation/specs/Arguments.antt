-- What a text in quotes and a number are read as that stand by themselves.
use Rattle.std.specs.Prelude.{◌≡◌, ℕ, false, true, List, if◌then◌else◌, nat_le, Some, None, Ok, Err, Option}
use Rattle.std.specs.{Prelude.Result, Prelude.⊤, Str.is_utf8}
use Rattle.line_notation.specs.declared.arguments.QuoteFault.{QuoteFault, TheVariants.BadText}
use Rattle.line_notation.specs.declared.arguments.QuoteFault.TheVariants.{Memory, NotQuoted}
use Rattle.line_notation.specs.{Numerals.natural_in, Options.◌>>=◌, Quoted.IsQuoted}

-- A word is read as the text that it writes. It is refused where it writes none, and behind that
-- where the text isn't UTF-8.
abbrev pub Unquotes : List ℕ → Result (List ℕ) QuoteFault → Type 0
Unquotes word (Ok text) = IsQuoted text word × (is_utf8 text ≡ true)
Unquotes word (Err NotQuoted) = (text : List ℕ) → ¬ IsQuoted text word
Unquotes word (Err BadText) = (text : List ℕ) × IsQuoted text word × (is_utf8 text ≡ false)
Unquotes word (Err Memory) = ⊤

-- the number that a word writes, if it isn't greater
abbrev pub number_up_to : ℕ → List ℕ → Option ℕ
number_up_to most word = natural_in word >>= λ n. if nat_le n most then Some n else None
