-- The words that are put.
use Rattle.std.specs.Prelude.{ℕ, ◌≤◌, List, ◌∷◌, decimal, flat_map}
use Rattle.{std.specs.Fmt.signed_decimal, hex.specs.Hex.encode_lower}
use Rattle.line_notation.specs.declared.puts.Word.{Word, TheVariants.Quoted}
use Rattle.line_notation.specs.declared.puts.Word.TheVariants.{Digits, DigitsInQuotes, Identifier}
use Rattle.line_notation.specs.declared.puts.Word.TheVariants.{Integer, Letter, Natural, Plain}
use Rattle.line_notation.specs.Quoted.{quoted}
use Rattle.line_notation.specs.Scalars.{digits_in_quotes, identifier_word, letter_word}

-- a word's bytes
abbrev pub word_bytes : Word → List ℕ
word_bytes (Plain text) = text.now
word_bytes (Quoted text) = quoted text.now
word_bytes (Natural n) = decimal n
word_bytes (Integer n) = signed_decimal n
word_bytes (Digits bytes) = encode_lower bytes.now
word_bytes (DigitsInQuotes bytes) = digits_in_quotes bytes.now
word_bytes (Identifier bytes) = identifier_word bytes.now
word_bytes (Letter letter) = letter_word letter

-- a letter is one of a to z
abbrev pub IsPuttable : Word → Type 0
IsPuttable (Letter letter) = letter ≤ 25
IsPuttable _ = Unit {0}

-- words, each behind a space
abbrev pub spaced_word : Word → List ℕ
spaced_word word = 32 ∷ word_bytes word

abbrev pub spaced_words : List Word → List ℕ
spaced_words = flat_map spaced_word

-- words, one right behind the other
abbrev pub joined_words : List Word → List ℕ
joined_words = flat_map word_bytes
