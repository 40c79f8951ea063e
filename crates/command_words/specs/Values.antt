-- What values write: numbers, the names of modes and encodings, and texts that aren't blank.
use Rattle.std.specs.Prelude.{◌≡◌, ℕ, Bool, ◌||◌, ◌==◌, Some, None, codes, decimal, Option, option_map}
use Rattle.{std.specs.Borrow.Bor, std.specs.List.list_all, nbfx_values.specs.Session.kind_number}
use Rattle.nbfx_values.specs.declared.session.{Encoding.Encoding, Mode.Mode}
use Rattle.nbfx_values.specs.declared.session.Encoding.TheVariants.{Extensible, Known}
use Rattle.nbfx_values.specs.declared.session.Mode.TheVariants.{Duplex, Simplex, Singleton}
use Rattle.command_words.specs.Options.{Text}
use Rattle.nbfx_values.specs.declared.session.Kind.TheVariants as kinds

-- the text of a reference that there may be
abbrev pub text_behind : Option (Bor Text) → Option Text
text_behind = option_map (λ text. text.now)

-- the value is this, written so, or there is no value and this is usual
abbrev pub IsWritten : {A : Type 0} → (A → Text) → A → Option Text → A → Type 0
IsWritten written usual None meant = meant ≡ usual
IsWritten written usual (Some text) meant = text ≡ written meant

-- n is the number that a value writes in decimal digits, or the usual one where there is no value
abbrev pub IsNumber : Option Text → ℕ → ℕ → Type 0
IsNumber value usual n = IsWritten decimal usual value n

abbrev pub mode_name : Mode → Text
mode_name Duplex = codes "duplex"
mode_name Simplex = codes "simplex"
mode_name Singleton = codes "singleton"

-- the mode that a value names, or duplex where there is no value
abbrev pub IsMode : Option Text → Mode → Type 0
IsMode value mode = IsWritten mode_name Duplex value mode

-- the number of an encoding, or what its content type has behind `application/soap+`
abbrev pub encoding_text : Encoding → Text
encoding_text (Known kind) = decimal (kind_number kind)
encoding_text (Extensible kinds.Plain) = codes "msbin1"
encoding_text (Extensible kinds.Session) = codes "msbinsession1"

-- the encoding with a session dictionary, by its number
abbrev pub usual_encoding : Encoding
usual_encoding = Known kinds.Session

-- the encoding that a value names, or the usual one where there is no value
abbrev pub IsEncoding : Option Text → Encoding → Type 0
IsEncoding value encoding = IsWritten encoding_text usual_encoding value encoding

-- space, tab, line feed and carriage return
abbrev pub is_white : ℕ → Bool
is_white c = c == 32 || c == 9 || c == 10 || c == 13

abbrev pub is_blank : Text → Bool
is_blank = list_all is_white
