-- The string table that a payload of MC-NBFSE begins with: how many bytes its strings have, and
-- then they.
use Rattle.std.specs.Prelude.{ℕ, ◌-◌, max, List, if◌then◌else◌, nat_lt, Ok, Err, Result}
use Rattle.{std.specs.Str.is_utf8, multibyte_ints.specs.Integer.int_at}
use Rattle.unit_streams.specs.Parts.{judged, judged_at, Reader, seen, some_bytes, within, ◌>>=◌}
use Rattle.nbfx_values.specs.declared.refusals.Reason.{Reason, TheVariants.TableCut}
use Rattle.nbfx_values.specs.declared.refusals.Reason.TheVariants.{BadInt, BadUtf8, DictionaryFull}

-- a string of a table, and how many bytes of the table are left behind it
pub record TableString : Type 0 where
  pub text : List ℕ
  pub left : ℕ

-- how long a string's text is, and how many bytes of the table are left behind that
pub record StringHead : Type 0 where
  pub size : ℕ
  pub left : ℕ

abbrev pub table_integer : Reader ℕ Reason
table_integer bytes = seen (λ n. n) (λ _. BadInt) (int_at bytes)

-- A length of so many bytes, where so many bytes of the table are left, and so much of what its
-- strings may cost: the text may not pass the table's end, nor cost more.
abbrev pub length_judged : ℕ → ℕ → ℕ → ℕ → Result StringHead Reason
length_judged room left size used =
    if nat_lt (left - used) size then Err TableCut
    else if nat_lt room (max size 1) then Err DictionaryFull
    else Ok (record { size = size; left = left - used - size })

-- the length of a string; one that isn't whole at the table's end is cut
unfoldable pub head_at : ℕ → ℕ → Reader StringHead Reason
head_at room left bytes =
    judged_at (length_judged room left) (within left TableCut table_integer bytes)

abbrev pub text_judged : List ℕ → Result (List ℕ) Reason
text_judged bytes = if is_utf8 bytes then Ok bytes else Err BadUtf8

-- the text of a string
abbrev pub table_text_at : StringHead → Reader TableString Reason
table_text_at head bytes =
    seen (λ text. record { text = text; left = head.left }) (λ reason. reason)
    (judged text_judged (some_bytes head.size bytes))

-- a string of a table of which so many bytes are left, where its strings may cost so much more
unfoldable pub table_string_at : ℕ → ℕ → Reader TableString Reason
table_string_at room left = head_at room left >>= table_text_at
