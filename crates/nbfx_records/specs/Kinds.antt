-- What begins with which type byte.
use Rattle.std.specs.Prelude.{ℕ, ◌+◌, ◌-◌, ◌/◌, ◌%◌, Bool, true, false, if◌then◌else◌, nat_lt, ◌==◌}
use Rattle.std.specs.Prelude.{slice_get, Some, None, Option, option_and_then}
use Rattle.nbfx_values.specs.declared.content.ArrayKind.{ArrayKind}
use Rattle.nbfx_records.specs.declared.kinds.Body.{Body, TheVariants.Named, TheVariants.Qualified}
use Rattle.nbfx_records.specs.declared.kinds.Body.TheVariants.{Counted, Ending, Fixed, Listed}
use Rattle.nbfx_records.specs.declared.kinds.LengthForm.TheVariants.{FourBytes, OneByte, TwoBytes}
use Rattle.nbfx_records.specs.declared.kinds.{NameForm.NameForm, PrefixForm.PrefixForm}
use Rattle.nbfx_records.specs.declared.kinds.NameForm.TheVariants.{Identified, Inlined}
use Rattle.nbfx_records.specs.declared.kinds.PrefixForm.TheVariants.{Lettered, Prefixed, Unprefixed}
use Rattle.nbfx_records.specs.declared.kinds.{RecordKind.RecordKind, TextKind.TextKind}
use Rattle.nbfx_records.specs.declared.kinds.TheConstants.{TEXT_KINDS}
use Rattle.nbfx_values.specs.declared.content.ArrayKind.TheVariants as arrays
use Rattle.nbfx_records.specs.declared.kinds.TextKind.TheVariants as texts
use Rattle.nbfx_records.specs.declared.kinds.RecordKind.TheVariants as records

-- a name's form, by whether its type byte is the string's
abbrev pub named : Bool → NameForm
named true = Inlined
named false = Identified

-- the lettered forms, which begin with a at a byte
abbrev pub letter_from : ℕ → ℕ → PrefixForm
letter_from first byte = Lettered (97 + (byte - first))

-- 04 to 07 and 40 to 43, as 0 to 3: with a string without and with a prefix, and with an identifier
-- so
abbrev pub prefix_of : ℕ → PrefixForm
prefix_of n = if n % 2 == 0 then Unprefixed else Prefixed

abbrev pub name_of : ℕ → NameForm
name_of n = named (nat_lt n 2)

-- a text's kind: those from 80 on, two bytes each, of which the odd one ends the element
abbrev pub text_kind : ℕ → Option TextKind
text_kind byte = if nat_lt byte 128 then None else slice_get TEXT_KINDS ((byte - 128) / 2)

-- an odd start of a list is no record
abbrev pub text_record : ℕ → TextKind → Option RecordKind
text_record byte texts.StartList =
    if byte % 2 == 0 then Some (records.Text texts.StartList false) else None
text_record byte kind = Some (records.Text kind (byte % 2 == 1))

-- the record that a type byte begins
unfoldable pub record_kind : ℕ → Option RecordKind
record_kind byte =
    if byte == 0 then None
    else if byte == 1 then Some records.EndElement
    else if byte == 2 then Some records.Comment
    else if byte == 3 then Some records.Array
    else if nat_lt byte 8 then Some (records.Attribute (prefix_of (byte - 4)) (name_of (byte - 4)))
    else if nat_lt byte 12
    then Some (records.Declaration (prefix_of (byte - 8)) (name_of (byte - 8)))
    else if nat_lt byte 38 then Some (records.Attribute (letter_from 12 byte) Identified)
    else if nat_lt byte 64 then Some (records.Attribute (letter_from 38 byte) Inlined)
    else if nat_lt byte 68 then Some (records.Element (prefix_of (byte - 64)) (name_of (byte - 64)))
    else if nat_lt byte 94 then Some (records.Element (letter_from 68 byte) Identified)
    else if nat_lt byte 120 then Some (records.Element (letter_from 94 byte) Inlined)
    else option_and_then (text_record byte) (text_kind byte)

-- what follows the type byte of a text
abbrev pub body_of : TextKind → Body
body_of texts.Zero = Fixed 0
body_of texts.One = Fixed 0
body_of texts.False = Fixed 0
body_of texts.True = Fixed 0
body_of texts.Int8 = Fixed 1
body_of texts.Int16 = Fixed 2
body_of texts.Int32 = Fixed 4
body_of texts.Int64 = Fixed 8
body_of texts.Float = Fixed 4
body_of texts.Double = Fixed 8
body_of texts.Decimal = Fixed 16
body_of texts.DateTime = Fixed 8
body_of texts.Chars8 = Counted OneByte
body_of texts.Chars16 = Counted TwoBytes
body_of texts.Chars32 = Counted FourBytes
body_of texts.Bytes8 = Counted OneByte
body_of texts.Bytes16 = Counted TwoBytes
body_of texts.Bytes32 = Counted FourBytes
body_of texts.StartList = Listed
body_of texts.EndList = Ending
body_of texts.Empty = Fixed 0
body_of texts.Dictionary = Named
body_of texts.UniqueId = Fixed 16
body_of texts.TimeSpan = Fixed 8
body_of texts.Uuid = Fixed 16
body_of texts.UInt64 = Fixed 8
body_of texts.Bool = Fixed 1
body_of texts.UnicodeChars8 = Counted OneByte
body_of texts.UnicodeChars16 = Counted TwoBytes
body_of texts.UnicodeChars32 = Counted FourBytes
body_of texts.QNameDictionary = Qualified

-- the kind of an array's values, by the type byte that an array tells it with, which is the odd one
abbrev pub array_kind_of : TextKind → Option ArrayKind
array_kind_of texts.Bool = Some arrays.Bool
array_kind_of texts.Int16 = Some arrays.Int16
array_kind_of texts.Int32 = Some arrays.Int32
array_kind_of texts.Int64 = Some arrays.Int64
array_kind_of texts.Float = Some arrays.Float
array_kind_of texts.Double = Some arrays.Double
array_kind_of texts.Decimal = Some arrays.Decimal
array_kind_of texts.DateTime = Some arrays.DateTime
array_kind_of texts.TimeSpan = Some arrays.TimeSpan
array_kind_of texts.Uuid = Some arrays.Uuid
array_kind_of _ = None

abbrev pub array_kind : ℕ → Option ArrayKind
array_kind byte = if byte % 2 == 1 then option_and_then array_kind_of (text_kind byte) else None

-- the text record that has one of its values
abbrev pub text_kind_in : ArrayKind → TextKind
text_kind_in arrays.Bool = texts.Bool
text_kind_in arrays.Int16 = texts.Int16
text_kind_in arrays.Int32 = texts.Int32
text_kind_in arrays.Int64 = texts.Int64
text_kind_in arrays.Float = texts.Float
text_kind_in arrays.Double = texts.Double
text_kind_in arrays.Decimal = texts.Decimal
text_kind_in arrays.DateTime = texts.DateTime
text_kind_in arrays.TimeSpan = texts.TimeSpan
text_kind_in arrays.Uuid = texts.Uuid

-- how many bytes such a record has behind its type byte, where all of its kind have as many
abbrev pub size_of : Body → ℕ
size_of (Fixed n) = n
size_of _ = 0

-- how many bytes a value of an array has
abbrev pub width_of : ArrayKind → ℕ
width_of kind = size_of (body_of (text_kind_in kind))
