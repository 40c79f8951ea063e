-- The type byte of each record.
use Rattle.std.specs.Prelude.{ℕ, ◌+◌, ◌-◌, ◌*◌, Bool, true, false, ◌&&◌, nat_lt, nat_le}
use Rattle.nbfx_records.specs.declared.kinds.{NameForm.NameForm, RecordKind.RecordKind}
use Rattle.nbfx_records.specs.declared.kinds.NameForm.TheVariants.{Identified, Inlined}
use Rattle.nbfx_records.specs.declared.kinds.PrefixForm.TheVariants.{Lettered, Prefixed, Unprefixed}
use Rattle.nbfx_records.specs.declared.kinds.TextKind.{TextKind}
use Rattle.nbfx_records.specs.declared.nodes.NameRef.{NameRef, TheVariants.Id, TheVariants.Inline}
use Rattle.nbfx_records.specs.declared.kinds.TextKind.TheVariants as texts
use Rattle.nbfx_records.specs.declared.kinds.RecordKind.TheVariants as records

-- the place of a kind in the table
abbrev pub place_of : TextKind → ℕ
place_of texts.Zero = 0
place_of texts.One = 1
place_of texts.False = 2
place_of texts.True = 3
place_of texts.Int8 = 4
place_of texts.Int16 = 5
place_of texts.Int32 = 6
place_of texts.Int64 = 7
place_of texts.Float = 8
place_of texts.Double = 9
place_of texts.Decimal = 10
place_of texts.DateTime = 11
place_of texts.Chars8 = 12
place_of texts.Chars16 = 13
place_of texts.Chars32 = 14
place_of texts.Bytes8 = 15
place_of texts.Bytes16 = 16
place_of texts.Bytes32 = 17
place_of texts.StartList = 18
place_of texts.EndList = 19
place_of texts.Empty = 20
place_of texts.Dictionary = 21
place_of texts.UniqueId = 22
place_of texts.TimeSpan = 23
place_of texts.Uuid = 24
place_of texts.UInt64 = 25
place_of texts.Bool = 26
place_of texts.UnicodeChars8 = 27
place_of texts.UnicodeChars16 = 28
place_of texts.UnicodeChars32 = 29
place_of texts.QNameDictionary = 30

-- the type byte of a plain text of the kind
abbrev pub text_byte : TextKind → ℕ
text_byte kind = 128 + 2 * place_of kind

-- a record's type byte
abbrev pub byte_of : RecordKind → ℕ
byte_of records.EndElement = 1
byte_of records.Comment = 2
byte_of records.Array = 3
byte_of (records.Attribute Unprefixed Inlined) = 4
byte_of (records.Attribute Prefixed Inlined) = 5
byte_of (records.Attribute Unprefixed Identified) = 6
byte_of (records.Attribute Prefixed Identified) = 7
byte_of (records.Attribute (Lettered c) Identified) = 12 + (c - 97)
byte_of (records.Attribute (Lettered c) Inlined) = 38 + (c - 97)
byte_of (records.Declaration Unprefixed Inlined) = 8
byte_of (records.Declaration Prefixed Inlined) = 9
byte_of (records.Declaration Unprefixed Identified) = 10
byte_of (records.Declaration Prefixed Identified) = 11
byte_of (records.Declaration (Lettered c) name) = 0
byte_of (records.Element Unprefixed Inlined) = 64
byte_of (records.Element Prefixed Inlined) = 65
byte_of (records.Element Unprefixed Identified) = 66
byte_of (records.Element Prefixed Identified) = 67
byte_of (records.Element (Lettered c) Identified) = 68 + (c - 97)
byte_of (records.Element (Lettered c) Inlined) = 94 + (c - 97)
byte_of (records.Text kind false) = text_byte kind
byte_of (records.Text kind true) = text_byte kind + 1

-- a letter from a to z
abbrev pub is_letter : ℕ → Bool
is_letter c = nat_le 97 c && nat_lt c 123

-- whether there is such a record
abbrev pub is_kind : RecordKind → Bool
is_kind (records.Attribute (Lettered c) name) = is_letter c
is_kind (records.Declaration (Lettered c) name) = false
is_kind (records.Element (Lettered c) name) = is_letter c
is_kind (records.Text texts.StartList true) = false
is_kind _ = true

-- how a name is told
abbrev pub form_of : NameRef → NameForm
form_of (Inline s) = Inlined
form_of (Id id) = Identified
