-- What the bytes of each node are, one row for each record of MC-NBFX.
use Rattle.std.specs.Prelude.{◌≡◌, ℕ, ◌+◌, ◌*◌, ◌^◌, ◌<◌, ◌≤◌, Bool, true, false, ◌⊎◌, List, []}
use Rattle.std.specs.Prelude.{◌∷◌, ◌++◌, length, pos, if◌then◌else◌, Some, IsUtf8}
use Rattle.std.specs.Int.{Width, byte_len, cast_signed, from_le_bytes, w16, w32, w64, w8}
use Rattle.multibyte_ints.specs.{Integer.Spells, Text.IsString}
use Rattle.nbfx_values.specs.declared.{content.ArrayKind.ArrayKind, scalars.Scalar.Scalar}
use Rattle.nbfx_values.specs.declared.scalars.Scalar.TheVariants.{Bytes, DateTime, Decimal, Double}
use Rattle.nbfx_values.specs.declared.scalars.Scalar.TheVariants.{Float, Number, Text as TextOf}
use Rattle.nbfx_values.specs.declared.scalars.Scalar.TheVariants.{TimeSpan, Truth, UniqueId, Uuid}
use Rattle.nbfx_records.specs.{declared.kinds.TextKind.TextKind, TypeBytes.byte_of}
use Rattle.nbfx_records.specs.declared.nodes.{ArrayNode.ArrayNode, Node.Node, RawValue.RawValue}
use Rattle.nbfx_records.specs.declared.nodes.{AttrNode.AttrNode, RawScalar.RawScalar}
use Rattle.nbfx_records.specs.declared.nodes.NameRef.{NameRef, TheVariants.Id, TheVariants.Inline}
use Rattle.nbfx_records.specs.declared.nodes.Node.TheVariants.{Array, Attribute, Comment, Element}
use Rattle.nbfx_records.specs.declared.nodes.Node.TheVariants.{EndElement, Text, Xmlns}
use Rattle.nbfx_records.specs.declared.nodes.RawScalar.TheVariants.{Dictionary, Known, QName}
use Rattle.nbfx_records.specs.declared.nodes.RawValue.TheVariants.{List as ListOf, One}
use Rattle.nbfx_records.specs.{Contents.utf16_text, Kinds.text_kind_in}
use Rattle.nbfx_records.specs.declared.kinds.TextKind.TheVariants as texts
use Rattle.nbfx_records.specs.declared.nodes.AttrNode.TheVariants as attribute_nodes
use Rattle.nbfx_records.specs.declared.kinds.RecordKind.TheVariants as records

-- so many bytes are a number, the lowest first
pub record IsNumberOf (w : Width) (n : ℕ) (bytes : List ℕ) : Type 0 where
  pub size : length bytes ≡ byte_len w
  pub value : from_le_bytes w bytes ≡ n

-- behind a type byte, a length of this width and as many bytes
pub record IsCounted (kind : ℕ) (w : Width) (content bytes : List ℕ) : Type 0 where
  pub said : List ℕ
  pub is_length : IsNumberOf w (length content) said
  pub joined : bytes ≡ kind ∷ said ++ content

-- behind a type byte, a number of this width
abbrev pub IsFixed : ℕ → Width → ℕ → List ℕ → Type 0
IsFixed kind w n bytes = (number : List ℕ) × IsNumberOf w n number × (bytes ≡ kind ∷ number)

-- the 16 bytes of a decimal: two that say nothing, the scale, the sign, the upper 32 bits, the
-- lower 64
pub record IsDecimal (value : Scalar) (bytes : List ℕ) : Type 0 where
  pub reserved : List ℕ
  pub scale : ℕ
  pub negative : Bool
  pub high : ℕ
  pub low : ℕ
  pub upper : List ℕ
  pub lower : List ℕ
  pub is_reserved : length reserved ≡ 2
  pub is_scale : scale ≤ 28
  pub is_upper : IsNumberOf w32 high upper
  pub is_lower : IsNumberOf w64 low lower
  pub joined : bytes ≡ reserved ++ scale ∷ (if negative then 128 else 0) ∷ (upper ++ lower)
  pub is_value : value
      ≡ Decimal (record { scale = scale; negative = negative; magnitude = high * 2 ^ 64 + low })

-- sixteen bytes of an identifier
abbrev pub IsSixteen : ℕ → List ℕ → List ℕ → Type 0
IsSixteen kind identifier bytes = (length identifier ≡ 16) × (bytes ≡ kind ∷ identifier)

-- a text in UTF-8, and one in UTF-16
abbrev pub IsChars : ℕ → Width → RawScalar → List ℕ → Type 0
IsChars kind w value bytes =
    (s : List ℕ) × IsUtf8 s × (value ≡ Known (TextOf s)) × IsCounted kind w s bytes

abbrev pub IsUnicode : ℕ → Width → RawScalar → List ℕ → Type 0
IsUnicode kind w value bytes =
    (units : List ℕ) × (s : List ℕ) × (utf16_text units ≡ Some s) × (value ≡ Known (TextOf s))
    × IsCounted kind w units bytes

abbrev pub IsBinary : ℕ → Width → RawScalar → List ℕ → Type 0
IsBinary kind w value bytes =
    (content : List ℕ) × (value ≡ Known (Bytes content)) × IsCounted kind w content bytes

-- The value is spelled by a plain record of this kind. A length of four bytes has a sign, and isn't
-- negative.
abbrev pub SpellsAs : TextKind → RawScalar → List ℕ → Type 0
SpellsAs texts.Zero value bytes = (value ≡ Known (Number (pos 0))) × (bytes ≡ 0x80 ∷ [])
SpellsAs texts.One value bytes = (value ≡ Known (Number (pos 1))) × (bytes ≡ 0x82 ∷ [])
SpellsAs texts.False value bytes = (value ≡ Known (Truth false)) × (bytes ≡ 0x84 ∷ [])
SpellsAs texts.True value bytes = (value ≡ Known (Truth true)) × (bytes ≡ 0x86 ∷ [])
SpellsAs texts.Int8 value bytes =
    (n : ℕ) × (value ≡ Known (Number (cast_signed w8 n))) × IsFixed 0x88 w8 n bytes
SpellsAs texts.Int16 value bytes =
    (n : ℕ) × (value ≡ Known (Number (cast_signed w16 n))) × IsFixed 0x8a w16 n bytes
SpellsAs texts.Int32 value bytes =
    (n : ℕ) × (value ≡ Known (Number (cast_signed w32 n))) × IsFixed 0x8c w32 n bytes
SpellsAs texts.Int64 value bytes =
    (n : ℕ) × (value ≡ Known (Number (cast_signed w64 n))) × IsFixed 0x8e w64 n bytes
SpellsAs texts.Float value bytes = (n : ℕ) × (value ≡ Known (Float n)) × IsFixed 0x90 w32 n bytes
SpellsAs texts.Double value bytes = (n : ℕ) × (value ≡ Known (Double n)) × IsFixed 0x92 w64 n bytes
SpellsAs texts.Decimal value bytes =
    (d : Scalar) × (content : List ℕ) × (value ≡ Known d) × IsDecimal d content
    × (bytes ≡ 0x94 ∷ content)
SpellsAs texts.DateTime value bytes =
    (n : ℕ) × (value ≡ Known (DateTime n)) × IsFixed 0x96 w64 n bytes
SpellsAs texts.Chars8 value bytes = IsChars 0x98 w8 value bytes
SpellsAs texts.Chars16 value bytes = IsChars 0x9a w16 value bytes
SpellsAs texts.Chars32 value bytes = IsChars 0x9c w32 value bytes × (length bytes < 5 + 2 ^ 31)
SpellsAs texts.Bytes8 value bytes = IsBinary 0x9e w8 value bytes
SpellsAs texts.Bytes16 value bytes = IsBinary 0xa0 w16 value bytes
SpellsAs texts.Bytes32 value bytes = IsBinary 0xa2 w32 value bytes × (length bytes < 5 + 2 ^ 31)
SpellsAs texts.Empty value bytes = (value ≡ Known (TextOf [])) × (bytes ≡ 0xa8 ∷ [])
SpellsAs texts.Dictionary value bytes =
    (id : ℕ) × (spelling : List ℕ) × (value ≡ Dictionary id) × Spells id spelling
    × (bytes ≡ 0xaa ∷ spelling)
SpellsAs texts.UniqueId value bytes =
    (identifier : List ℕ) × (value ≡ Known (UniqueId identifier)) × IsSixteen 0xac identifier bytes
SpellsAs texts.TimeSpan value bytes =
    (n : ℕ) × (value ≡ Known (TimeSpan (cast_signed w64 n))) × IsFixed 0xae w64 n bytes
SpellsAs texts.Uuid value bytes =
    (identifier : List ℕ) × (value ≡ Known (Uuid identifier)) × IsSixteen 0xb0 identifier bytes
SpellsAs texts.UInt64 value bytes =
    (n : ℕ) × (value ≡ Known (Number (pos n))) × IsFixed 0xb2 w64 n bytes
SpellsAs texts.Bool value bytes =
    ((value ≡ Known (Truth false)) × (bytes ≡ 0xb4 ∷ 0 ∷ []))
    ⊎ ((value ≡ Known (Truth true)) × (bytes ≡ 0xb4 ∷ 1 ∷ []))
SpellsAs texts.UnicodeChars8 value bytes = IsUnicode 0xb6 w8 value bytes
SpellsAs texts.UnicodeChars16 value bytes = IsUnicode 0xb8 w16 value bytes
SpellsAs texts.UnicodeChars32 value bytes =
    IsUnicode 0xba w32 value bytes × (length bytes < 5 + 2 ^ 31)
SpellsAs texts.QNameDictionary value bytes =
    (letter : ℕ) × (id : ℕ) × (spelling : List ℕ) × (letter ≤ 25) × (value ≡ QName letter id)
    × Spells id spelling × (bytes ≡ 0xbc ∷ letter ∷ spelling)
-- lists are no one value
SpellsAs texts.StartList value bytes = ⊥
SpellsAs texts.EndList value bytes = ⊥

-- by a plain record of some kind
pub record SpellsScalar (value : RawScalar) (bytes : List ℕ) : Type 0 where
  pub kind : TextKind
  pub spelled : SpellsAs kind value bytes

-- each value of a list by one
abbrev pub SpellScalars : List RawScalar → List ℕ → Type 0
SpellScalars [] bytes = bytes ≡ []
SpellScalars (value ∷ values) bytes =
    (front : List ℕ) × (rest : List ℕ) × (bytes ≡ front ++ rest) × SpellsScalar value front
    × SpellScalars values rest

-- a list begins and ends with a byte of its own
abbrev pub SpellsList : List RawScalar → ℕ → List ℕ → Type 0
SpellsList values end bytes =
    (content : List ℕ) × SpellScalars values content × (bytes ≡ 0xa4 ∷ content ++ end ∷ [])

-- the value is spelled by a plain record
abbrev pub SpellsValue : RawValue → List ℕ → Type 0
SpellsValue (One value) bytes = SpellsScalar value bytes
SpellsValue (ListOf values) bytes = SpellsList values 0xa6 bytes

-- the same text, and the end of the element that holds it: the odd byte, or a list's other end
abbrev pub SpellsLast : RawValue → List ℕ → Type 0
SpellsLast (One value) bytes =
    (kind : ℕ) × (rest : List ℕ) × SpellsScalar value (kind ∷ rest) × (bytes ≡ (kind + 1) ∷ rest)
SpellsLast (ListOf values) bytes = SpellsList values 0xa7 bytes

-- a name in a string, or by its identifier
abbrev pub IsName : NameRef → List ℕ → Type 0
IsName (Inline s) bytes = IsString s bytes
IsName (Id id) bytes = Spells id bytes

-- a type byte and a prefix: none, a string, or one of the letters from a on
abbrev pub IsHead : ℕ → ℕ → ℕ → List ℕ → List ℕ → Type 0
IsHead plain with_string with_letter prefix bytes =
    ((prefix ≡ []) × (bytes ≡ plain ∷ []))
    ⊎ ((string : List ℕ) × IsString prefix string × (bytes ≡ with_string ∷ string))
    ⊎ ((n : ℕ) × (n < 26) × (prefix ≡ (97 + n) ∷ []) × (bytes ≡ (with_letter + n) ∷ []))

-- the same without letters
abbrev pub IsHeadOnly : ℕ → ℕ → List ℕ → List ℕ → Type 0
IsHeadOnly plain with_string prefix bytes =
    ((prefix ≡ []) × (bytes ≡ plain ∷ []))
    ⊎ ((string : List ℕ) × IsString prefix string × (bytes ≡ with_string ∷ string))

abbrev pub IsElementHead : List ℕ → NameRef → List ℕ → Type 0
IsElementHead prefix (Inline s) head = IsHead 0x40 0x41 0x5e prefix head
IsElementHead prefix (Id id) head = IsHead 0x42 0x43 0x44 prefix head

abbrev pub IsAttributeHead : List ℕ → NameRef → List ℕ → Type 0
IsAttributeHead prefix (Inline s) head = IsHead 0x04 0x05 0x26 prefix head
IsAttributeHead prefix (Id id) head = IsHead 0x06 0x07 0x0c prefix head

abbrev pub IsDeclarationHead : List ℕ → NameRef → List ℕ → Type 0
IsDeclarationHead prefix (Inline s) head = IsHeadOnly 0x08 0x09 prefix head
IsDeclarationHead prefix (Id id) head = IsHeadOnly 0x0a 0x0b prefix head

-- a head and a name
pub record IsElement (prefix : List ℕ) (name : NameRef) (bytes : List ℕ) : Type 0 where
  pub head : List ℕ
  pub name_bytes : List ℕ
  pub is_head : IsElementHead prefix name head
  pub is_name : IsName name name_bytes
  pub joined : bytes ≡ head ++ name_bytes

-- a head, a name and a plain text
pub record IsAttribute (prefix : List ℕ) (name : NameRef) (value : RawValue)
    (bytes : List ℕ) : Type 0 where
  pub head : List ℕ
  pub name_bytes : List ℕ
  pub value_bytes : List ℕ
  pub is_head : IsAttributeHead prefix name head
  pub is_name : IsName name name_bytes
  pub is_value : SpellsValue value value_bytes
  pub joined : bytes ≡ head ++ name_bytes ++ value_bytes

pub record IsDeclaration (prefix : List ℕ) (uri : NameRef) (bytes : List ℕ) : Type 0 where
  pub head : List ℕ
  pub uri_bytes : List ℕ
  pub is_head : IsDeclarationHead prefix uri head
  pub is_uri : IsName uri uri_bytes
  pub joined : bytes ≡ head ++ uri_bytes

abbrev pub IsAttrNode : AttrNode → List ℕ → Type 0
IsAttrNode (attribute_nodes.Attribute prefix name value) bytes = IsAttribute prefix name value bytes
IsAttrNode (attribute_nodes.Xmlns prefix uri) bytes = IsDeclaration prefix uri bytes

abbrev pub AreAttrNodes : List AttrNode → List ℕ → Type 0
AreAttrNodes [] bytes = bytes ≡ []
AreAttrNodes (attribute ∷ attributes) bytes =
    (front : List ℕ) × (rest : List ℕ) × (bytes ≡ front ++ rest) × IsAttrNode attribute front
    × AreAttrNodes attributes rest

-- the type byte of an array's values: that of the text record of one of them, where it ends its
-- element
abbrev pub array_byte : ArrayKind → ℕ
array_byte kind = byte_of (records.Text (text_kind_in kind) true)

-- the values of an array, each as its text record has it behind the type byte
abbrev pub AreCells : ArrayKind → List Scalar → List ℕ → Type 0
AreCells kind [] bytes = bytes ≡ []
AreCells kind (value ∷ values) bytes =
    (type : ℕ) × (cell : List ℕ) × (rest : List ℕ) × (bytes ≡ cell ++ rest)
    × SpellsAs (text_kind_in kind) (Known value) (type ∷ cell) × AreCells kind values rest

pub record IsArray (a : ArrayNode) (bytes : List ℕ) : Type 0 where
  pub element : List ℕ
  pub attributes : List ℕ
  pub count : List ℕ
  pub cells : List ℕ
  pub is_element : IsElement a.prefix a.name element
  pub are_attributes : AreAttrNodes a.attrs attributes
  pub is_count : Spells (length a.values) count
  pub some : 0 < length a.values
  pub are_cells : AreCells a.kind a.values cells
  pub joined : bytes ≡ 3 ∷ element ++ attributes ++ 1 ∷ array_byte a.kind ∷ (count ++ cells)

-- the bytes are a record of the node
abbrev pub IsNode : Node → List ℕ → Type 0
IsNode EndElement bytes = bytes ≡ 1 ∷ []
IsNode (Comment s) bytes = (string : List ℕ) × IsString s string × (bytes ≡ 2 ∷ string)
IsNode (Array a) bytes = IsArray a bytes
IsNode (Attribute prefix name value) bytes = IsAttribute prefix name value bytes
IsNode (Xmlns prefix uri) bytes = IsDeclaration prefix uri bytes
IsNode (Element prefix name) bytes = IsElement prefix name bytes
IsNode (Text value false) bytes = SpellsValue value bytes
IsNode (Text value true) bytes = SpellsLast value bytes
