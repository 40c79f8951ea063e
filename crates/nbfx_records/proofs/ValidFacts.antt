-- A record of bytes is one of a valid node.
use Rattle.std.proofs.Common.{◌≡◌, ℕ, zero, suc, ◌+◌, ◌-◌, ◌*◌, ◌%◌, ◌^◌, ◌<◌, ◌≤◌, Bool, true}
use Rattle.std.proofs.Common.{false, ◌&&◌, ◌||◌, List, [], ◌∷◌, ◌++◌, map, length, get_or, take}
use Rattle.std.proofs.Common.{drop, ℤ, pos, negsuc, if◌then◌else◌, IsTrue, nat_lt, nat_le, ◌==◌}
use Rattle.std.proofs.Common.{FitsSigned, Some, None, encode_utf8_all, unwrap_or, sym, refl, ap}
use Rattle.std.proofs.Common.{◌∙◌, subst, inl, inr, append_assoc, arith, take-append-drop, w8, w16}
use Rattle.std.proofs.Common.{w32, w64, ltb-false, ltb-true, le-ltb, lt-ltb, eq-eqb, le-leb}
use Rattle.std.proofs.Common.{leb-false, leb-true}
use Rattle.std.proofs.Math.Facts.{sfits_to_z, sfits_widen}
use Rattle.std.proofs.lemmas.Bool.{and_cases, and_from, and_parts, cond_both}
use Rattle.std.proofs.lemmas.Str.{IsUtf8-nil, is_utf8-from_IsUtf8}
use Rattle.std.specs.Char.Utf16.{has_unpaired_surrogate, is_high_surrogate, is_low_surrogate}
use Rattle.std.specs.Char.Utf16.{lone_unit_char, surrogate_pair_char, utf16_chars}
use Rattle.std.specs.{Char.Utf16.utf16_lossy_chars, List.list_all, Str.is_utf8}
use Rattle.std.specs.Int.{Width, cast_signed, from_le_bytes}
use lib.Utf8.{scalar, scalars}
use Rattle.{unit_streams.specs.Front.whole, multibyte_ints.specs.Integer.IsBytes}
use Rattle.nbfx_values.specs.declared.{content.ArrayKind.ArrayKind, scalars.Scalar.Scalar}
use Rattle.nbfx_values.specs.declared.scalars.Scalar.TheVariants.{DateTime, Decimal, Double, Float}
use Rattle.nbfx_values.specs.declared.scalars.Scalar.TheVariants.{Number, TimeSpan, Truth, Uuid}
use Rattle.{nbfx_values.specs.Items.fits_kind, nbfx_records.proofs.NodeBytes.records_are_read}
use Rattle.nbfx_values.specs.Scalars.{are_bytes, is_identifier, is_number, is_unsigned}
use Rattle.nbfx_records.specs.{declared.kinds.TextKind.TextKind, Kinds.text_kind_in}
use Rattle.nbfx_records.specs.declared.nodes.{ArrayNode.ArrayNode, Node.Node, RawValue.RawValue}
use Rattle.nbfx_records.specs.declared.nodes.{AttrNode.AttrNode, NodePlace.NodePlace}
use Rattle.nbfx_records.specs.declared.nodes.NameRef.{NameRef, TheVariants.Id, TheVariants.Inline}
use Rattle.nbfx_records.specs.declared.nodes.Node.TheVariants.{Array, Attribute, Comment, Element}
use Rattle.nbfx_records.specs.declared.nodes.Node.TheVariants.{EndElement, Text, Xmlns}
use Rattle.nbfx_records.specs.declared.nodes.RawScalar.{RawScalar, TheVariants.Known}
use Rattle.nbfx_records.specs.declared.nodes.RawValue.TheVariants.{List as ListOf, One}
use Rattle.nbfx_records.specs.Contents.{units_of, utf16_text}
use Rattle.nbfx_records.specs.{Laws.RecordsAreValid, RecordAtFront.node_at}
use Rattle.nbfx_records.specs.Records.{AreAttrNodes, AreCells, array_byte, IsArray, IsAttrNode}
use Rattle.nbfx_records.specs.Records.{IsBinary, IsChars, IsCounted, IsDecimal, IsElement, IsFixed}
use Rattle.nbfx_records.specs.Records.{IsName, IsUnicode, SpellsAs, SpellScalars, SpellsLast}
use Rattle.nbfx_records.specs.Records.{SpellsList, SpellsScalar, SpellsValue}
use Rattle.nbfx_records.specs.Valid.{are_valid_names, is_valid_array, is_valid_known, is_valid_name}
use Rattle.nbfx_records.specs.Valid.{is_valid_node, is_valid_part, is_valid_raw, is_valid_text}
use Rattle.nbfx_records.proofs.AttributeBytes.{attribute_head_back, declaration_head_back}
use Rattle.nbfx_records.proofs.{AttributeBytes.element_head_back, NumberFacts.signed_true}
use Rattle.nbfx_values.specs.declared.content.ArrayKind.TheVariants as arrays
use Rattle.nbfx_records.specs.declared.kinds.TextKind.TheVariants as texts
use Rattle.nbfx_records.specs.declared.nodes.AttrNode.TheVariants as attribute_nodes

-- parts of bytes are bytes
pub bytes_front : (a b : List ℕ) → IsBytes (a ++ b) → IsBytes a
bytes_front [] b h i = omega arith
bytes_front (x ∷ a) b h zero = h zero
bytes_front (x ∷ a) b h (suc i) = bytes_front a b (λ j. h (suc j)) i

pub bytes_rest : (a b : List ℕ) → IsBytes (a ++ b) → IsBytes b
bytes_rest [] b h = h
bytes_rest (x ∷ a) b h = bytes_rest a b (λ j. h (suc j))

pub bytes_behind : (bytes : List ℕ) → IsBytes bytes → IsBytes (drop 1 bytes)
bytes_behind [] h = h
bytes_behind (x ∷ bytes) h = λ i. h (suc i)

all_bytes : (bytes : List ℕ) → IsBytes bytes → are_bytes bytes ≡ true
all_bytes [] h = refl
all_bytes (x ∷ bytes) h = and_from (is_unsigned 8 x) (are_bytes bytes) (lt-ltb x (2 ^ 8) (h zero))
    (all_bytes bytes (λ i. h (suc i)))

-- what the bytes of a number say
pub below_8 : (b : List ℕ) → IsBytes b → from_le_bytes w8 b < 2 ^ 8
below_8 b h = omega (arith, h 0)

pub below_16 : (b : List ℕ) → IsBytes b → from_le_bytes w16 b < 2 ^ 16
below_16 b h = omega (arith, h 0, h 1)

pub below_32 : (b : List ℕ) → IsBytes b → from_le_bytes w32 b < 2 ^ 32
below_32 b h = omega (arith, h 0, h 1, h 2, h 3)

pub below_64 : (b : List ℕ) → IsBytes b → from_le_bytes w64 b < 2 ^ 64
below_64 b h = omega (arith, h 0, h 1, h 2, h 3, h 4, h 5, h 6, h 7)

-- a number behind a type byte
pub number_below : (w : Width) (top : ℕ) → ((b : List ℕ) → IsBytes b → from_le_bytes w b < top)
    → (byte n : ℕ) (bytes : List ℕ) → IsBytes (drop 1 bytes) → IsFixed byte w n bytes → n < top
number_below w top below byte n bytes are (number, is, joined) =
    let own : IsBytes number = subst IsBytes (ap (drop 1) joined) are in subst (λ (m : ℕ). m < top)
    is.value (below number own)

number_within : (z : ℤ) → FitsSigned w64 z → is_number z ≡ true
number_within (pos n) fits = rw (le-ltb (2 ^ 64 - 1) n (omega (arith, fits.sfits))) refl
number_within (negsuc n) fits = rw (le-ltb (2 ^ 63 - 1) n (omega (arith, fits.sfits))) refl

-- units that UTF-16 spells are characters
units_small : (bytes : List ℕ) → IsBytes bytes → (i : ℕ) → get_or (units_of bytes) i 0 < 2 ^ 16
units_small [] h i = omega arith
units_small (low ∷ []) h i = omega arith
units_small (low ∷ high ∷ bytes) h zero = let a = h 0 in let b = h 1 in omega arith
units_small (low ∷ high ∷ bytes) h (suc i) = units_small bytes (λ j. h (suc (suc j))) i

is_char : (c : ℕ) → 0xE000 ≤ c → c < 0x110000 → scalar c ≡ true
is_char c low high = rw (
  le-ltb c 0xD800 (omega (arith, low)),
  le-leb 0xE000 c low,
  lt-ltb c
      0x110000 high,
) refl

lone_is_char : (u : ℕ) → u < 2 ^ 16 → scalar (unwrap_or (lone_unit_char u) 0xFFFD) ≡ true
lone_is_char u lt =
    cond_both (nat_le 0xD800 u && nat_lt u 0xE000) None (Some u) (λ o. scalar (unwrap_or o 0xFFFD)
    ≡ true) (λ surrogate. refl) (λ own.
    elim (and_cases (nat_le 0xD800 u) (nat_lt u 0xE000) own) [
      | inl low ↦ let below : u < 0xD800 = leb-false 0xD800 u low in rw (lt-ltb u 0xD800 below) refl
      | inr high ↦ is_char u (ltb-false u 0xE000 high) (omega (arith, lt))
    ])

pair_is_char : (u v : ℕ) → (is_high_surrogate u && is_low_surrogate v) ≡ true
    → scalar (surrogate_pair_char u v) ≡ true
pair_is_char u v e =
    let parts = and_parts (is_high_surrogate u) (is_low_surrogate v) e in
    let high = and_parts (nat_le 0xD800 u) (nat_lt u 0xDC00) parts.0 in
    let low = and_parts (nat_le 0xDC00 v) (nat_lt v 0xE000) parts.1 in
    is_char (surrogate_pair_char u v)
    (omega (arith, leb-true 0xD800 u high.0, leb-true 0xDC00 v low.0))
    (omega (
      arith,
      leb-true 0xD800 u high.0,
      ltb-true u 0xDC00 high.1,
      leb-true 0xDC00 v low.0,
      ltb-true v 0xE000 low.1,
    ))

lossy_are_chars : (units : List ℕ) → ((i : ℕ) → get_or units i 0 < 2 ^ 16)
    → scalars (utf16_lossy_chars units) ≡ true
unfolding utf16_chars
lossy_are_chars [] small = refl
lossy_are_chars (u ∷ []) small = and_from (scalar (unwrap_or (lone_unit_char u) 0xFFFD)) true
    (lone_is_char u (small zero)) refl
lossy_are_chars (u ∷ v ∷ us) small =
    cond_both (is_high_surrogate u && is_low_surrogate v) (Some (surrogate_pair_char u v)
    ∷ utf16_chars us) (lone_unit_char u ∷ utf16_chars (v ∷ us))
    (λ os. scalars (map (λ o. unwrap_or o 0xFFFD) os) ≡ true)
    (λ e. and_from (scalar (surrogate_pair_char u v)) (scalars (utf16_lossy_chars us))
    (pair_is_char u v e) (lossy_are_chars us (λ i. small (suc (suc i)))))
    (λ e. and_from (scalar (unwrap_or (lone_unit_char u) 0xFFFD))
    (scalars (utf16_lossy_chars (v ∷ us))) (lone_is_char u (small zero))
    (lossy_are_chars (v ∷ us) (λ i. small (suc i))))

given_otherwise : {A : Type 0} (b : Bool) (x y : A) → (if b then None else Some x) ≡ Some y → x ≡ y
given_otherwise true x y e = cc
given_otherwise false x y e = cc

utf16_is_text : (bytes s : List ℕ) → IsBytes bytes → utf16_text bytes ≡ Some s → is_utf8 s ≡ true
utf16_is_text bytes s are e =
    let given = given_otherwise ((length bytes % 2 == 1) || has_unpaired_surrogate (units_of bytes))
    (encode_utf8_all (utf16_lossy_chars (units_of bytes))) s e in
    is_utf8-from_IsUtf8 s (
      utf16_lossy_chars (units_of bytes),
      (
        lossy_are_chars (units_of bytes) (units_small bytes are),
        given,
      ),
    )

-- the value of a text record
signed_valid : (w : Width) (n top : ℕ) → n < top → (n < top → FitsSigned w64 (cast_signed w n))
    → (value : RawScalar) → value ≡ Known (Number (cast_signed w n)) → is_valid_raw value ≡ true
signed_valid w n top lt fits value is = ap is_valid_raw is ∙ number_within (cast_signed w n)
    (fits lt)

pub in_8 : (n : ℕ) → n < 2 ^ 8 → FitsSigned w8 (cast_signed w8 n)
in_8 n lt = sfits_to_z {w = w8} {n = n} (record { fits = lt })

pub in_16 : (n : ℕ) → n < 2 ^ 16 → FitsSigned w16 (cast_signed w16 n)
in_16 n lt = sfits_to_z {w = w16} {n = n} (record { fits = lt })

pub in_32 : (n : ℕ) → n < 2 ^ 32 → FitsSigned w32 (cast_signed w32 n)
in_32 n lt = sfits_to_z {w = w32} {n = n} (record { fits = lt })

in_64 : (n : ℕ) → n < 2 ^ 64 → FitsSigned w64 (cast_signed w64 n)
in_64 n lt = sfits_to_z {w = w64} {n = n} (record { fits = lt })

decimal_valid : (d : Scalar) (bytes : List ℕ) → IsBytes bytes → IsDecimal d bytes → is_valid_known d
    ≡ true
decimal_valid d bytes are is =
    let own = subst IsBytes is.joined are in
    let numbers = bytes_rest (is.reserved ++ is.scale ∷ (if is.negative then 128 else 0) ∷ [])
    (is.upper ++ is.lower)
    (subst IsBytes
    (sym (append_assoc is.reserved (is.scale ∷ (if is.negative then 128 else 0) ∷ [])
    (is.upper ++ is.lower))) own) in
    let high : is.high < 2 ^ 32 = subst (λ (m : ℕ). m < 2 ^ 32) is.is_upper.value
    (below_32 is.upper (bytes_front is.upper is.lower numbers)) in
    let low : is.low < 2 ^ 64 = subst (λ (m : ℕ). m < 2 ^ 64) is.is_lower.value
    (below_64 is.lower (bytes_rest is.upper is.lower numbers)) in
    ap is_valid_known is.is_value
    ∙ and_from (nat_le is.scale 28) (is_unsigned 96 (is.high * 2 ^ 64 + is.low))
    (le-leb is.scale 28 is.is_scale)
    (lt-ltb (is.high * 2 ^ 64 + is.low) (2 ^ 96) (omega (arith, high, low)))

identifier_valid : (identifier : List ℕ) → IsBytes identifier → length identifier ≡ 16
    → is_identifier identifier ≡ true
identifier_valid identifier are size = and_from (length identifier == 16) (are_bytes identifier)
    (eq-eqb (length identifier) 16 size) (all_bytes identifier are)

-- what follows the type byte
joined_behind : (byte : ℕ) (rest bytes : List ℕ) → bytes ≡ byte ∷ rest → IsBytes (drop 1 bytes)
    → IsBytes rest
joined_behind byte rest bytes joined are = subst IsBytes (ap (drop 1) joined) are

counted_valid : (byte : ℕ) (w : Width) (content bytes : List ℕ) → IsBytes (drop 1 bytes)
    → IsCounted byte w content bytes → IsBytes content
counted_valid byte w content bytes are is = bytes_rest is.said content
    (subst IsBytes (ap (drop 1) is.joined) are)

characters_valid : (byte : ℕ) (w : Width) (value : RawScalar) (bytes : List ℕ)
    → IsChars byte w value bytes → is_valid_raw value ≡ true
characters_valid byte w value bytes (s, utf8, is, counted) = ap is_valid_raw is ∙
    is_utf8-from_IsUtf8 s utf8

unicode_valid : (byte : ℕ) (w : Width) (value : RawScalar) (bytes : List ℕ) → IsBytes (drop 1 bytes)
    → IsUnicode byte w value bytes → is_valid_raw value ≡ true
unicode_valid byte w value bytes are (units, s, spelled, is, counted) = ap is_valid_raw is ∙
    utf16_is_text units s (counted_valid byte w units bytes are counted) spelled

binary_valid : (byte : ℕ) (w : Width) (value : RawScalar) (bytes : List ℕ) → IsBytes (drop 1 bytes)
    → IsBinary byte w value bytes → is_valid_raw value ≡ true
binary_valid byte w value bytes are (content, is, counted) = ap is_valid_raw is ∙ all_bytes content
    (counted_valid byte w content bytes are counted)

spelled_valid : (kind : TextKind) (value : RawScalar) (bytes : List ℕ) → IsBytes (drop 1 bytes)
    → SpellsAs kind value bytes → is_valid_raw value ≡ true
spelled_valid texts.Zero value bytes are h = ap is_valid_raw h.0
spelled_valid texts.One value bytes are h = ap is_valid_raw h.0
spelled_valid texts.False value bytes are h = ap is_valid_raw h.0
spelled_valid texts.True value bytes are h = ap is_valid_raw h.0
spelled_valid texts.Int8 value bytes are h = signed_valid w8 h.0 (2 ^ 8)
    (number_below w8 (2 ^ 8) below_8 0x88 h.0 bytes are h.2) (λ lt. sfits_widen tt (in_8 h.0 lt))
    value h.1
spelled_valid texts.Int16 value bytes are h = signed_valid w16 h.0 (2 ^ 16)
    (number_below w16 (2 ^ 16) below_16 0x8a h.0 bytes are h.2)
    (λ lt. sfits_widen tt (in_16 h.0 lt)) value h.1
spelled_valid texts.Int32 value bytes are h = signed_valid w32 h.0 (2 ^ 32)
    (number_below w32 (2 ^ 32) below_32 0x8c h.0 bytes are h.2)
    (λ lt. sfits_widen tt (in_32 h.0 lt)) value h.1
spelled_valid texts.Int64 value bytes are h = signed_valid w64 h.0 (2 ^ 64)
    (number_below w64 (2 ^ 64) below_64 0x8e h.0 bytes are h.2) (in_64 h.0) value h.1
spelled_valid texts.Float value bytes are h = ap is_valid_raw h.1 ∙ lt-ltb h.0 (2 ^ 32)
    (number_below w32 (2 ^ 32) below_32 0x90 h.0 bytes are h.2)
spelled_valid texts.Double value bytes are h = ap is_valid_raw h.1 ∙ lt-ltb h.0 (2 ^ 64)
    (number_below w64 (2 ^ 64) below_64 0x92 h.0 bytes are h.2)
spelled_valid texts.Decimal value bytes are h = ap is_valid_raw h.2 ∙ decimal_valid h.0 h.1
    (joined_behind 0x94 h.1 bytes h.4 are) h.3
spelled_valid texts.DateTime value bytes are h = ap is_valid_raw h.1 ∙ lt-ltb h.0 (2 ^ 64)
    (number_below w64 (2 ^ 64) below_64 0x96 h.0 bytes are h.2)
spelled_valid texts.Chars8 value bytes are h = characters_valid 0x98 w8 value bytes h
spelled_valid texts.Chars16 value bytes are h = characters_valid 0x9a w16 value bytes h
spelled_valid texts.Chars32 value bytes are h = characters_valid 0x9c w32 value bytes h.0
spelled_valid texts.Bytes8 value bytes are h = binary_valid 0x9e w8 value bytes are h
spelled_valid texts.Bytes16 value bytes are h = binary_valid 0xa0 w16 value bytes are h
spelled_valid texts.Bytes32 value bytes are h = binary_valid 0xa2 w32 value bytes are h.0
spelled_valid texts.Empty value bytes are h = ap is_valid_raw h.0 ∙ is_utf8-from_IsUtf8 []
    IsUtf8-nil
spelled_valid texts.Dictionary value bytes are h = ap is_valid_raw h.2
spelled_valid texts.UniqueId value bytes are h = ap is_valid_raw h.1 ∙ identifier_valid h.0
    (joined_behind 0xac h.0 bytes h.2.1 are) h.2.0
spelled_valid texts.TimeSpan value bytes are h = ap is_valid_raw h.1 ∙ signed_true w64 64
    (cast_signed w64 h.0) refl
    (in_64 h.0 (number_below w64 (2 ^ 64) below_64 0xae h.0 bytes are h.2))
spelled_valid texts.Uuid value bytes are h = ap is_valid_raw h.1 ∙ identifier_valid h.0
    (joined_behind 0xb0 h.0 bytes h.2.1 are) h.2.0
spelled_valid texts.UInt64 value bytes are h =
    let lt = number_below w64 (2 ^ 64) below_64 0xb2 h.0 bytes are h.2 in
    ap is_valid_raw h.1 ∙ rw (le-ltb (2 ^ 64 - 1) h.0 (omega (arith, lt))) refl
spelled_valid texts.Bool value bytes are (inl h) = ap is_valid_raw h.0
spelled_valid texts.Bool value bytes are (inr h) = ap is_valid_raw h.0
spelled_valid texts.UnicodeChars8 value bytes are h = unicode_valid 0xb6 w8 value bytes are h
spelled_valid texts.UnicodeChars16 value bytes are h = unicode_valid 0xb8 w16 value bytes are h
spelled_valid texts.UnicodeChars32 value bytes are h = unicode_valid 0xba w32 value bytes are h.0
spelled_valid texts.QNameDictionary value bytes are h = ap is_valid_raw h.4 ∙ le-leb h.0 25 h.3
spelled_valid texts.StartList value bytes are h = absurd h
spelled_valid texts.EndList value bytes are h = absurd h

scalar_valid : (value : RawScalar) (bytes : List ℕ) → IsBytes (drop 1 bytes) → SpellsScalar value
    bytes → is_valid_raw value ≡ true
scalar_valid value bytes are h = spelled_valid h.kind value bytes are h.spelled

scalars_valid : (values : List RawScalar) (bytes : List ℕ) → IsBytes bytes → SpellScalars values
    bytes → list_all is_valid_raw values ≡ true
scalars_valid [] bytes are h = refl
scalars_valid (value ∷ values) bytes are (front, rest, joined, first, others) =
    let own = subst IsBytes joined are in
    and_from (is_valid_raw value) (list_all is_valid_raw values)
    (scalar_valid value front (bytes_behind front (bytes_front front rest own)) first)
    (scalars_valid values rest (bytes_rest front rest own) others)

list_valid : (values : List RawScalar) (end : ℕ) (bytes : List ℕ) → IsBytes (drop 1 bytes)
    → SpellsList values end bytes → list_all is_valid_raw values ≡ true
list_valid values end bytes are (content, spelled, joined) =
    scalars_valid values content
    (bytes_front content (end ∷ []) (subst IsBytes (ap (drop 1) joined) are)) spelled

value_valid : (value : RawValue) (bytes : List ℕ) → IsBytes (drop 1 bytes) → SpellsValue value bytes
    → is_valid_text value ≡ true
value_valid (One value) bytes are h = scalar_valid value bytes are h
value_valid (ListOf values) bytes are h = list_valid values 0xa6 bytes are h

last_valid : (value : RawValue) (bytes : List ℕ) → IsBytes (drop 1 bytes) → SpellsLast value bytes
    → is_valid_text value ≡ true
last_valid (One value) bytes are (kind, rest, spelled, joined) = scalar_valid value (kind ∷ rest)
    (subst IsBytes (ap (drop 1) joined) are) spelled
last_valid (ListOf values) bytes are h = list_valid values 0xa7 bytes are h

-- names, and what is made of them
name_valid : (name : NameRef) (bytes : List ℕ) → IsName name bytes → is_valid_name name ≡ true
name_valid (Inline s) bytes h = is_utf8-from_IsUtf8 s h.utf8
name_valid (Id id) bytes h = refl

element_valid : (prefix : List ℕ) (name : NameRef) (bytes : List ℕ) → IsElement prefix name bytes
    → are_valid_names prefix name ≡ true
element_valid prefix name bytes h =
    and_from (is_utf8 prefix) (is_valid_name name)
    (element_head_back prefix name h.head h.is_head).is_text
    (name_valid name h.name_bytes h.is_name)

part_valid : (part : AttrNode) (bytes : List ℕ) → IsBytes bytes → IsAttrNode part bytes
    → is_valid_part part ≡ true
part_valid (attribute_nodes.Attribute prefix name value) bytes are h =
    let own = bytes_rest (h.head ++ h.name_bytes) h.value_bytes (subst IsBytes h.joined are) in
    and_from (are_valid_names prefix name) (is_valid_text value)
    (and_from (is_utf8 prefix) (is_valid_name name)
    (attribute_head_back prefix name h.head h.is_head).is_text
    (name_valid name h.name_bytes h.is_name))
    (value_valid value h.value_bytes (bytes_behind h.value_bytes own) h.is_value)
part_valid (attribute_nodes.Xmlns prefix uri) bytes are h =
    and_from (is_utf8 prefix) (is_valid_name uri)
    (declaration_head_back prefix uri h.head h.is_head).is_text
    (name_valid uri h.uri_bytes h.is_uri)

parts_valid : (parts : List AttrNode) (bytes : List ℕ) → IsBytes bytes → AreAttrNodes parts bytes
    → list_all is_valid_part parts ≡ true
parts_valid [] bytes are h = refl
parts_valid (part ∷ parts) bytes are (front, rest, joined, first, others) =
    let own = subst IsBytes joined are in
    and_from (is_valid_part part) (list_all is_valid_part parts)
    (part_valid part front (bytes_front front rest own) first)
    (parts_valid parts rest (bytes_rest front rest own) others)

-- the values of an array
pub known_inj : (one other : Scalar) → Known one ≡ Known other → one ≡ other
known_inj one other e = cc e

cell_valid : (kind : ArrayKind) (value : Scalar) (bytes : List ℕ) → IsBytes (drop 1 bytes)
    → SpellsAs (text_kind_in kind) (Known value) bytes → fits_kind kind value ≡ true
cell_valid arrays.Bool value bytes are (inl h) = ap (fits_kind arrays.Bool)
    (known_inj value (Truth false) h.0)
cell_valid arrays.Bool value bytes are (inr h) = ap (fits_kind arrays.Bool)
    (known_inj value (Truth true) h.0)
cell_valid arrays.Int16 value bytes are h =
    ap (fits_kind arrays.Int16) (known_inj value (Number (cast_signed w16 h.0)) h.1) ∙ signed_true
    w16 16 (cast_signed w16 h.0) refl
    (in_16 h.0 (number_below w16 (2 ^ 16) below_16 0x8a h.0 bytes are h.2))
cell_valid arrays.Int32 value bytes are h =
    ap (fits_kind arrays.Int32) (known_inj value (Number (cast_signed w32 h.0)) h.1) ∙ signed_true
    w32 32 (cast_signed w32 h.0) refl
    (in_32 h.0 (number_below w32 (2 ^ 32) below_32 0x8c h.0 bytes are h.2))
cell_valid arrays.Int64 value bytes are h =
    ap (fits_kind arrays.Int64) (known_inj value (Number (cast_signed w64 h.0)) h.1) ∙ signed_true
    w64 64 (cast_signed w64 h.0) refl
    (in_64 h.0 (number_below w64 (2 ^ 64) below_64 0x8e h.0 bytes are h.2))
cell_valid arrays.Float value bytes are h = ap (fits_kind arrays.Float)
    (known_inj value (Float h.0) h.1) ∙ lt-ltb h.0 (2 ^ 32)
    (number_below w32 (2 ^ 32) below_32 0x90 h.0 bytes are h.2)
cell_valid arrays.Double value bytes are h = ap (fits_kind arrays.Double)
    (known_inj value (Double h.0) h.1) ∙ lt-ltb h.0 (2 ^ 64)
    (number_below w64 (2 ^ 64) below_64 0x92 h.0 bytes are h.2)
cell_valid arrays.Decimal value bytes are h =
    let is = h.3 in
    let d : Scalar = Decimal
    (record { scale = is.scale; negative = is.negative; magnitude = is.high * 2 ^ 64 + is.low }) in
    let own : value ≡ d = known_inj value d (h.2 ∙ ap Known is.is_value) in
    ap (fits_kind arrays.Decimal) own ∙ sym (ap is_valid_known is.is_value) ∙ decimal_valid h.0 h.1
    (joined_behind 0x94 h.1 bytes h.4 are) is
cell_valid arrays.DateTime value bytes are h = ap (fits_kind arrays.DateTime)
    (known_inj value (DateTime h.0) h.1) ∙ lt-ltb h.0 (2 ^ 64)
    (number_below w64 (2 ^ 64) below_64 0x96 h.0 bytes are h.2)
cell_valid arrays.TimeSpan value bytes are h =
    ap (fits_kind arrays.TimeSpan) (known_inj value (TimeSpan (cast_signed w64 h.0)) h.1) ∙
    signed_true w64 64 (cast_signed w64 h.0) refl
    (in_64 h.0 (number_below w64 (2 ^ 64) below_64 0xae h.0 bytes are h.2))
cell_valid arrays.Uuid value bytes are h = ap (fits_kind arrays.Uuid)
    (known_inj value (Uuid h.0) h.1) ∙ identifier_valid h.0 (joined_behind 0xb0 h.0 bytes h.2.1 are)
    h.2.0

cells_valid : (kind : ArrayKind) (values : List Scalar) (bytes : List ℕ) → IsBytes bytes
    → AreCells kind values bytes → list_all (fits_kind kind) values ≡ true
cells_valid kind [] bytes are h = refl
cells_valid kind (value ∷ values) bytes are (type, cell, rest, joined, first, others) =
    let own = subst IsBytes joined are in
    and_from (fits_kind kind value) (list_all (fits_kind kind) values)
    (cell_valid kind value (type ∷ cell) (bytes_front cell rest own) first)
    (cells_valid kind values rest (bytes_rest cell rest own) others)

array_valid : (a : ArrayNode) (bytes : List ℕ) → IsBytes bytes → IsArray a bytes → is_valid_array a
    ≡ true
array_valid a bytes are h =
    let front = (3 ∷ h.element) ++ h.attributes in
    let own = subst IsBytes h.joined are in
    let attributes = bytes_rest (3 ∷ h.element) h.attributes
    (bytes_front front (1 ∷ array_byte a.kind ∷ (h.count ++ h.cells)) own) in
    let cells = bytes_rest (1 ∷ array_byte a.kind ∷ h.count) h.cells
    (bytes_rest front (1 ∷ array_byte a.kind ∷ (h.count ++ h.cells)) own) in
    and_from (are_valid_names a.prefix a.name) (list_all is_valid_part a.attrs
    && (nat_lt 0 (length a.values) && list_all (fits_kind a.kind) a.values))
    (element_valid a.prefix a.name h.element h.is_element)
    (and_from (list_all is_valid_part a.attrs)
    (nat_lt 0 (length a.values) && list_all (fits_kind a.kind) a.values)
    (parts_valid a.attrs h.attributes attributes h.are_attributes)
    (and_from (nat_lt 0 (length a.values)) (list_all (fits_kind a.kind) a.values)
    (lt-ltb 0 (length a.values) h.some) (cells_valid a.kind a.values h.cells cells h.are_cells)))

pub records_are_valid : RecordsAreValid
records_are_valid EndElement bytes are h = refl
records_are_valid (Comment s) bytes are (string, is, joined) = is_utf8-from_IsUtf8 s is.utf8
records_are_valid (Array a) bytes are h = array_valid a bytes are h
records_are_valid (Attribute prefix name value) bytes are h = part_valid
    (attribute_nodes.Attribute prefix name value) bytes are h
records_are_valid (Xmlns prefix uri) bytes are h = part_valid (attribute_nodes.Xmlns prefix uri)
    bytes are h
records_are_valid (Element prefix name) bytes are h = element_valid prefix name bytes h
records_are_valid (Text value false) bytes are h = value_valid value bytes (bytes_behind bytes are)
    h
records_are_valid (Text value true) bytes are h = last_valid value bytes (bytes_behind bytes are) h

-- a node that is read of bytes is valid
pub reads_valid : (place : NodePlace) (bytes : List ℕ) (node : Node) (used : ℕ) → IsBytes bytes
    → node_at place bytes ≡ whole node used → IsTrue (is_valid_node node)
reads_valid place bytes node used are e =
    let read = (records_are_read place bytes node used).0 e in
    records_are_valid node (take used bytes) (bytes_front (take used bytes) (drop used bytes)
    (subst IsBytes (sym (take-append-drop used bytes)) are)) read.1
