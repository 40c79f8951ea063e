-- A value that is read is one whose text record stands there, and the other way round.
use Rattle.std.proofs.Common.{◌≡◌, ℕ, ◌+◌, ◌*◌, ◌^◌, ◌<◌, ◌≤◌, Bool, true, false, not, ◌||◌, List}
use Rattle.std.proofs.Common.{[], ◌∷◌, ◌++◌, length, take, drop, pos, if◌then◌else◌, Some}
use Rattle.std.proofs.Common.{option_map, sym, refl, ap, ◌∙◌, inl, inr, arith, length-append, w8}
use Rattle.std.proofs.Common.{w16, w32, w64, le-leb}
use Rattle.std.proofs.Math.Seq.{drop-append_seam, take-append_seam}
use Rattle.std.proofs.lemmas.{Bool.lt-leb, Str.is_utf8-from_IsUtf8}
use Rattle.std.specs.{Int.Width, Int.cast_signed, Int.from_le_bytes, Str.is_utf8}
use Rattle.nbfx_values.specs.declared.scalars.Scalar.{Scalar}
use Rattle.nbfx_values.specs.declared.scalars.Scalar.TheVariants.{DateTime, Decimal, Double, Float}
use Rattle.nbfx_values.specs.declared.scalars.Scalar.TheVariants.{Number, Text as TextOf, TimeSpan}
use Rattle.nbfx_values.specs.declared.scalars.Scalar.TheVariants.{UniqueId, Uuid}
use Rattle.nbfx_records.specs.declared.kinds.Body.{Body, TheVariants.Counted, TheVariants.Fixed}
use Rattle.nbfx_records.specs.declared.kinds.{LengthForm.LengthForm, TextKind.TextKind}
use Rattle.nbfx_records.specs.declared.kinds.LengthForm.TheVariants.{FourBytes, OneByte, TwoBytes}
use Rattle.nbfx_records.specs.{declared.nodes.RawScalar.RawScalar, Kinds.body_of}
use Rattle.nbfx_records.specs.declared.nodes.RawScalar.TheVariants.{Known, QName}
use Rattle.nbfx_records.specs.Contents.{decimal_of, is_chars, scalar_is_text, scalar_of}
use Rattle.nbfx_records.specs.{Contents.scalar_value, Shapes.width_in, TypeBytes.text_byte}
use Rattle.nbfx_records.specs.Records.{IsCounted, IsDecimal, IsNumberOf, SpellsAs}
use Rattle.nbfx_records.specs.Shapes.{bytes_of, is_negative, named_by, qualified_by, ScalarShape}
use Rattle.nbfx_records.proofs.PartBytes.{BodyIs, ScalarIs}
use Rattle.nbfx_records.proofs.ScalarParts.{binary_behind, characters_behind, decimal_behind}
use Rattle.nbfx_records.proofs.ScalarParts.{end_is_none, identifier_behind, identifier_says}
use Rattle.nbfx_records.proofs.ScalarParts.{list_is_none, named_behind, nothing_behind}
use Rattle.nbfx_records.proofs.ScalarParts.{number_behind, of_counted, of_fixed, qualified_behind}
use Rattle.nbfx_records.proofs.ScalarParts.{short_enough, truth_behind, unicode_behind}
use Rattle.nbfx_records.specs.declared.kinds.TextKind.TheVariants as texts

-- what is read is spelled so
pub spelled_there : (kind : TextKind) (scalar : ScalarShape) (value : RawScalar) (rest : List ℕ)
    → ScalarIs kind scalar rest → scalar_is_text scalar ≡ true → scalar_value scalar ≡ Some value
    → SpellsAs kind value (text_byte kind ∷ rest)
unfolding scalar_of
spelled_there texts.Zero scalar value rest h t v = let o = of_fixed texts.Zero 0 scalar value rest h
    v in (let e = o.says in cc, nothing_behind texts.Zero value rest o)
spelled_there texts.One scalar value rest h t v = let o = of_fixed texts.One 0 scalar value rest h v
    in (let e = o.says in cc, nothing_behind texts.One value rest o)
spelled_there texts.False scalar value rest h t v = let o = of_fixed texts.False 0 scalar value rest
    h v in (let e = o.says in cc, nothing_behind texts.False value rest o)
spelled_there texts.True scalar value rest h t v = let o = of_fixed texts.True 0 scalar value rest h
    v in (let e = o.says in cc, nothing_behind texts.True value rest o)
spelled_there texts.Empty scalar value rest h t v = let o = of_fixed texts.Empty 0 scalar value rest
    h v in (let e = o.says in cc, nothing_behind texts.Empty value rest o)
spelled_there texts.Int8 scalar value rest h t v = let o = of_fixed texts.Int8 1 scalar value rest h
    v in number_behind 0x88 w8 (λ n. Known (Number (cast_signed w8 n))) value rest o.size o.says
spelled_there texts.Int16 scalar value rest h t v = let o = of_fixed texts.Int16 2 scalar value rest
    h v in number_behind 0x8a w16 (λ n. Known (Number (cast_signed w16 n))) value rest o.size o.says
spelled_there texts.Int32 scalar value rest h t v = let o = of_fixed texts.Int32 4 scalar value rest
    h v in number_behind 0x8c w32 (λ n. Known (Number (cast_signed w32 n))) value rest o.size o.says
spelled_there texts.Int64 scalar value rest h t v = let o = of_fixed texts.Int64 8 scalar value rest
    h v in number_behind 0x8e w64 (λ n. Known (Number (cast_signed w64 n))) value rest o.size o.says
spelled_there texts.Float scalar value rest h t v = let o = of_fixed texts.Float 4 scalar value rest
    h v in number_behind 0x90 w32 (λ n. Known (Float n)) value rest o.size o.says
spelled_there texts.Double scalar value rest h t v = let o = of_fixed texts.Double 8 scalar value
    rest h v in number_behind 0x92 w64 (λ n. Known (Double n)) value rest o.size o.says
spelled_there texts.DateTime scalar value rest h t v = let o = of_fixed texts.DateTime 8 scalar
    value rest h v in number_behind 0x96 w64 (λ n. Known (DateTime n)) value rest o.size o.says
spelled_there texts.TimeSpan scalar value rest h t v = let o = of_fixed texts.TimeSpan 8 scalar
    value rest h v in number_behind 0xae w64 (λ n. Known (TimeSpan (cast_signed w64 n))) value rest
    o.size o.says
spelled_there texts.UInt64 scalar value rest h t v = let o = of_fixed texts.UInt64 8 scalar value
    rest h v in number_behind 0xb2 w64 (λ n. Known (Number (pos n))) value rest o.size o.says
spelled_there texts.Decimal scalar value rest h t v = let o = of_fixed texts.Decimal 16 scalar value
    rest h v in decimal_behind rest value o.size o.says
spelled_there texts.Bool scalar value rest h t v = let o = of_fixed texts.Bool 1 scalar value rest h
    v in truth_behind rest value o.size o.says
spelled_there texts.UniqueId scalar value rest h t v = let o = of_fixed texts.UniqueId 16 scalar
    value rest h v in identifier_behind 0xac UniqueId value rest o.size o.says
spelled_there texts.Uuid scalar value rest h t v = let o = of_fixed texts.Uuid 16 scalar value rest
    h v in identifier_behind 0xb0 Uuid value rest o.size o.says
spelled_there texts.Chars8 scalar value rest h t v = let o = of_counted texts.Chars8 OneByte scalar
    value rest h t v in characters_behind 0x98 OneByte o.content rest value o.is_length o.is_text
    o.says
spelled_there texts.Chars16 scalar value rest h t v = let o = of_counted texts.Chars16 TwoBytes
    scalar value rest h t v in characters_behind 0x9a TwoBytes o.content rest value o.is_length
    o.is_text o.says
spelled_there texts.Chars32 scalar value rest h t v = let o = of_counted texts.Chars32 FourBytes
    scalar value rest h t v in (
      characters_behind 0x9c FourBytes o.content rest value o.is_length
          o.is_text o.says,
      short_enough 0x9c o.content rest o.is_length,
    )
spelled_there texts.Bytes8 scalar value rest h t v = let o = of_counted texts.Bytes8 OneByte scalar
    value rest h t v in binary_behind 0x9e OneByte o.content rest value o.is_length o.says
spelled_there texts.Bytes16 scalar value rest h t v = let o = of_counted texts.Bytes16 TwoBytes
    scalar value rest h t v in binary_behind 0xa0 TwoBytes o.content rest value o.is_length o.says
spelled_there texts.Bytes32 scalar value rest h t v = let o = of_counted texts.Bytes32 FourBytes
    scalar value rest h t v in (
      binary_behind 0xa2 FourBytes o.content rest value o.is_length
          o.says,
      short_enough 0xa2 o.content rest o.is_length,
    )
spelled_there texts.UnicodeChars8 scalar value rest h t v = let o = of_counted texts.UnicodeChars8
    OneByte scalar value rest h t v in unicode_behind 0xb6 OneByte o.content rest value o.is_length
    o.says
spelled_there texts.UnicodeChars16 scalar value rest h t v = let o = of_counted texts.UnicodeChars16
    TwoBytes scalar value rest h t v in unicode_behind 0xb8 TwoBytes o.content rest value
    o.is_length o.says
spelled_there texts.UnicodeChars32 scalar value rest h t v = let o = of_counted texts.UnicodeChars32
    FourBytes scalar value rest h t v in (
      unicode_behind 0xba FourBytes o.content rest value
          o.is_length o.says,
      short_enough 0xba o.content rest o.is_length,
    )
spelled_there texts.Dictionary scalar value rest h t v = named_behind scalar value rest h v
spelled_there texts.QNameDictionary scalar value rest h t v = qualified_behind scalar value rest h v
spelled_there texts.StartList scalar value rest h t v = list_is_none texts.StartList scalar rest h
spelled_there texts.EndList scalar value rest h t v = end_is_none texts.EndList scalar rest h

-- what is read of the bytes that spell a value
pub record IsSpelled (kind : TextKind) (body : Body) (value : RawScalar) (bytes : List ℕ) : Type 0
  where
    pub rest : List ℕ
    pub scalar : ScalarShape
    pub joined : bytes ≡ text_byte kind ∷ rest
    pub is_body : BodyIs kind body scalar rest
    pub is_text : scalar_is_text scalar ≡ true
    pub says : scalar_value scalar ≡ Some value

from_fixed : (kind : TextKind) (n : ℕ) (value : RawScalar) (bytes rest : List ℕ) → is_chars kind
    ≡ false → bytes ≡ text_byte kind ∷ rest → length rest ≡ n
    → option_map Known (scalar_of kind rest) ≡ Some value → IsSpelled kind (Fixed n) value bytes
from_fixed kind n value bytes rest plain joined size says = record {
  rest = rest;
  scalar = bytes_of kind rest;
  joined = joined;
  is_body = (refl, refl, size);
  is_text = rw plain refl;
  says = says;
}

from_counted : (kind : TextKind) (form : LengthForm) (content : List ℕ) (value : RawScalar)
    (bytes : List ℕ) → IsCounted (text_byte kind) (width_in form) content bytes
    → is_negative form (length content) ≡ false → (not (is_chars kind) || is_utf8 content) ≡ true
    → option_map Known (scalar_of kind content) ≡ Some value → IsSpelled kind (Counted form) value
    bytes
from_counted kind form content value bytes c positive text says = record {
  rest = c.said ++ content;
  scalar = bytes_of kind content;
  joined = c.joined;
  is_body = (
    refl,
    record {
      said = c.said;
      size = c.is_length.size;
      says = c.is_length.value;
      positive = positive;
      joined = refl;
    },
  );
  is_text = text;
  says = says;
}

positive_length : (byte : ℕ) (content bytes : List ℕ) → IsCounted byte w32 content bytes
    → length bytes < 5 + 2 ^ 31 → is_negative FourBytes (length content) ≡ false
positive_length byte content bytes c lt =
    lt-leb (2 ^ 31) (length content)
    (omega (arith, ap length c.joined, length-append (byte ∷ c.said) content, c.is_length.size))

-- a number's value by its bytes
number_says : (see : ℕ → Scalar) (w : Width) (n : ℕ) (number : List ℕ) (value : RawScalar) → value
    ≡ Known (see n) → IsNumberOf w n number → Some (Known (see (from_le_bytes w number)))
    ≡ Some value
number_says see w n number value e is = ap (λ m. Some (Known (see m))) is.value ∙ ap Some (sym e)

decimal_content : (reserved : List ℕ) (scale : ℕ) (negative : Bool) (upper lower : List ℕ)
    → length reserved ≡ 2 → scale ≤ 28 → length upper ≡ 4
    → decimal_of (reserved ++ scale ∷ (if negative then 128 else 0) ∷ (upper ++ lower))
    ≡ Some (Decimal
    (record {
      scale = scale;
      negative = negative;
      magnitude = from_le_bytes w32 upper * 2 ^ 64
          + from_le_bytes w64 lower;
    }))
decimal_content [] scale negative upper lower size low four = absurd (omega (arith, size))
decimal_content (a ∷ []) scale negative upper lower size low four = absurd (omega (arith, size))
decimal_content (a ∷ b ∷ c ∷ more) scale negative upper lower size low four = absurd
    (omega (arith, size))
decimal_content (a ∷ b ∷ []) scale true upper lower size low four =
    let front : take 4 (upper ++ lower) ≡ upper = ap (λ n. take n (upper ++ lower)) (sym four) ∙
    take-append_seam upper lower in
    let back : drop 4 (upper ++ lower) ≡ lower = ap (λ n. drop n (upper ++ lower)) (sym four) ∙
    drop-append_seam upper lower in
    rw (le-leb scale 28 low, front, back) refl
decimal_content (a ∷ b ∷ []) scale false upper lower size low four =
    let front : take 4 (upper ++ lower) ≡ upper = ap (λ n. take n (upper ++ lower)) (sym four) ∙
    take-append_seam upper lower in
    let back : drop 4 (upper ++ lower) ≡ lower = ap (λ n. drop n (upper ++ lower)) (sym four) ∙
    drop-append_seam upper lower in
    rw (le-leb scale 28 low, front, back) refl

pub decimal_size : (d : Scalar) (content : List ℕ) → IsDecimal d content → length content ≡ 16
decimal_size d content is =
    ap length is.joined ∙ length-append is.reserved _
    ∙ omega (
      arith,
      is.is_reserved,
      length-append is.upper is.lower,
      is.is_upper.size,
      is.is_lower.size,
    )

decimal_says : (d : Scalar) (content : List ℕ) → IsDecimal d content → decimal_of content ≡ Some d
decimal_says d content is =
    ap decimal_of is.joined ∙ decimal_content is.reserved is.scale is.negative is.upper is.lower
    is.is_reserved is.is_scale is.is_upper.size
    ∙ ap (λ m. Some (Decimal (record { scale = is.scale; negative = is.negative; magnitude = m })))
    (ap (λ h. h * 2 ^ 64 + from_le_bytes w64 is.lower) is.is_upper.value ∙
    ap (λ l. is.high * 2 ^ 64 + l) is.is_lower.value)
    ∙ ap Some (sym is.is_value)

letter_says : (letter id : ℕ) (value : RawScalar) → letter ≤ 25 → value ≡ QName letter id
    → scalar_value (qualified_by letter id) ≡ Some value
letter_says letter id value low e = rw (le-leb letter 25 low) (ap Some (sym e))

-- what is spelled so is read
pub spelled_back : (kind : TextKind) (value : RawScalar) (bytes : List ℕ) → SpellsAs kind value
    bytes → IsSpelled kind (body_of kind) value bytes
unfolding scalar_of
spelled_back texts.Zero value bytes h = from_fixed texts.Zero 0 value bytes [] refl h.1 refl
    (ap Some (sym h.0))
spelled_back texts.One value bytes h = from_fixed texts.One 0 value bytes [] refl h.1 refl
    (ap Some (sym h.0))
spelled_back texts.False value bytes h = from_fixed texts.False 0 value bytes [] refl h.1 refl
    (ap Some (sym h.0))
spelled_back texts.True value bytes h = from_fixed texts.True 0 value bytes [] refl h.1 refl
    (ap Some (sym h.0))
spelled_back texts.Empty value bytes h = from_fixed texts.Empty 0 value bytes [] refl h.1 refl
    (ap Some (sym h.0))
spelled_back texts.Int8 value bytes h = from_fixed texts.Int8 1 value bytes h.2.0 refl h.2.2
    h.2.1.size (number_says (λ n. Number (cast_signed w8 n)) w8 h.0 h.2.0 value h.1 h.2.1)
spelled_back texts.Int16 value bytes h = from_fixed texts.Int16 2 value bytes h.2.0 refl h.2.2
    h.2.1.size (number_says (λ n. Number (cast_signed w16 n)) w16 h.0 h.2.0 value h.1 h.2.1)
spelled_back texts.Int32 value bytes h = from_fixed texts.Int32 4 value bytes h.2.0 refl h.2.2
    h.2.1.size (number_says (λ n. Number (cast_signed w32 n)) w32 h.0 h.2.0 value h.1 h.2.1)
spelled_back texts.Int64 value bytes h = from_fixed texts.Int64 8 value bytes h.2.0 refl h.2.2
    h.2.1.size (number_says (λ n. Number (cast_signed w64 n)) w64 h.0 h.2.0 value h.1 h.2.1)
spelled_back texts.Float value bytes h = from_fixed texts.Float 4 value bytes h.2.0 refl h.2.2
    h.2.1.size (number_says (λ n. Float n) w32 h.0 h.2.0 value h.1 h.2.1)
spelled_back texts.Double value bytes h = from_fixed texts.Double 8 value bytes h.2.0 refl h.2.2
    h.2.1.size (number_says (λ n. Double n) w64 h.0 h.2.0 value h.1 h.2.1)
spelled_back texts.DateTime value bytes h = from_fixed texts.DateTime 8 value bytes h.2.0 refl h.2.2
    h.2.1.size (number_says (λ n. DateTime n) w64 h.0 h.2.0 value h.1 h.2.1)
spelled_back texts.TimeSpan value bytes h = from_fixed texts.TimeSpan 8 value bytes h.2.0 refl h.2.2
    h.2.1.size (number_says (λ n. TimeSpan (cast_signed w64 n)) w64 h.0 h.2.0 value h.1 h.2.1)
spelled_back texts.UInt64 value bytes h = from_fixed texts.UInt64 8 value bytes h.2.0 refl h.2.2
    h.2.1.size (number_says (λ n. Number (pos n)) w64 h.0 h.2.0 value h.1 h.2.1)
spelled_back texts.Decimal value bytes h = from_fixed texts.Decimal 16 value bytes h.1 refl h.4
    (decimal_size h.0 h.1 h.3) (ap (option_map Known) (decimal_says h.0 h.1 h.3) ∙ ap Some
    (sym h.2))
spelled_back texts.Bool value bytes (inl h) = from_fixed texts.Bool 1 value bytes (0 ∷ []) refl h.1
    refl (ap Some (sym h.0))
spelled_back texts.Bool value bytes (inr h) = from_fixed texts.Bool 1 value bytes (1 ∷ []) refl h.1
    refl (ap Some (sym h.0))
spelled_back texts.UniqueId value bytes h = from_fixed texts.UniqueId 16 value bytes h.0 refl h.2.1
    h.2.0 (identifier_says UniqueId h.0 value h.2.0 h.1)
spelled_back texts.Uuid value bytes h = from_fixed texts.Uuid 16 value bytes h.0 refl h.2.1 h.2.0
    (identifier_says Uuid h.0 value h.2.0 h.1)
spelled_back texts.Chars8 value bytes h = from_counted texts.Chars8 OneByte h.0 value bytes h.3 refl
    (is_utf8-from_IsUtf8 h.0 h.1) (ap Some (sym h.2))
spelled_back texts.Chars16 value bytes h = from_counted texts.Chars16 TwoBytes h.0 value bytes h.3
    refl (is_utf8-from_IsUtf8 h.0 h.1) (ap Some (sym h.2))
spelled_back texts.Chars32 value bytes h = from_counted texts.Chars32 FourBytes h.0.0 value bytes
    h.0.3 (positive_length (text_byte texts.Chars32) h.0.0 bytes h.0.3 h.1)
    (is_utf8-from_IsUtf8 h.0.0 h.0.1) (ap Some (sym h.0.2))
spelled_back texts.Bytes8 value bytes h = from_counted texts.Bytes8 OneByte h.0 value bytes h.2 refl
    refl (ap Some (sym h.1))
spelled_back texts.Bytes16 value bytes h = from_counted texts.Bytes16 TwoBytes h.0 value bytes h.2
    refl refl (ap Some (sym h.1))
spelled_back texts.Bytes32 value bytes h = from_counted texts.Bytes32 FourBytes h.0.0 value bytes
    h.0.2 (positive_length (text_byte texts.Bytes32) h.0.0 bytes h.0.2 h.1) refl
    (ap Some (sym h.0.1))
spelled_back texts.UnicodeChars8 value bytes h = from_counted texts.UnicodeChars8 OneByte h.0 value
    bytes h.4 refl refl (ap (λ t. option_map Known (option_map TextOf t)) h.2 ∙ ap Some (sym h.3))
spelled_back texts.UnicodeChars16 value bytes h = from_counted texts.UnicodeChars16 TwoBytes h.0
    value bytes h.4 refl refl (ap (λ t. option_map Known (option_map TextOf t)) h.2 ∙ ap Some
    (sym h.3))
spelled_back texts.UnicodeChars32 value bytes h = from_counted texts.UnicodeChars32 FourBytes h.0.0
    value bytes h.0.4 (positive_length (text_byte texts.UnicodeChars32) h.0.0 bytes h.0.4 h.1) refl
    (ap (λ t. option_map Known (option_map TextOf t)) h.0.2 ∙ ap Some (sym h.0.3))
spelled_back texts.Dictionary value bytes h = record {
  rest = h.1;
  scalar = named_by h.0;
  joined = h.4;
  is_body = h.3;
  is_text = refl;
  says = ap Some
      (sym h.2);
}
spelled_back texts.QNameDictionary value bytes h = record {
  rest = h.0 ∷ h.2;
  scalar = qualified_by h.0 h.1;
  joined = h.6;
  is_body = (h.2, h.5, refl);
  is_text = refl;
  says = letter_says h.0 h.1 value h.3 h.4;
}
spelled_back texts.StartList value bytes h = absurd h
spelled_back texts.EndList value bytes h = absurd h
