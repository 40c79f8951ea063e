-- What stands behind the type byte of a value that is read.
use Rattle.std.proofs.Common.{◌≡◌, ℕ, ◌+◌, ◌^◌, ◌<◌, true, not, ◌&&◌, ◌||◌, List, [], ◌∷◌, length}
use Rattle.std.proofs.Common.{get_or, take, drop, if◌then◌else◌, nat_le, ◌==◌, Some, None, Option}
use Rattle.std.proofs.Common.{option_map, sym, refl, ap, ◌∙◌, inl, inr, arith, length-append}
use Rattle.std.proofs.Common.{length-drop, take-append-drop, length-take-le, w32, w64, ne_eqb}
use Rattle.std.proofs.Common.{eqb-true, leb-false, leb-true}
use Rattle.std.proofs.lemmas.Bool.{and_parts, cases_eq, or_cases}
use Rattle.std.proofs.lemmas.{List.nil_from_length, Option.cond_some, Str.IsUtf8-from_is_utf8}
use Rattle.std.specs.{Int.Width, Int.byte_len, Int.from_le_bytes, Str.is_utf8}
use Rattle.nbfx_values.specs.declared.scalars.Scalar.{Scalar}
use Rattle.nbfx_values.specs.declared.scalars.Scalar.TheVariants.{Bytes, Text as TextOf}
use Rattle.nbfx_records.specs.declared.kinds.Body.TheVariants.{Counted, Ending, Fixed, Listed}
use Rattle.nbfx_records.specs.declared.kinds.LengthForm.{LengthForm, TheVariants.FourBytes}
use Rattle.nbfx_records.specs.declared.{kinds.TextKind.TextKind, nodes.RawScalar.RawScalar}
use Rattle.nbfx_records.specs.declared.nodes.RawScalar.TheVariants.{Known, QName}
use Rattle.nbfx_records.specs.Contents.{decimal_of, identifier_of, is_chars, scalar_is_text}
use Rattle.nbfx_records.specs.Contents.{scalar_of, scalar_value, truth_of, utf16_text}
use Rattle.nbfx_records.specs.Records.{IsBinary, IsChars, IsCounted, IsFixed, IsSixteen, IsUnicode}
use Rattle.nbfx_records.specs.{Records.SpellsAs, TypeBytes.text_byte}
use Rattle.nbfx_records.specs.Shapes.{bytes_of, named_by, qualified_by, ScalarShape, width_in}
use Rattle.nbfx_records.proofs.PartBytes.{BodyIs, IsLengthAnd, ScalarIs}
use Rattle.nbfx_records.specs.declared.kinds.TextKind.TheVariants as texts

-- what is read of so many bytes
pub record OfFixed (kind : TextKind) (n : ℕ) (value : RawScalar) (rest : List ℕ) : Type 0 where
  pub size : length rest ≡ n
  pub says : option_map Known (scalar_of kind rest) ≡ Some value

pub of_fixed : (kind : TextKind) (n : ℕ) (scalar : ScalarShape) (value : RawScalar) (rest : List ℕ)
    → BodyIs kind (Fixed n) scalar rest → scalar_value scalar ≡ Some value → OfFixed kind n value
    rest
of_fixed kind n (bytes_of k s) value rest h v = record {
  size = h.2;
  says = ap (λ c. option_map Known (scalar_of kind c)) h.1 ∙
      ap (λ j. option_map Known (scalar_of j s)) (sym h.0) ∙ v;
}
of_fixed kind n (named_by id) value rest h v = absurd h
of_fixed kind n (qualified_by letter id) value rest h v = absurd h

-- and of a length and as many bytes
pub record OfCounted (kind : TextKind) (form : LengthForm) (value : RawScalar) (rest : List ℕ)
    : Type 0 where
  pub content : List ℕ
  pub is_length : IsLengthAnd form content rest
  pub is_text : (not (is_chars kind) || is_utf8 content) ≡ true
  pub says : option_map Known (scalar_of kind content) ≡ Some value

pub of_counted : (kind : TextKind) (form : LengthForm) (scalar : ScalarShape) (value : RawScalar)
    (rest : List ℕ)
    → BodyIs kind (Counted form) scalar rest → scalar_is_text scalar ≡ true → scalar_value scalar
    ≡ Some value → OfCounted kind form value rest
of_counted kind form (bytes_of k s) value rest h t v = record {
  content = s;
  is_length = h.1;
  is_text = ap (λ j. not (is_chars j) || is_utf8 s) (sym h.0) ∙ t;
  says = ap (λ j. option_map Known (scalar_of j s)) (sym h.0) ∙ v;
}
of_counted kind form (named_by id) value rest h t v = absurd h
of_counted kind form (qualified_by letter id) value rest h t v = absurd h

-- nothing behind the type byte
pub nothing_behind : (kind : TextKind) (value : RawScalar) (rest : List ℕ) → OfFixed kind 0 value rest
    → text_byte kind ∷ rest ≡ text_byte kind ∷ []
nothing_behind kind value rest o = ap (λ c. text_byte kind ∷ c) (nil_from_length rest o.size)

-- a number behind it
pub number_behind : (byte : ℕ) (w : Width) (see : ℕ → RawScalar) (value : RawScalar) (rest : List ℕ)
    → length rest ≡ byte_len w → Some (see (from_le_bytes w rest)) ≡ Some value
    → (n : ℕ) × (value ≡ see n) × IsFixed byte w n (byte ∷ rest)
number_behind byte w see value rest size e =
    (from_le_bytes w rest, cc, (rest, record { size = size; value = refl }, refl))

-- a length and as many bytes behind it
counted_behind : (byte : ℕ) (form : LengthForm) (content rest : List ℕ) → IsLengthAnd form content
    rest → IsCounted byte (width_in form) content (byte ∷ rest)
counted_behind byte form content rest h = record {
  said = h.said;
  is_length = record { size = h.size; value = h.says };
  joined =
      ap (λ c. byte ∷ c) h.joined;
}

-- a length of four bytes leaves so many
pub short_enough : (byte : ℕ) (content rest : List ℕ) → IsLengthAnd FourBytes content rest
    → length (byte ∷ rest) < 5 + 2 ^ 31
short_enough byte content rest h =
    omega (
      arith,
      ap length h.joined,
      length-append h.said content,
      h.size,
      leb-false (2 ^ 31)
          (length content) h.positive,
    )

-- a known value
known_of : (o : Option Scalar) (value : RawScalar) → option_map Known o ≡ Some value → (d : Scalar)
    × (o ≡ Some d) × (value ≡ Known d)
known_of None value e = cc
known_of (Some d) value e = (d, refl, cc)

pub characters_behind : (byte : ℕ) (form : LengthForm) (content rest : List ℕ) (value : RawScalar)
    → IsLengthAnd form content rest → is_utf8 content ≡ true → Some (Known (TextOf content))
    ≡ Some value
    → IsChars byte (width_in form) value (byte ∷ rest)
characters_behind byte form content rest value h t e =
    (content, IsUtf8-from_is_utf8 content t, cc, counted_behind byte form content rest h)

pub binary_behind : (byte : ℕ) (form : LengthForm) (content rest : List ℕ) (value : RawScalar)
    → IsLengthAnd form content rest → Some (Known (Bytes content)) ≡ Some value
    → IsBinary byte (width_in form) value (byte ∷ rest)
binary_behind byte form content rest value h e = (
  content,
  cc,
  counted_behind byte form content rest
      h,
)

pub unicode_behind : (byte : ℕ) (form : LengthForm) (content rest : List ℕ) (value : RawScalar)
    → IsLengthAnd form content rest → option_map Known (option_map TextOf (utf16_text content))
    ≡ Some value
    → IsUnicode byte (width_in form) value (byte ∷ rest)
unicode_behind byte form content rest value h e = by (utf16_text content) refl e
  where
    by : (text : Option (List ℕ)) → utf16_text content ≡ text → option_map Known
        (option_map TextOf text) ≡ Some value → IsUnicode byte (width_in form) value (byte ∷ rest)
    by None is e = cc
    by (Some s) is e = (content, s, is, cc, counted_behind byte form content rest h)

sign_is : (sign : ℕ) → ((sign == 0) || (sign == 128)) ≡ true → sign
    ≡ (if sign == 128 then 128 else 0)
sign_is sign e =
    elim (or_cases (sign == 0) (sign == 128) e) [
      | inl zero_sign ↦ let is : sign ≡ 0 = eqb-true sign 0 zero_sign in rw is refl
      | inr minus ↦ rw minus (eqb-true sign 128 minus)
    ]

pub decimal_behind : (rest : List ℕ) (value : RawScalar) → length rest ≡ 16 → option_map Known
    (decimal_of rest) ≡ Some value → SpellsAs texts.Decimal value (0x94 ∷ rest)
decimal_behind [] value size e = absurd (omega (arith, size))
decimal_behind (a ∷ []) value size e = absurd (omega (arith, size))
decimal_behind (a ∷ b ∷ []) value size e = absurd (omega (arith, size))
decimal_behind (a ∷ b ∷ scale ∷ []) value size e = absurd (omega (arith, size))
decimal_behind (a ∷ b ∷ scale ∷ sign ∷ more) value size e =
    let known = known_of (decimal_of (a ∷ b ∷ scale ∷ sign ∷ more)) value e in
    let good = cond_some (nat_le scale 28 && ((sign == 0) || (sign == 128))) _ _ known.1 in
    let parts = and_parts (nat_le scale 28) ((sign == 0) || (sign == 128)) good.0 in
    let four : length (take 4 more) ≡ 4 = length-take-le 4 more (omega (arith, size)) in (
      known.0,
      a ∷ b ∷ scale ∷ sign ∷ more,
      known.2,
      record {
        reserved = a ∷ b ∷ [];
        scale = scale;
        negative = sign == 128;
        high = from_le_bytes w32 (take 4 more);
        low = from_le_bytes w64 (drop 4 more);
        upper = take 4 more;
        lower = drop 4 more;
        is_reserved = refl;
        is_scale = leb-true scale 28 parts.0;
        is_upper = record { size = four; value = refl };
        is_lower = record { size = omega (arith, size, length-drop 4 more); value = refl };
        joined = ap (λ c. a ∷ b ∷ scale ∷ c ∷ more) (sign_is sign parts.1) ∙
            ap (λ c. a ∷ b ∷ scale ∷ (if sign == 128 then 128 else 0) ∷ c)
            (sym (take-append-drop 4 more));
        is_value = sym good.1;
      },
      refl,
    )

pub truth_behind : (rest : List ℕ) (value : RawScalar) → length rest ≡ 1 → option_map Known
    (truth_of (get_or rest 0 0)) ≡ Some value → SpellsAs texts.Bool value (0xb4 ∷ rest)
truth_behind [] value size e = absurd (omega (arith, size))
truth_behind (x ∷ y ∷ more) value size e = absurd (omega (arith, size))
truth_behind (x ∷ []) value size e =
    elim (cases_eq x 0) [
      | inl zero_byte ↦ inl (
        let it : option_map Known (truth_of 0)
            ≡ Some value = ap (λ b. option_map Known (truth_of b)) (sym zero_byte) ∙ e in cc,
        ap (λ b. 0xb4 ∷ b ∷ []) zero_byte,
      )
      | inr some ↦ elim (cases_eq x 1) [
        | inl one_byte ↦ inr (
          let it : option_map Known (truth_of 1)
              ≡ Some value = ap (λ b. option_map Known (truth_of b)) (sym one_byte) ∙ e in cc,
          ap (λ b. 0xb4 ∷ b ∷ []) one_byte,
        )
        | inr more ↦ let none : option_map Known (truth_of x)
            ≡ None = rw (ne_eqb x 0 some, ne_eqb x 1 more) refl in cc
      ]
    ]

pub identifier_behind : (byte : ℕ) (see : List ℕ → Scalar) (value : RawScalar) (rest : List ℕ)
    → length rest ≡ 16 → option_map Known (identifier_of see rest) ≡ Some value
    → (identifier : List ℕ) × (value ≡ Known (see identifier)) × IsSixteen byte identifier
    (byte ∷ rest)
identifier_behind byte see value rest size e =
    let says : Some (Known (see rest)) ≡ Some value = rw size at e in
    (rest, cc, (size, refl))

pub identifier_says : (see : List ℕ → Scalar) (identifier : List ℕ) (value : RawScalar)
    → length identifier ≡ 16 → value ≡ Known (see identifier) → option_map Known
    (identifier_of see identifier) ≡ Some value
identifier_says see identifier value size e = rw size (ap Some (sym e))

pub named_behind : (scalar : ScalarShape) (value : RawScalar) (rest : List ℕ)
    → ScalarIs texts.Dictionary scalar rest → scalar_value scalar ≡ Some value
    → SpellsAs texts.Dictionary value (0xaa ∷ rest)
named_behind (bytes_of k s) value rest h v = absurd h
named_behind (named_by id) value rest h v = (id, rest, cc, h, refl)
named_behind (qualified_by letter id) value rest h v = absurd h

pub qualified_behind : (scalar : ScalarShape) (value : RawScalar) (rest : List ℕ)
    → ScalarIs texts.QNameDictionary scalar rest → scalar_value scalar ≡ Some value
    → SpellsAs texts.QNameDictionary value (0xbc ∷ rest)
qualified_behind (bytes_of k s) value rest h v = absurd h
qualified_behind (named_by id) value rest h v = absurd h
qualified_behind (qualified_by letter id) value rest h v =
    let good = cond_some (nat_le letter 25) (QName letter id) value v in
    (letter, id, h.0, leb-true letter 25 good.0, sym good.1, h.1, ap (λ c. 0xbc ∷ c) h.2)

pub list_is_none : (kind : TextKind) (scalar : ScalarShape) (rest : List ℕ) → BodyIs kind Listed
    scalar rest → ⊥
list_is_none kind (bytes_of k s) rest h = h
list_is_none kind (named_by id) rest h = h
list_is_none kind (qualified_by letter id) rest h = h

pub end_is_none : (kind : TextKind) (scalar : ScalarShape) (rest : List ℕ) → BodyIs kind Ending
    scalar rest → ⊥
end_is_none kind (bytes_of k s) rest h = h
end_is_none kind (named_by id) rest h = h
end_is_none kind (qualified_by letter id) rest h = h
