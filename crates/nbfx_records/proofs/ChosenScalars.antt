-- The text record that is chosen for a single value is one of the value.
use Rattle.std.proofs.Common.{◌≡◌, ℕ, ◌+◌, ◌-◌, ◌*◌, ◌/◌, ◌%◌, ◌^◌, ◌<◌, true, false, not, ◌&&◌}
use Rattle.std.proofs.Common.{List, [], ◌∷◌, length, ℤ, pos, negsuc, nat_lt, nat_le, ◌==◌}
use Rattle.std.proofs.Common.{unsigned_abs, FitsSigned, int_eq, sym, refl, ap, ◌∙◌, div-add-mod'}
use Rattle.std.proofs.Common.{arith, length-append, to_z-of_z, w8, w16, w32, w64, ltb-false}
use Rattle.std.proofs.Common.{ltb-true, eqb-true, leb-true}
use Rattle.std.proofs.{Math.Facts.Fits-of_z, lemmas.Str.IsUtf8-from_is_utf8}
use Rattle.std.proofs.lemmas.Bool.{and_parts, cond_both, not-true}
use Rattle.std.proofs.lemmas.Nat.{div_below, from_le_bytes-to_le_bytes_2, mod_below}
use Rattle.std.proofs.lemmas.Nat.{from_le_bytes-to_le_bytes_4, from_le_bytes-to_le_bytes_8}
use Rattle.std.specs.{Cmp.signed_Decides, Str.is_utf8}
use Rattle.std.specs.Int.{Width, cast_signed, cast_unsigned, to_le_bytes}
use mir.Val.{hbits}
use Rattle.multibyte_ints.proofs.ShortestLaws.{shortest_spells}
use Rattle.multibyte_ints.specs.Integer.{shortest, Spells}
use Rattle.nbfx_values.specs.declared.scalars.{Dec.Dec, Scalar.Scalar}
use Rattle.nbfx_values.specs.declared.scalars.Scalar.TheVariants.{Bytes, DateTime, Decimal, Double}
use Rattle.nbfx_values.specs.declared.scalars.Scalar.TheVariants.{Float, Number, QName as NamedBy}
use Rattle.nbfx_values.specs.declared.scalars.Scalar.TheVariants.{Text as TextOf, TimeSpan, Truth}
use Rattle.nbfx_values.specs.declared.scalars.Scalar.TheVariants.{UniqueId, Uuid}
use Rattle.nbfx_values.specs.Scalars.{are_bytes, is_number, is_signed, is_unsigned}
use Rattle.nbfx_records.specs.declared.{kinds.LengthForm.LengthForm, nodes.RawScalar.RawScalar}
use Rattle.nbfx_records.specs.declared.kinds.LengthForm.TheVariants.{FourBytes, OneByte, TwoBytes}
use Rattle.nbfx_records.specs.declared.nodes.RawScalar.TheVariants.{Dictionary, Known, QName}
use Rattle.nbfx_records.specs.Chosen.{binary, characters, chosen_known, chosen_number}
use Rattle.nbfx_records.specs.Chosen.{chosen_scalar, chosen_text, counted_body, decimal_body}
use Rattle.nbfx_records.specs.Chosen.{least_form, signed, sized, TextRecord, with_length}
use Rattle.nbfx_records.specs.Records.{IsCounted, IsDecimal, IsFixed, IsNumberOf, SpellsAs}
use Rattle.nbfx_records.specs.TypeBytes.{text_byte}
use Rattle.nbfx_records.specs.Valid.{fits_known, fits_raw, is_valid_known, is_valid_raw}
use Rattle.nbfx_records.specs.declared.kinds.TextKind.TheVariants as texts

-- a number that a width holds is what its bytes say
pub number_8 : (n : ℕ) → n < 2 ^ 8 → IsNumberOf w8 n (to_le_bytes w8 n)
number_8 n lt = record { size = refl; value = omega arith }

pub number_16 : (n : ℕ) → n < 2 ^ 16 → IsNumberOf w16 n (to_le_bytes w16 n)
number_16 n lt = record { size = refl; value = from_le_bytes-to_le_bytes_2 n lt }

pub number_32 : (n : ℕ) → n < 2 ^ 32 → IsNumberOf w32 n (to_le_bytes w32 n)
number_32 n lt = record { size = refl; value = from_le_bytes-to_le_bytes_4 n lt }

pub number_64 : (n : ℕ) → n < 2 ^ 64 → IsNumberOf w64 n (to_le_bytes w64 n)
number_64 n lt = record { size = refl; value = from_le_bytes-to_le_bytes_8 n lt }

-- a number that so many bits with a sign hold
signed_within : (p n : ℕ) → not (nat_lt (p - 1) n) ≡ true → 0 < p → n < p
signed_within p n h some = let le = ltb-false (p - 1) n (not-true (nat_lt (p - 1) n) h) in omega
    (arith, le)

pub fits_signed : (w : Width) (k : ℕ) (z : ℤ) → 2 ^ (k - 1) ≡ 2 ^ hbits w → 0 < 2 ^ (k - 1)
    → is_signed k z ≡ true → FitsSigned w z
fits_signed w k (pos n) e some h = let lt = signed_within (2 ^ (k - 1)) n h some in record
    { sfits = omega (arith, e, lt) }
fits_signed w k (negsuc n) e some h =
    let lt = signed_within (2 ^ (k - 1)) n (and_parts (not (nat_lt (2 ^ (k - 1) - 1) n)) true h).0
    some in record { sfits = omega (arith, e, lt) }

-- a record is one of the value
abbrev pub IsTextOf : RawScalar → TextRecord → Type 0
IsTextOf value it = SpellsAs it.kind value (text_byte it.kind ∷ it.body)

pub number_with : (z : ℤ) (w : Width) (byte : ℕ) → FitsSigned w z → IsNumberOf w (cast_unsigned w z)
    (to_le_bytes w (cast_unsigned w z))
    → (n : ℕ) × (Known (Number z) ≡ Known (Number (cast_signed w n))) × IsFixed byte w n
    (byte ∷ to_le_bytes w (cast_unsigned w z))
number_with z w byte fits is = (
  cast_unsigned w z,
  ap (λ m. Known (Number m)) (sym (to_z-of_z fits)),
  (to_le_bytes w (cast_unsigned w z), is, refl),
)

number_is : (z : ℤ) (m : ℤ) → int_eq z m ≡ true → z ≡ m
number_is z m e = (signed_Decides z m).0 e

-- one that no 64 bits with a sign hold is positive
unsigned_text : (z : ℤ) → is_number z ≡ true → is_signed 64 z ≡ false → IsTextOf (Known (Number z))
    (sized texts.UInt64 w64 (unsigned_abs z))
unsigned_text (pos n) valid wide =
    let lt : n < 2 ^ 64 = signed_within (2 ^ 64) n valid (omega arith) in
    (n, refl, (to_le_bytes w64 n, number_64 n lt, refl))
unsigned_text (negsuc n) valid wide = cc (sym wide ∙ valid)

pub number_text : (z : ℤ) → is_number z ≡ true → IsTextOf (Known (Number z)) (chosen_number z)
number_text z valid =
    let P : TextRecord → Type 0 = IsTextOf (Known (Number z)) in
    cond_both (int_eq z (pos 0)) _ _ P
    (λ e. (ap (λ m. Known (Number m)) (number_is z (pos 0) e), refl)) (λ not_zero.
    cond_both (int_eq z (pos 1)) _ _ P
    (λ e. (ap (λ m. Known (Number m)) (number_is z (pos 1) e), refl)) (λ not_one.
    cond_both (is_signed 8 z) _ _ P (λ e. let fits = fits_signed w8 8 z refl (omega arith) e in
    number_with z w8 0x88 fits (number_8 (cast_unsigned w8 z) (Fits-of_z fits).fits)) (λ wide_8.
    cond_both (is_signed 16 z) _ _ P (λ e. let fits = fits_signed w16 16 z refl (omega arith) e in
    number_with z w16 0x8a fits (number_16 (cast_unsigned w16 z) (Fits-of_z fits).fits)) (λ wide_16.
    cond_both (is_signed 32 z) _ _ P (λ e. let fits = fits_signed w32 32 z refl (omega arith) e in
    number_with z w32 0x8c fits (number_32 (cast_unsigned w32 z) (Fits-of_z fits).fits)) (λ wide_32.
    cond_both (is_signed 64 z) _ _ P (λ e. let fits = fits_signed w64 64 z refl (omega arith) e in
    number_with z w64 0x8e fits (number_64 (cast_unsigned w64 z) (Fits-of_z fits).fits)) (λ wide.
    unsigned_text z valid wide))))))

-- bits, as a number of them
pub bits_32 : (n : ℕ) → is_unsigned 32 n ≡ true → (see : ℕ → RawScalar) (byte : ℕ) → (m : ℕ)
    × (see n ≡ see m) × IsFixed byte w32 m (byte ∷ to_le_bytes w32 n)
bits_32 n valid see byte =
    (n, refl, (to_le_bytes w32 n, number_32 n (ltb-true n (2 ^ 32) valid), refl))

pub bits_64 : (n : ℕ) → is_unsigned 64 n ≡ true → (see : ℕ → RawScalar) (byte : ℕ) → (m : ℕ)
    × (see n ≡ see m) × IsFixed byte w64 m (byte ∷ to_le_bytes w64 n)
bits_64 n valid see byte =
    (n, refl, (to_le_bytes w64 n, number_64 n (ltb-true n (2 ^ 64) valid), refl))

pub span_text : (z : ℤ) → is_signed 64 z ≡ true → IsTextOf (Known (TimeSpan z))
    (signed texts.TimeSpan w64 z)
span_text z valid =
    let fits = fits_signed w64 64 z refl (omega arith) valid in (
      cast_unsigned w64 z,
      ap (λ m. Known (TimeSpan m)) (sym (to_z-of_z fits)),
      (
        to_le_bytes w64 (cast_unsigned w64 z),
        number_64 (cast_unsigned w64 z) (Fits-of_z fits).fits,
        refl,
      ),
    )

pub decimal_is : (d : Dec) → (nat_le d.scale 28 && is_unsigned 96 d.magnitude) ≡ true
    → IsDecimal (Decimal d) (decimal_body d)
decimal_is d valid =
    let parts = and_parts (nat_le d.scale 28) (is_unsigned 96 d.magnitude) valid in
    let lt : d.magnitude < 2 ^ 32 * 2 ^ 64 = ltb-true d.magnitude (2 ^ 96) parts.1 in
    record {
      reserved = 0 ∷ 0 ∷ [];
      scale = d.scale;
      negative = d.negative;
      high = d.magnitude / 2 ^ 64;
      low = d.magnitude % 2 ^ 64;
      upper = to_le_bytes w32 (d.magnitude / 2 ^ 64);
      lower = to_le_bytes w64 (d.magnitude % 2 ^ 64);
      is_reserved = refl;
      is_scale = leb-true d.scale 28 parts.0;
      is_upper = number_32 (d.magnitude / 2 ^ 64)
          (div_below d.magnitude (2 ^ 64) (2 ^ 32) (omega arith) lt);
      is_lower = number_64 (d.magnitude % 2 ^ 64) (mod_below d.magnitude (2 ^ 64) (omega arith));
      joined = refl;
      is_value = ap (λ m. Decimal
          (record { scale = d.scale; negative = d.negative; magnitude = m }))
          (sym (div-add-mod' d.magnitude (2 ^ 64)));
    }

-- a length in the least form that holds it, and as many bytes
counted_8 : (byte : ℕ) (content : List ℕ) → length content < 2 ^ 8 → IsCounted byte w8 content
    (byte ∷ counted_body OneByte content)
counted_8 byte content lt = record {
  said = to_le_bytes w8 (length content);
  is_length = number_8
      (length content) lt;
  joined = refl;
}

counted_16 : (byte : ℕ) (content : List ℕ) → length content < 2 ^ 16 → IsCounted byte w16 content
    (byte ∷ counted_body TwoBytes content)
counted_16 byte content lt = record {
  said = to_le_bytes w16 (length content);
  is_length = number_16
      (length content) lt;
  joined = refl;
}

counted_32 : (byte : ℕ) (content : List ℕ) → length content < 2 ^ 31 → IsCounted byte w32 content
    (byte ∷ counted_body FourBytes content)
counted_32 byte content lt = record {
  said = to_le_bytes w32 (length content);
  is_length = number_32
      (length content) (omega (arith, lt));
  joined = refl;
}

short_body : (byte : ℕ) (content : List ℕ) → length content < 2 ^ 31
    → length (byte ∷ counted_body FourBytes content) < 5 + 2 ^ 31
short_body byte content lt = omega (
  arith,
  lt,
  length-append (to_le_bytes w32 (length content))
      content,
)

-- what holds of each form that a length may take holds of the least
by_form : (P : LengthForm → Type 0) (n : ℕ) → (n < 2 ^ 8 → P OneByte) → (n < 2 ^ 16 → P TwoBytes)
    → P FourBytes → P (least_form n)
by_form P n one two four =
    cond_both (nat_lt n (2 ^ 8)) _ _ P (λ e. one (ltb-true n (2 ^ 8) e)) (λ wide.
    cond_both (nat_lt n (2 ^ 16)) _ _ P (λ e. two (ltb-true n (2 ^ 16) e)) (λ wider. four))

pub characters_text : (s : List ℕ) → is_utf8 s ≡ true → length s < 2 ^ 31
    → IsTextOf (Known (TextOf s)) (with_length characters s)
characters_text s valid lt =
    let utf8 = IsUtf8-from_is_utf8 s valid in
    by_form (λ form. IsTextOf (Known (TextOf s))
    (record { kind = characters form; body = counted_body form s })) (length s)
    (λ lt_8. (s, utf8, refl, counted_8 0x98 s lt_8))
    (λ lt_16. (s, utf8, refl, counted_16 0x9a s lt_16))
    ((s, utf8, refl, counted_32 0x9c s lt), short_body 0x9c s lt)

pub binary_text : (content : List ℕ) → length content < 2 ^ 31 → IsTextOf (Known (Bytes content))
    (with_length binary content)
binary_text content lt =
    by_form (λ form. IsTextOf (Known (Bytes content))
    (record { kind = binary form; body = counted_body form content })) (length content)
    (λ lt_8. (content, refl, counted_8 0x9e content lt_8))
    (λ lt_16. (content, refl, counted_16 0xa0 content lt_16))
    ((content, refl, counted_32 0xa2 content lt), short_body 0xa2 content lt)

text_text : (s : List ℕ) → is_utf8 s ≡ true → is_unsigned 31 (length s) ≡ true
    → IsTextOf (Known (TextOf s)) (chosen_text s)
text_text [] valid lt = (refl, refl)
text_text (c ∷ s) valid lt = characters_text (c ∷ s) valid (ltb-true (length (c ∷ s)) (2 ^ 31) lt)

pub sixteen : (identifier : List ℕ) → (length identifier == 16 && are_bytes identifier) ≡ true
    → length identifier ≡ 16
sixteen identifier valid = eqb-true (length identifier) 16
    (and_parts (length identifier == 16) (are_bytes identifier) valid).0

pub known_text : (value : Scalar) → is_valid_known value ≡ true → fits_known value ≡ true
    → IsTextOf (Known value) (chosen_known value)
known_text (Number n) valid fits = number_text n valid
known_text (Truth false) valid fits = (refl, refl)
known_text (Truth true) valid fits = (refl, refl)
known_text (Float n) valid fits = bits_32 n valid (λ m. Known (Float m)) 0x90
known_text (Double n) valid fits = bits_64 n valid (λ m. Known (Double m)) 0x92
known_text (Decimal d) valid fits = (Decimal d, decimal_body d, refl, decimal_is d valid, refl)
known_text (DateTime n) valid fits = bits_64 n valid (λ m. Known (DateTime m)) 0x96
known_text (TimeSpan z) valid fits = span_text z valid
known_text (TextOf s) valid fits = text_text s valid fits
known_text (Bytes content) valid fits = binary_text content
    (ltb-true (length content) (2 ^ 31) fits)
known_text (UniqueId identifier) valid fits = (identifier, refl, (sixteen identifier valid, refl))
known_text (Uuid identifier) valid fits = (identifier, refl, (sixteen identifier valid, refl))
known_text (NamedBy letter name) valid fits = cc valid

spelled : (id : ℕ) → is_unsigned 31 id ≡ true → Spells id (shortest id)
spelled id fits = (shortest_spells id (ltb-true id (2 ^ 31) fits)).0

pub scalar_text : (value : RawScalar) → is_valid_raw value ≡ true → fits_raw value ≡ true
    → IsTextOf value (chosen_scalar value)
scalar_text (Known value) valid fits = known_text value valid fits
scalar_text (Dictionary id) valid fits = (id, shortest id, refl, spelled id fits, refl)
scalar_text (QName letter id) valid fits = (
  letter,
  id,
  shortest id,
  leb-true letter 25 valid,
  refl,
  spelled id fits,
  refl,
)
