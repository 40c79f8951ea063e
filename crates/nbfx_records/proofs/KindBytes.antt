-- Which type byte begins which record: the table of texts and the table of records, once over each.
use Rattle.std.proofs.Common.{◌≡◌, ℕ, ◌-◌, ◌/◌, ◌<◌, ◌≤◌, Bool, true, false, ◌&&◌, if◌then◌else◌}
use Rattle.std.proofs.Common.{nat_lt, nat_le, ◌==◌, Some, None, Option, option_and_then, sym, refl}
use Rattle.std.proofs.Common.{ap, ◌∙◌, inl, inr, arith, ltb-true, le-ltb, ne_eqb, eqb-true}
use Rattle.std.proofs.{Common.leb-true, lemmas.Option.slice_get_past}
use Rattle.std.proofs.lemmas.Bool.{agree_below_at, and_parts, cases_lt, Decides.nat_tests}
use Rattle.nbfx_records.specs.declared.kinds.NameForm.TheVariants.{Identified, Inlined}
use Rattle.nbfx_records.specs.declared.kinds.PrefixForm.TheVariants.{Lettered, Prefixed, Unprefixed}
use Rattle.nbfx_records.specs.declared.kinds.{RecordKind.RecordKind, TheConstants.TEXT_KINDS}
use Rattle.nbfx_records.specs.Kinds.{record_kind, text_kind, text_record}
use Rattle.nbfx_records.specs.TypeBytes.{byte_of, is_kind, is_letter}
use Rattle.nbfx_records.specs.declared.kinds.TextKind.TheVariants as texts
use Rattle.nbfx_records.specs.declared.kinds.RecordKind.TheVariants as records

-- whether a byte is that of the record that it begins
abbrev fits_byte : ℕ → Option RecordKind → Bool
fits_byte byte None = true
fits_byte byte (Some kind) = (byte_of kind == byte) && is_kind kind

-- each byte of the table is, by computation
all_fit : (byte : ℕ) → byte < 256 → fits_byte byte (record_kind byte) ≡ true
unfolding record_kind
all_fit byte lt = agree_below_at (λ b. fits_byte b (record_kind b)) (λ b. true) 256 byte refl lt

-- no number above the bytes begins a record
pub other : {A : Type 0} (b : Bool) (x y z : A) → b ≡ false → y ≡ z → (if b then x else y) ≡ z
other true x y z h e = cc
other false x y z h e = e

pub no_text_above : (byte : ℕ) → 256 ≤ byte → text_kind byte ≡ None
no_text_above byte le = other (nat_lt byte 128) None _ None (le-ltb byte 128 (omega arith))
    (slice_get_past TEXT_KINDS ((byte - 128) / 2) (omega arith))

none_above : (byte : ℕ) → 256 ≤ byte → record_kind byte ≡ None
unfolding record_kind
none_above byte le =
    let below : (n : ℕ) → n ≤ 256 → nat_lt byte n ≡ false = λ n least. le-ltb byte n (omega arith)
    in
    let apart : (n : ℕ) → n < 256 → (byte == n) ≡ false = λ n less. ne_eqb byte n (λ e. omega arith)
    in
    other (byte == 0) None _ None (apart 0 (omega arith))
    (other (byte == 1) (Some records.EndElement) _ None (apart 1 (omega arith))
    (other (byte == 2) (Some records.Comment) _ None (apart 2 (omega arith))
    (other (byte == 3) (Some records.Array) _ None (apart 3 (omega arith))
    (other (nat_lt byte 8) _ _ None (below 8 (omega arith))
    (other (nat_lt byte 12) _ _ None (below 12 (omega arith))
    (other (nat_lt byte 38) _ _ None (below 38 (omega arith))
    (other (nat_lt byte 64) _ _ None (below 64 (omega arith))
    (other (nat_lt byte 68) _ _ None (below 68 (omega arith))
    (other (nat_lt byte 94) _ _ None (below 94 (omega arith))
    (other (nat_lt byte 120) _ _ None (below 120 (omega arith))
    (ap (option_and_then (text_record byte)) (no_text_above byte le))))))))))))

-- the byte of a record, and the record of a byte
pub byte_is : (byte : ℕ) (kind : RecordKind) → record_kind byte ≡ Some kind → (byte ≡ byte_of kind)
    × (is_kind kind ≡ true)
byte_is byte kind e =
    elim (cases_lt byte 256) [
      | inl lt ↦
          let fit : ((byte_of kind == byte) && is_kind kind) ≡ true = sym (ap (fits_byte byte) e) ∙
          all_fit byte lt in
          let parts = and_parts (byte_of kind == byte) (is_kind kind) fit in
          (sym (eqb-true (byte_of kind) byte parts.0), parts.1)
      | inr le ↦ let none = none_above byte le in cc
    ]

pub letter_parts : (c : ℕ) → is_letter c ≡ true → (97 ≤ c) × (c < 123)
letter_parts c h = let p = and_parts (nat_le 97 c) (nat_lt c 123) h in
    (leb-true 97 c p.0, ltb-true c 123 p.1)

pub kind_of_byte : (kind : RecordKind) → is_kind kind ≡ true → record_kind (byte_of kind)
    ≡ Some kind
unfolding record_kind
kind_of_byte records.EndElement h = refl
kind_of_byte records.Comment h = refl
kind_of_byte records.Array h = refl
kind_of_byte (records.Attribute Unprefixed Inlined) h = refl
kind_of_byte (records.Attribute Prefixed Inlined) h = refl
kind_of_byte (records.Attribute Unprefixed Identified) h = refl
kind_of_byte (records.Attribute Prefixed Identified) h = refl
kind_of_byte (records.Attribute (Lettered c) Identified) h = let p = letter_parts c h in grind
    (arith, nat_tests)
kind_of_byte (records.Attribute (Lettered c) Inlined) h = let p = letter_parts c h in grind
    (arith, nat_tests)
kind_of_byte (records.Declaration Unprefixed Inlined) h = refl
kind_of_byte (records.Declaration Prefixed Inlined) h = refl
kind_of_byte (records.Declaration Unprefixed Identified) h = refl
kind_of_byte (records.Declaration Prefixed Identified) h = refl
kind_of_byte (records.Declaration (Lettered c) name) h = cc
kind_of_byte (records.Element Unprefixed Inlined) h = refl
kind_of_byte (records.Element Prefixed Inlined) h = refl
kind_of_byte (records.Element Unprefixed Identified) h = refl
kind_of_byte (records.Element Prefixed Identified) h = refl
kind_of_byte (records.Element (Lettered c) Identified) h = let p = letter_parts c h in grind
    (arith, nat_tests)
kind_of_byte (records.Element (Lettered c) Inlined) h = let p = letter_parts c h in grind
    (arith, nat_tests)
kind_of_byte (records.Text texts.StartList true) h = cc
kind_of_byte (records.Text texts.Zero false) h = refl
kind_of_byte (records.Text kind false) h = refl
kind_of_byte (records.Text kind true) h = refl
