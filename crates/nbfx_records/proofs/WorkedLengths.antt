-- Texts of lengths at which the width of a length changes, as they are written. That they are read
-- so is the law `written`.
use Rattle.std.proofs.Common.{◌≡◌, ℕ, Bool, true, false, List, ◌∷◌, ◌++◌, length, if◌then◌else◌, ap}
use Rattle.std.specs.Int.{to_le_bytes}
use Rattle.nbfx_values.specs.declared.scalars.Scalar.TheVariants.{Bytes, Text as TextOf}
use Rattle.nbfx_records.specs.declared.kinds.{LengthForm.LengthForm, TextKind.TextKind}
use Rattle.nbfx_records.specs.declared.nodes.{Node.TheVariants.Text, RawScalar.TheVariants.Known}
use Rattle.nbfx_records.specs.{declared.nodes.RawValue.TheVariants.One, Shapes.width_in}
use Rattle.nbfx_records.specs.Chosen.{binary, characters, chosen_bytes, least_form, record_bytes}

-- what is written of a text that isn't empty, and of bytes, which may end the element that holds
-- them
abbrev TextIs : Bool → ℕ → List ℕ → List ℕ → Type 0
TextIs ends c s bytes = chosen_bytes (Text (One (Known (TextOf (c ∷ s)))) ends) ≡ bytes

abbrev BytesAre : Bool → List ℕ → List ℕ → Type 0
BytesAre ends content bytes = chosen_bytes (Text (One (Known (Bytes content))) ends) ≡ bytes

-- the record of so many bytes
abbrev of_length : Bool → (LengthForm → TextKind) → List ℕ → ℕ → List ℕ
of_length ends kind content n =
    record_bytes ends
    (record {
      kind = kind (least_form n);
      body = to_le_bytes (width_in (least_form n)) n
          ++ content;
    })

text_of_255 : (ends : Bool) (c : ℕ) (s : List ℕ) → length (c ∷ s) ≡ 255 → TextIs ends c s
    ((if ends then 0x99 else 0x98) ∷ 0xff ∷ c ∷ s)
text_of_255 false c s e = ap (of_length false characters (c ∷ s)) e
text_of_255 true c s e = ap (of_length true characters (c ∷ s)) e

text_of_256 : (ends : Bool) (c : ℕ) (s : List ℕ) → length (c ∷ s) ≡ 256 → TextIs ends c s
    ((if ends then 0x9b else 0x9a) ∷ 0 ∷ 1 ∷ c ∷ s)
text_of_256 false c s e = ap (of_length false characters (c ∷ s)) e
text_of_256 true c s e = ap (of_length true characters (c ∷ s)) e

text_of_65535 : (ends : Bool) (c : ℕ) (s : List ℕ) → length (c ∷ s) ≡ 65535 → TextIs ends c s
    ((if ends then 0x9b else 0x9a) ∷ 0xff ∷ 0xff ∷ c ∷ s)
text_of_65535 false c s e = ap (of_length false characters (c ∷ s)) e
text_of_65535 true c s e = ap (of_length true characters (c ∷ s)) e

text_of_65536 : (ends : Bool) (c : ℕ) (s : List ℕ) → length (c ∷ s) ≡ 65536 → TextIs ends c s
    ((if ends then 0x9d else 0x9c) ∷ 0 ∷ 0 ∷ 1 ∷ 0 ∷ c ∷ s)
text_of_65536 false c s e = ap (of_length false characters (c ∷ s)) e
text_of_65536 true c s e = ap (of_length true characters (c ∷ s)) e

bytes_of_255 : (ends : Bool) (content : List ℕ) → length content ≡ 255 → BytesAre ends content
    ((if ends then 0x9f else 0x9e) ∷ 0xff ∷ content)
bytes_of_255 false content e = ap (of_length false binary content) e
bytes_of_255 true content e = ap (of_length true binary content) e

bytes_of_256 : (ends : Bool) (content : List ℕ) → length content ≡ 256 → BytesAre ends content
    ((if ends then 0xa1 else 0xa0) ∷ 0 ∷ 1 ∷ content)
bytes_of_256 false content e = ap (of_length false binary content) e
bytes_of_256 true content e = ap (of_length true binary content) e

bytes_of_65535 : (ends : Bool) (content : List ℕ) → length content ≡ 65535 → BytesAre ends content
    ((if ends then 0xa1 else 0xa0) ∷ 0xff ∷ 0xff ∷ content)
bytes_of_65535 false content e = ap (of_length false binary content) e
bytes_of_65535 true content e = ap (of_length true binary content) e

bytes_of_65536 : (ends : Bool) (content : List ℕ) → length content ≡ 65536 → BytesAre ends content
    ((if ends then 0xa3 else 0xa2) ∷ 0 ∷ 0 ∷ 1 ∷ 0 ∷ content)
bytes_of_65536 false content e = ap (of_length false binary content) e
bytes_of_65536 true content e = ap (of_length true binary content) e
