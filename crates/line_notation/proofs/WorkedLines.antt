-- Worked cases: a line of each form, and one of each kind of value, as it is put and read.
use Rattle.std.proofs.Common.{◌≡◌, ◌-◌, ◌^◌, ℕ, List, [], ◌∷◌, true, false, Some, map, pos, negsuc}
use Rattle.std.proofs.Common.{codes, refl}
use Rattle.nbfx_values.specs.declared.content.ArrayKind.TheVariants as arrays
use Rattle.nbfx_values.specs.declared.scalars.Scalar.{Scalar}
use Rattle.nbfx_values.specs.declared.scalars.Scalar.TheVariants.{Number, Truth, Float, Double}
use Rattle.nbfx_values.specs.declared.scalars.Scalar.TheVariants.{Decimal, DateTime, TimeSpan, Text}
use Rattle.nbfx_values.specs.declared.scalars.Scalar.TheVariants.{Bytes, UniqueId, Uuid, QName}
use Rattle.line_notation.specs.Forms.{Form, start, ns, attr, text, comment, array, values, close}
use Rattle.line_notation.specs.Forms.{form_of, line_of}
use Rattle.line_notation.specs.Values.{no_more, one, list}
use Rattle.line_notation.proofs.OnLiterals.{lines_on_literals}

-- a form, and the line that is put for it, out of which it is read
abbrev Row : Type 0
Row = Form × List ℕ

abbrev ArePutAndRead : List Row → Type 0
ArePutAndRead rows = (map (λ (r : Row). line_of r.0) rows ≡ map (λ (r : Row). r.1) rows)
    × (map (λ (r : Row). form_of r.1) rows ≡ map (λ (r : Row). Some r.0) rows)

-- a text of this value
abbrev of_value : Scalar → Form
of_value scalar = text (one scalar no_more)

abbrev identifier : List ℕ
identifier = 0x33 ∷ 0x22 ∷ 0x11 ∷ 0x00 ∷ 0x55 ∷ 0x44 ∷ 0x77 ∷ 0x66
    ∷ 0x88 ∷ 0x99 ∷ 0xAA ∷ 0xBB ∷ 0xCC ∷ 0xDD ∷ 0xEE ∷ 0xFF ∷ []

-- a line of each form
forms : ArePutAndRead (
    (start (codes "s") (codes "Envelope"), codes "start \"s\" \"Envelope\"") ∷
    (ns [] (codes "urn:a"), codes "ns \"\" \"urn:a\"") ∷
    (attr [] (codes "k") (one (Truth true) no_more), codes "attr \"\" \"k\" truth true") ∷
    (text (one (Truth false) no_more), codes "text truth false") ∷
    (comment (codes "a b"), codes "comment \"a b\"") ∷ (
      values (one (Number (pos 1)) (one (Number (pos 2)) (one (Number (negsuc 0)) no_more))),
      codes "values number 1 number 2 number -1",
    ) ∷
    (close, codes "close") ∷
    [])
unfolding lines_on_literals
forms = (refl, refl)

-- the start of an array of each kind
arrays_of_each_kind : ArePutAndRead (
    (array arrays.Int32 [] (codes "a"), codes "array int32 \"\" \"a\"") ∷
    (array arrays.Bool [] (codes "a"), codes "array bool \"\" \"a\"") ∷
    (array arrays.Int16 [] (codes "a"), codes "array int16 \"\" \"a\"") ∷
    (array arrays.Int64 [] (codes "a"), codes "array int64 \"\" \"a\"") ∷
    (array arrays.Float [] (codes "a"), codes "array float \"\" \"a\"") ∷
    (array arrays.Double [] (codes "a"), codes "array double \"\" \"a\"") ∷
    (array arrays.Decimal [] (codes "a"), codes "array decimal \"\" \"a\"") ∷
    (array arrays.DateTime [] (codes "a"), codes "array datetime \"\" \"a\"") ∷
    (array arrays.TimeSpan [] (codes "a"), codes "array timespan \"\" \"a\"") ∷
    (array arrays.Uuid [] (codes "a"), codes "array uuid \"\" \"a\"") ∷
    [])
unfolding lines_on_literals
arrays_of_each_kind = (refl, refl)

-- numbers
numbers : ArePutAndRead (
    (of_value (Number (pos 0)), codes "text number 0") ∷
    (of_value (Number (pos (2 ^ 64 - 1))), codes "text number 18446744073709551615") ∷
    (of_value (Number (negsuc (2 ^ 63 - 1))), codes "text number -9223372036854775808") ∷
    [])
unfolding lines_on_literals
numbers = (refl, refl)

-- other values; the first string has plain bytes, a quote, a backslash, a line feed, 7F and a
-- letter
-- of two bytes
other_values : ArePutAndRead (
    (of_value (Float 0x3F800000), codes "text float 3f800000") ∷
    (of_value (Double 0xFFF0000000000000), codes "text double fff0000000000000") ∷ (
      of_value (Decimal (record { scale = 28; negative = true; magnitude = 2 ^ 96 - 1 })),
      codes "text decimal 28 - 79228162514264337593543950335",
    ) ∷ (
      of_value (Decimal (record { scale = 0; negative = false; magnitude = 0 })),
      codes "text decimal 0 + 0",
    ) ∷
    (of_value (DateTime 0x08D3F2F580001234), codes "text datetime 08d3f2f580001234") ∷
    (of_value (TimeSpan (negsuc 599999999)), codes "text timespan -600000000") ∷ (
      of_value (Text (32 ∷ 126 ∷ 34 ∷ 92 ∷ 10 ∷ 127 ∷ 195 ∷ 169 ∷ [])),
      codes "text string \" ~\\22\\5c\\0a\\7f\\c3\\a9\"",
    ) ∷
    (of_value (Bytes (0 ∷ 255 ∷ 171 ∷ [])), codes "text bytes \"00ffab\"") ∷
    (of_value (Bytes []), codes "text bytes \"\"") ∷
    (of_value (UniqueId identifier), codes "text id 00112233-4455-6677-8899-aabbccddeeff") ∷
    (of_value (Uuid identifier), codes "text uuid 00112233-4455-6677-8899-aabbccddeeff") ∷
    (of_value (QName 25 (codes "n")), codes "text qname z \"n\"") ∷
    [])
unfolding lines_on_literals
other_values = (refl, refl)

-- lists; one in a list has a form, though it is out of range
lists : ArePutAndRead (
    (text (list no_more no_more), codes "text list 0") ∷ (
      text (list (one (Number (pos 1)) (one (Text (codes "x y")) no_more)) no_more),
      codes "text list 2 number 1 string \"x y\"",
    ) ∷
    (text (list (list no_more no_more) no_more), codes "text list 1 list 0") ∷
    [])
unfolding lines_on_literals
lists = (refl, refl)

-- a plain byte may be written by its digits too
a_plain_escape : form_of (codes "comment \"\\41\"") ≡ Some (comment (65 ∷ []))
unfolding lines_on_literals
a_plain_escape = refl
