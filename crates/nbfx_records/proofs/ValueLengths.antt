-- No record of a value is shorter than the one that is chosen, unless it has a text in UTF-16.
use Rattle.std.proofs.Common.{◌≡◌, ℕ, suc, ◌+◌, ◌<◌, ◌≤◌, Bool, true, false, not, List, [], ◌∷◌}
use Rattle.std.proofs.Common.{length, Some, None, Option, option_map, flat_map, sym, refl, ap, ◌∙◌}
use Rattle.std.proofs.Common.{subst, arith, length-append}
use Rattle.std.proofs.lemmas.{Bool.and_parts, Bool.not-true, List.Concat.flat_map-cons}
use Rattle.{std.specs.List.list_all, unit_streams.specs.Parts.AreMany}
use Rattle.multibyte_ints.specs.Integer.{IsBytes}
use Rattle.nbfx_records.specs.declared.kinds.{RecordKind.RecordKind, TextKind.TextKind}
use Rattle.nbfx_records.specs.declared.nodes.{RawScalar.RawScalar, RawValue.RawValue}
use Rattle.nbfx_records.specs.declared.nodes.RawValue.TheVariants.{List as ListOf, One}
use Rattle.nbfx_records.specs.{Causes.scalars_of_value, Kinds.record_kind}
use Rattle.nbfx_records.specs.Chosen.{is_utf16, scalar_bytes, value_bytes}
use Rattle.nbfx_records.specs.Contents.{each, scalar_is_text, scalar_value, shape_value}
use Rattle.nbfx_records.specs.{Contents.value_is_text, TypeBytes.text_byte}
use Rattle.nbfx_records.specs.Shapes.{bytes_of, named_by, qualified_by, ScalarShape, ValueShape}
use Rattle.nbfx_records.proofs.ChosenShort.{of_utf16, spelled_long}
use Rattle.nbfx_records.proofs.{PartBytes.IsTurn, PartBytes.ScalarIs, ScalarBytes.spelled_there}
use Rattle.nbfx_records.proofs.ShapeBytes.{IsValue, ValueIs}
use Rattle.nbfx_records.proofs.ValidFacts.{bytes_front, bytes_rest}
use Rattle.nbfx_records.proofs.ValueBytes.{bound_some, item_there, mapped_some}
use Rattle.nbfx_records.specs.declared.kinds.RecordKind.TheVariants as records
use Rattle.nbfx_records.specs.declared.kinds.TextKind.TheVariants as texts

-- no value is in UTF-16
abbrev pub Plain : List ScalarShape → Type 0
Plain scalars = list_all (λ scalar. not (is_utf16 scalar)) scalars ≡ true

pub bytes_tail : (byte : ℕ) (rest bytes : List ℕ) → bytes ≡ byte ∷ rest → IsBytes bytes → IsBytes rest
bytes_tail byte rest bytes joined are = bytes_rest (byte ∷ []) rest (subst IsBytes joined are)

-- one value
kind_plain : (kind : TextKind) (scalar : ScalarShape) (rest : List ℕ) → ScalarIs kind scalar rest
    → is_utf16 scalar ≡ false → of_utf16 kind ≡ false
kind_plain texts.UnicodeChars8 (bytes_of k s) rest h plain = let units =
    ap (λ j. is_utf16 (bytes_of j s)) h.0 in cc (units, plain)
kind_plain texts.UnicodeChars16 (bytes_of k s) rest h plain = let units =
    ap (λ j. is_utf16 (bytes_of j s)) h.0 in cc (units, plain)
kind_plain texts.UnicodeChars32 (bytes_of k s) rest h plain = let units =
    ap (λ j. is_utf16 (bytes_of j s)) h.0 in cc (units, plain)
kind_plain texts.UnicodeChars8 (named_by id) rest h plain = absurd h
kind_plain texts.UnicodeChars16 (named_by id) rest h plain = absurd h
kind_plain texts.UnicodeChars32 (named_by id) rest h plain = absurd h
kind_plain texts.UnicodeChars8 (qualified_by letter id) rest h plain = absurd h
kind_plain texts.UnicodeChars16 (qualified_by letter id) rest h plain = absurd h
kind_plain texts.UnicodeChars32 (qualified_by letter id) rest h plain = absurd h
kind_plain kind scalar rest h plain = refl

pub scalar_long : (ends : Bool) (kind : TextKind) (scalar : ScalarShape) (value : RawScalar)
    (rest : List ℕ) → IsBytes rest → ScalarIs kind scalar rest → scalar_is_text scalar ≡ true
    → scalar_value scalar ≡ Some value → not (is_utf16 scalar) ≡ true
    → length (scalar_bytes ends value) ≤ suc (length rest)
scalar_long ends kind scalar value rest are is t v plain =
    let long = spelled_long kind value (text_byte kind ∷ rest)
    (kind_plain kind scalar rest is (not-true (is_utf16 scalar) plain)) are
    (spelled_there kind scalar value rest is t v) in
    omega (arith, long)

-- the values of a list
pub items_long : (may_close ends : Bool) (items : List ScalarShape) (values : List RawScalar)
    (bytes : List ℕ) → IsBytes bytes → AreMany (IsTurn may_close) items ends bytes
    → list_all scalar_is_text items ≡ true → each scalar_value items ≡ Some values → Plain items
    → length (flat_map (scalar_bytes false) values) < length bytes
unfolding AreMany
items_long may_close ends [] values bytes are many t v plain =
    let none : [] ≡ values = cc v in
    let nothing : length (flat_map (scalar_bytes false) values)
    ≡ 0 = ap (λ (vs : List RawScalar). length (flat_map (scalar_bytes false) vs)) (sym none) in
    omega (arith, nothing, ap length many.joined)
items_long may_close ends (scalar ∷ items) values bytes are (front, rest, joined, first, others) t v
    plain =
    let it = item_there may_close scalar first.byte first.rest (record_kind first.byte) refl
    first.behind in
    let texts = and_parts (scalar_is_text scalar) (list_all scalar_is_text items) t in
    let plains = and_parts (not (is_utf16 scalar)) (list_all (λ s. not (is_utf16 s)) items) plain in
    let head = bound_some (λ y. option_map (λ ys. y ∷ ys) (each scalar_value items))
    (scalar_value scalar) values v in
    let tail = mapped_some (λ ys. head.0 ∷ ys) (each scalar_value items) values head.2 in
    let own = subst IsBytes joined are in
    let here = scalar_long false it.kind scalar head.0 first.rest
    (bytes_tail first.byte first.rest front first.joined (bytes_front front rest own)) it.is texts.0
    head.1 plains.0 in
    let behind = items_long may_close ends items tail.0 rest (bytes_rest front rest own) others
    texts.1 tail.1 plains.1 in
    let said : length (flat_map (scalar_bytes false) values) ≡ length (scalar_bytes false head.0)
    + length (flat_map (scalar_bytes false) tail.0) =
    ap (λ (vs : List RawScalar). length (flat_map (scalar_bytes false) vs)) (sym tail.2) ∙ ap length
    (flat_map-cons (scalar_bytes false) head.0 tail.0) ∙ length-append (scalar_bytes false head.0)
    (flat_map (scalar_bytes false) tail.0) in
    omega (
      arith,
      said,
      here,
      behind,
      ap length first.joined,
      ap length joined,
      length-append front
          rest,
    )

pub list_long : (ends : Bool) (values : List RawScalar) (rest : List ℕ)
    → length (flat_map (scalar_bytes false) values) < length rest
    → length (value_bytes ends (ListOf values)) ≤ suc (length rest)
list_long false values rest lt = omega
    (arith, lt, length-append (flat_map (scalar_bytes false) values) (0xa6 ∷ []))
list_long true values rest lt = omega
    (arith, lt, length-append (flat_map (scalar_bytes false) values) (0xa7 ∷ []))

-- as a value
value_as : (ends : Bool) (value other : RawValue) (most : ℕ) → other ≡ value
    → length (value_bytes ends other) ≤ most → length (value_bytes ends value) ≤ most
value_as ends value other most e le = subst (λ (v : RawValue). length (value_bytes ends v) ≤ most) e
    le

value_by : (shape : ValueShape) (value : RawValue) (byte : ℕ) (rest : List ℕ)
    (k : Option RecordKind) → IsBytes rest → ValueIs k shape rest → value_is_text shape ≡ true
    → shape_value shape ≡ Some value → Plain (scalars_of_value shape)
    → length (value_bytes false value) ≤ suc (length rest)
value_by shape value byte rest (Some (records.Text texts.StartList false)) are (list, many, same) t
    v plain =
    let found = mapped_some ListOf (each scalar_value list.items) value (ap shape_value same ∙ v) in
    value_as false value (ListOf found.0) (suc (length rest)) found.2
    (list_long false found.0 rest (items_long false list.last list.items found.0 rest are many
    (ap value_is_text same ∙ t) found.1
    (ap (λ s. list_all (λ x. not (is_utf16 x)) (scalars_of_value s)) same ∙ plain)))
value_by shape value byte rest (Some (records.Text kind false)) are (scalar, is, same) t v plain =
    let found = mapped_some One (scalar_value scalar) value (ap shape_value same ∙ v) in
    let plains = and_parts (not (is_utf16 scalar)) true
    (ap (λ s. list_all (λ x. not (is_utf16 x)) (scalars_of_value s)) same ∙ plain) in
    value_as false value (One found.0) (suc (length rest)) found.2
    (scalar_long false kind scalar found.0 rest are is (ap value_is_text same ∙ t) found.1 plains.0)
value_by shape value byte rest None are h t v plain = absurd h
value_by shape value byte rest (Some _) are h t v plain = absurd h

pub value_long : (shape : ValueShape) (value : RawValue) (bytes : List ℕ) → IsBytes bytes
    → IsValue shape bytes → value_is_text shape ≡ true → shape_value shape ≡ Some value
    → Plain (scalars_of_value shape) → length (value_bytes false value) ≤ length bytes
value_long shape value bytes are is t v plain =
    let long = value_by shape value is.byte is.rest (record_kind is.byte)
    (bytes_tail is.byte is.rest bytes is.joined are) is.behind t v plain in
    omega (arith, long, ap length is.joined)
