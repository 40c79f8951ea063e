-- What makes the contents of a whole record wrong: a text that isn't UTF-8, and else a value that
-- is none of its kind.
use Rattle.std.proofs.Common.{◌≡◌, ℕ, zero, suc, ◌%◌, ◌<◌, Bool, true, false, not, ◌&&◌, ◌||◌, ◌≢◌}
use Rattle.std.proofs.Common.{◌⊎◌, ◌↔◌, List, [], ◌∷◌, ◌++◌, length, get_or, if◌then◌else◌, nat_le}
use Rattle.std.proofs.Common.{◌==◌, Some, None, IsUtf8, Contains, Option, option_map, flat_map, sym}
use Rattle.std.proofs.Common.{refl, ap, ◌∙◌, subst, inl, inr, arith, eq-eqb, ne_eqb, eqb-true}
use Rattle.{std.proofs.Common.leb-false, nbfx_values.specs.declared.scalars.Scalar.Scalar}
use Rattle.std.proofs.lemmas.Bool.{and_cases, and_parts, cases_eq, eqb-false, lt-leb}
use Rattle.std.proofs.lemmas.List.{Concat.flat_map-cons, Folds.list_all-append}
use Rattle.std.proofs.lemmas.Str.{IsUtf8-from_is_utf8, is_utf8-from_IsUtf8}
use Rattle.std.specs.{Char.Utf16.has_unpaired_surrogate, List.list_all, Str.is_utf8}
use Rattle.nbfx_values.specs.declared.scalars.Scalar.TheVariants.{Text as TextOf, UniqueId, Uuid}
use Rattle.nbfx_records.specs.{declared.kinds.TextKind.TextKind, Shapes.Shape, Shapes.ValueShape}
use Rattle.nbfx_records.specs.declared.nodes.NameRef.{NameRef, TheVariants.Id, TheVariants.Inline}
use Rattle.nbfx_records.specs.declared.nodes.RawScalar.TheVariants.{Known, QName}
use Rattle.nbfx_records.specs.declared.nodes.RawValue.TheVariants.{List as ListOf, One}
use Rattle.nbfx_records.specs.Causes.{IsNoUtf16, IsNoValue, scalars_in, scalars_of_attribute}
use Rattle.nbfx_records.specs.Causes.{scalars_of_cells, scalars_of_value, texts_in, texts_of_value}
use Rattle.nbfx_records.specs.Causes.{texts_of_attribute, texts_of_name, texts_of_scalar}
use Rattle.nbfx_records.specs.Contents.{array_of, attribute_is_text, attribute_node}
use Rattle.nbfx_records.specs.Contents.{attribute_value, cell_values, cells, decimal_of, each}
use Rattle.nbfx_records.specs.Contents.{identifier_of, is_chars, is_text, name_is_text, node_of}
use Rattle.nbfx_records.specs.Contents.{scalar_is_text, scalar_of, scalar_value, shape_value}
use Rattle.nbfx_records.specs.Contents.{truth_of, units_of, utf16_text, value_is_text}
use Rattle.nbfx_records.{specs.Kinds.text_kind_in, specs.Kinds.width_of, proofs.Missing.there}
use Rattle.nbfx_records.specs.Shapes.{adds, ArrayShape, attributes, AttributeShape, begins_element}
use Rattle.nbfx_records.specs.Shapes.{bytes_of, comments, declares, ends_element, has_text}
use Rattle.nbfx_records.specs.Shapes.{named_by, one, qualified_by, repeats, ScalarShape, several}
use Rattle.nbfx_records.proofs.Missing.{both_none, each_none, looked_up, mapped_none, NoneFor}
use Rattle.nbfx_records.specs.declared.kinds.TextKind.TheVariants as texts
use Rattle.nbfx_records.specs.declared.nodes.AttrNode.TheVariants as attribute_nodes
use Rattle.nbfx_records.specs.declared.nodes.Node.TheVariants as nodes

-- whether texts are UTF-8 is said of the list of them
alone : (p : List ℕ → Bool) (x : List ℕ) → p x ≡ list_all p (x ∷ [])
alone p x = by (p x)
  where
    by : (b : Bool) → b ≡ (b && true)
    by true = refl
    by false = refl

scalar_texts : (scalar : ScalarShape) → scalar_is_text scalar ≡ list_all is_utf8
    (texts_of_scalar scalar)
scalar_texts (bytes_of kind bytes) = by (is_chars kind)
  where
    by : (characters : Bool) → (not characters || is_utf8 bytes) ≡ list_all is_utf8
        (if characters then bytes ∷ [] else [])
    by true = alone is_utf8 bytes
    by false = refl
scalar_texts (named_by id) = refl
scalar_texts (qualified_by letter id) = refl

-- of each of some things
each_text : {A : Type 0} (is_text : A → Bool) (texts_of : A → List (List ℕ))
    → ((a : A) → is_text a ≡ list_all is_utf8 (texts_of a)) → (as_given : List A) → list_all is_text
    as_given ≡ list_all is_utf8 (flat_map texts_of as_given)
each_text is_text texts_of same [] = refl
each_text is_text texts_of same (a ∷ more) =
    ap (λ b. b && list_all is_text more) (same a) ∙ ap (λ b. list_all is_utf8 (texts_of a) && b)
    (each_text is_text texts_of same more)
    ∙ sym (list_all-append is_utf8 (texts_of a) (flat_map texts_of more)) ∙ ap (list_all is_utf8)
    (sym (flat_map-cons texts_of a more))

value_texts : (value : ValueShape) → value_is_text value ≡ list_all is_utf8 (texts_of_value value)
value_texts (one scalar) = scalar_texts scalar
value_texts (several scalars) = each_text scalar_is_text texts_of_scalar scalar_texts scalars

name_texts : (name : NameRef) → name_is_text name ≡ list_all is_utf8 (texts_of_name name)
name_texts (Inline s) = alone is_utf8 s
name_texts (Id id) = refl

attribute_texts : (attribute : AttributeShape) → attribute_is_text attribute ≡ list_all is_utf8
    (texts_of_attribute attribute)
attribute_texts (attributes prefix name value) =
    ap (λ b. is_utf8 prefix && (b && value_is_text value)) (name_texts name) ∙
    ap (λ b. is_utf8 prefix && (list_all is_utf8 (texts_of_name name) && b)) (value_texts value)
    ∙ ap (λ b. is_utf8 prefix && b)
    (sym (list_all-append is_utf8 (texts_of_name name) (texts_of_value value)))
attribute_texts (declares prefix uri) = ap (λ b. is_utf8 prefix && b) (name_texts uri)

shape_texts : (shape : Shape) → is_text shape ≡ list_all is_utf8 (texts_in shape)
shape_texts ends_element = refl
shape_texts (comments bytes) = alone is_utf8 bytes
shape_texts (begins_element prefix name) = ap (λ b. is_utf8 prefix && b) (name_texts name)
shape_texts (adds attribute) = attribute_texts attribute
shape_texts (has_text value ends) = value_texts value
shape_texts (repeats array) =
    ap (λ b. is_utf8 array.prefix && (b && list_all attribute_is_text array.attributes))
    (name_texts array.name)
    ∙ ap (λ b. is_utf8 array.prefix && (list_all is_utf8 (texts_of_name array.name) && b))
    (each_text attribute_is_text texts_of_attribute attribute_texts array.attributes)
    ∙ ap (λ b. is_utf8 array.prefix && b)
    (sym (list_all-append is_utf8 (texts_of_name array.name)
    (flat_map texts_of_attribute array.attributes)))

-- one fails where not all pass
one_fails : {X : Type 0} (p : X → Bool) (xs : List X) → list_all p xs ≡ false → (x : X)
    × Contains xs x × (p x ≡ false)
one_fails p [] e = cc e
one_fails p (x ∷ xs) e =
    elim (and_cases (p x) (list_all p xs) e) [
      | inl here ↦ (x, (0, omega arith, refl), here)
      | inr behind ↦ let found = one_fails p xs behind in
          (found.0, (suc found.1.0, omega (arith, found.1.1), found.1.2), found.2)
    ]

all_pass : {X : Type 0} (p : X → Bool) (xs : List X) → list_all p xs ≡ true → (x : X)
    → Contains xs x → p x ≡ true
all_pass p [] all x (k, lt, is) = absurd (omega (arith, lt))
all_pass p (y ∷ xs) all x (zero, lt, is) = ap p (sym is) ∙ (and_parts (p y) (list_all p xs) all).0
all_pass p (y ∷ xs) all x (suc k, lt, is) = all_pass p xs (and_parts (p y) (list_all p xs) all).1 x
    (k, omega (arith, lt), is)

-- the texts of a whole record
pub bad_text : (shape : Shape) → is_text shape ≡ false → (text : List ℕ) × Contains (texts_in shape)
    text × ¬ (IsUtf8 text)
bad_text shape e =
    let found = one_fails is_utf8 (texts_in shape) (sym (shape_texts shape) ∙ e) in (
      found.0,
      found.1,
      λ utf8. let good = is_utf8-from_IsUtf8 found.0 utf8 in let bad = found.2 in
          cc (good, bad),
    )

pub good_texts : (shape : Shape) → is_text shape ≡ true → (text : List ℕ)
    → Contains (texts_in shape) text → IsUtf8 text
good_texts shape e text within = IsUtf8-from_is_utf8 text
    (all_pass is_utf8 (texts_in shape) (sym (shape_texts shape) ∙ e) text within)

pub text_is_bad : (shape : Shape) (text : List ℕ) → Contains (texts_in shape) text → ¬ (IsUtf8 text)
    → is_text shape ≡ false
text_is_bad shape text within bad = by (is_text shape) refl
  where
    by : (b : Bool) → is_text shape ≡ b → b ≡ false
    by true e = absurd (bad (good_texts shape e text within))
    by false e = refl

pub texts_are_good : (shape : Shape) → ((text : List ℕ) → Contains (texts_in shape) text
    → IsUtf8 text) → is_text shape ≡ true
texts_are_good shape good = by (is_text shape) refl
  where
    by : (b : Bool) → is_text shape ≡ b → b ≡ true
    by true e = refl
    by false e = let bad = bad_text shape e in absurd (bad.2 (good bad.0 bad.1))

-- a value is none of its kind
none_then : {A B : Type 0} (f : A → B) (o : Option A) → option_map f o ≡ None → o ≡ None
none_then f None e = refl
none_then f (Some a) e = cc e

truth_none : (byte : ℕ) → (truth_of byte ≡ None) ↔ (1 < byte)
truth_none byte = (λ e. to e, λ h. from h)
  where
    to : truth_of byte ≡ None → 1 < byte
    to e =
        elim (cases_eq byte 0) [
          | inl zero_byte ↦ let it : truth_of 0 ≡ None = ap truth_of (sym zero_byte) ∙ e in cc it
          | inr some ↦ elim (cases_eq byte 1) [
            | inl one_byte ↦ let it : truth_of 1 ≡ None = ap truth_of (sym one_byte) ∙ e in cc it
            | inr more ↦ omega (arith, some, more)
          ]
        ]

    from : 1 < byte → truth_of byte ≡ None
    from lt = rw (
      ne_eqb byte 0 (λ e. omega (arith, e, lt)),
      ne_eqb byte 1
          (λ e. omega (arith, e, lt)),
    ) refl

decimal_none : (bytes : List ℕ) → (decimal_of bytes ≡ None)
    ↔ ((28 < get_or bytes 2 0) ⊎ ((get_or bytes 3 0 ≢ 0) × (get_or bytes 3 0 ≢ 128)))
decimal_none bytes = (
  λ e. to (nat_le (get_or bytes 2 0) 28) (get_or bytes 3 0 == 0)
      (get_or bytes 3 0 == 128) refl refl refl _ e,
  λ h. from h,
)
  where
    to : (low positive negative : Bool) → nat_le (get_or bytes 2 0) 28 ≡ low
        → (get_or bytes 3 0 == 0) ≡ positive → (get_or bytes 3 0 == 128) ≡ negative → (d : Scalar)
        → (if low && (positive || negative) then Some d else None) ≡ None
        → (28 < get_or bytes 2 0) ⊎ ((get_or bytes 3 0 ≢ 0) × (get_or bytes 3 0 ≢ 128))
    to false positive negative l p n d e = inl (leb-false (get_or bytes 2 0) 28 l)
    to true true negative l p n d e = cc e
    to true false true l p n d e = cc e
    to true false false l p n d e = inr
        (eqb-false (get_or bytes 3 0) 0 p, eqb-false (get_or bytes 3 0) 128 n)

    from : (28 < get_or bytes 2 0) ⊎ ((get_or bytes 3 0 ≢ 0) × (get_or bytes 3 0 ≢ 128))
        → decimal_of bytes ≡ None
    from (inl high) = rw (lt-leb (get_or bytes 2 0) 28 high) refl
    from (inr (some, other)) = rw (
      ne_eqb (get_or bytes 3 0) 0 some,
      ne_eqb (get_or bytes 3 0) 128
          other,
    ) (by (nat_le (get_or bytes 2 0) 28) _)
      where
        by : (low : Bool) (d : Scalar) → (if low && (false || false) then Some d else None) ≡ None
        by true d = refl
        by false d = refl

utf16_none : (bytes : List ℕ) → (utf16_text bytes ≡ None) ↔ IsNoUtf16 bytes
utf16_none bytes = (
  λ e. to (length bytes % 2 == 1) (has_unpaired_surrogate (units_of bytes)) refl
      refl _ e,
  λ h. from h,
)
  where
    to : (odd lone : Bool) → (length bytes % 2 == 1) ≡ odd → has_unpaired_surrogate (units_of bytes)
        ≡ lone → (s : List ℕ) → (if odd || lone then None else Some s) ≡ None → IsNoUtf16 bytes
    to true lone o l s e = inl (eqb-true (length bytes % 2) 1 o)
    to false true o l s e = inr l
    to false false o l s e = cc e

    from : IsNoUtf16 bytes → utf16_text bytes ≡ None
    from (inl odd) = rw (eq-eqb (length bytes % 2) 1 odd) refl
    from (inr lone) = rw lone (by (length bytes % 2 == 1) _)
      where
        by : (odd : Bool) (s : List ℕ) → (if odd || true then None else Some s) ≡ None
        by true s = refl
        by false s = refl

identifier_none : (see : List ℕ → Scalar) (bytes : List ℕ) → (identifier_of see bytes ≡ None)
    ↔ (length bytes ≢ 16)
identifier_none see bytes =
    (λ e. to (length bytes == 16) refl e, λ h. rw (ne_eqb (length bytes) 16 h) refl)
  where
    to : (sixteen : Bool) → (length bytes == 16) ≡ sixteen
        → (if sixteen then Some (see bytes) else None) ≡ None → length bytes ≢ 16
    to true s e = cc e
    to false s e = eqb-false (length bytes) 16 s

letter_none : (letter id : ℕ) → ((if nat_le letter 25 then Some (QName letter id) else None) ≡ None)
    ↔ (25 < letter)
letter_none letter id = (λ e. to (nat_le letter 25) refl e, λ h. rw (lt-leb letter 25 h) refl)
  where
    to : (low : Bool) → nat_le letter 25 ≡ low → (if low then Some (QName letter id) else None)
        ≡ None → 25 < letter
    to true l e = cc e
    to false l e = leb-false letter 25 l

-- what is seen of an option is none where it is none
seen_none : {A B : Type 0} {P : Type 0} (f : A → B) (o : Option A) → (o ≡ None) ↔ P
    → (option_map f o ≡ None) ↔ P
seen_none f o h = (λ e. h.0 (none_then f o e), λ p. ap (option_map f) (h.1 p))

no_value : (scalar : ScalarShape) → (scalar_value scalar ≡ None) ↔ IsNoValue scalar
unfolding scalar_of
no_value (bytes_of texts.Bool bytes) = seen_none Known (truth_of (get_or bytes 0 0))
    (truth_none (get_or bytes 0 0))
no_value (bytes_of texts.Decimal bytes) = seen_none Known (decimal_of bytes) (decimal_none bytes)
no_value (bytes_of texts.UnicodeChars8 bytes) = seen_none Known
    (option_map TextOf (utf16_text bytes)) (seen_none TextOf (utf16_text bytes) (utf16_none bytes))
no_value (bytes_of texts.UnicodeChars16 bytes) = seen_none Known
    (option_map TextOf (utf16_text bytes)) (seen_none TextOf (utf16_text bytes) (utf16_none bytes))
no_value (bytes_of texts.UnicodeChars32 bytes) = seen_none Known
    (option_map TextOf (utf16_text bytes)) (seen_none TextOf (utf16_text bytes) (utf16_none bytes))
no_value (bytes_of texts.UniqueId bytes) = seen_none Known (identifier_of UniqueId bytes)
    (identifier_none UniqueId bytes)
no_value (bytes_of texts.Uuid bytes) = seen_none Known (identifier_of Uuid bytes)
    (identifier_none Uuid bytes)
no_value (bytes_of texts.StartList bytes) = (λ e. tt, λ h. refl)
no_value (bytes_of texts.EndList bytes) = (λ e. tt, λ h. refl)
no_value (bytes_of texts.Dictionary bytes) = (λ e. tt, λ h. refl)
no_value (bytes_of texts.QNameDictionary bytes) = (λ e. tt, λ h. refl)
no_value (bytes_of kind bytes) = (λ e. cc e, λ h. absurd h)
no_value (named_by id) = (λ e. cc e, λ h. absurd h)
no_value (qualified_by letter id) = letter_none letter id

-- and with it the values that it stands among
singles : (scalars : List ScalarShape) → flat_map (λ s. s ∷ []) scalars ≡ scalars
singles [] = refl
singles (s ∷ scalars) = flat_map-cons (λ x. x ∷ []) s scalars ∙ ap (λ rest. s ∷ rest)
    (singles scalars)

value_none : (value : ValueShape)
    → NoneFor scalar_value (shape_value value) (scalars_of_value value)
value_none (one scalar) = mapped_none scalar_value One (scalar_value scalar) (scalar ∷ [])
    (looked_up scalar_value scalar)
value_none (several scalars) =
    mapped_none scalar_value ListOf (each scalar_value scalars) scalars
    (subst (NoneFor scalar_value (each scalar_value scalars)) (singles scalars)
    (each_none scalar_value scalar_value (λ s. s ∷ []) (looked_up scalar_value) scalars))

attribute_none : (attribute : AttributeShape) → NoneFor scalar_value (attribute_value attribute)
    (scalars_of_attribute attribute)
attribute_none (attributes prefix name value) = mapped_none scalar_value
    (attribute_nodes.Attribute prefix name) (shape_value value) (scalars_of_value value)
    (value_none value)
attribute_none (declares prefix uri) = there scalar_value (attribute_nodes.Xmlns prefix uri)

cell_none : (kind : TextKind) (cell : List ℕ) → NoneFor scalar_value (scalar_of kind cell)
    (bytes_of kind cell ∷ [])
cell_none kind cell =
    let it = looked_up scalar_value (bytes_of kind cell) in (
      λ e. it.0 (ap (option_map Known) e),
      λ lacks. none_then Known (scalar_of kind cell)
          (it.1 lacks),
    )

cells_none : (array : ArrayShape) → NoneFor scalar_value
    (cell_values array.kind array.count array.bytes) (scalars_of_cells array)
cells_none array =
    each_none scalar_value (scalar_of (text_kind_in array.kind))
    (λ cell. bytes_of (text_kind_in array.kind) cell ∷ []) (cell_none (text_kind_in array.kind))
    (cells array.count (width_of array.kind) array.bytes)

array_none : (array : ArrayShape) → NoneFor scalar_value (array_of array)
    (flat_map scalars_of_attribute array.attributes ++ scalars_of_cells array)
array_none array =
    both_none scalar_value
    (λ attrs values. record {
      prefix = array.prefix;
      name = array.name;
      attrs = attrs;
      kind =
          array.kind;
      values = values;
    })
    (each attribute_value array.attributes) (cell_values array.kind array.count array.bytes)
    (flat_map scalars_of_attribute array.attributes) (scalars_of_cells array)
    (each_none scalar_value attribute_value scalars_of_attribute attribute_none array.attributes)
    (cells_none array)

shape_none : (shape : Shape) → NoneFor scalar_value (node_of shape) (scalars_in shape)
shape_none ends_element = there scalar_value nodes.EndElement
shape_none (comments bytes) = there scalar_value (nodes.Comment bytes)
shape_none (begins_element prefix name) = there scalar_value (nodes.Element prefix name)
shape_none (adds attribute) = mapped_none scalar_value attribute_node (attribute_value attribute)
    (scalars_of_attribute attribute) (attribute_none attribute)
shape_none (has_text value ends) = mapped_none scalar_value (λ v. nodes.Text v ends)
    (shape_value value) (scalars_of_value value) (value_none value)
shape_none (repeats array) = mapped_none scalar_value nodes.Array (array_of array)
    (flat_map scalars_of_attribute array.attributes ++ scalars_of_cells array) (array_none array)

pub bad_value : (shape : Shape) → node_of shape ≡ None → (value : ScalarShape)
    × Contains (scalars_in shape) value × IsNoValue value
bad_value shape e = let found = (shape_none shape).0 e in
    (found.0, found.1, (no_value found.0).0 found.2)

pub value_is_bad : (shape : Shape) (value : ScalarShape) → Contains (scalars_in shape) value
    → IsNoValue value → node_of shape ≡ None
value_is_bad shape value within bad = (shape_none shape).1 (value, within, (no_value value).1 bad)
