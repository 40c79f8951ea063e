-- The record that is chosen for a node is one of the node.
use Rattle.std.proofs.Common.{◌≡◌, ℕ, ◌^◌, Bool, true, false, ◌&&◌, List, [], ◌∷◌, ◌++◌, length}
use Rattle.std.proofs.Common.{nat_lt, flat_map, sym, refl, inl, inr, append_assoc, arith, w16, w32}
use Rattle.std.proofs.{Common.w64, Common.ltb-true, Math.Facts.Fits-of_z}
use Rattle.std.proofs.lemmas.{Bool.and_parts, Bool.cond_both, List.Concat.flat_map-cons}
use Rattle.std.specs.{Int.cast_unsigned, List.list_all, Str.is_utf8}
use Rattle.multibyte_ints.proofs.ShortestLaws.{shortest_spells}
use Rattle.multibyte_ints.specs.{Integer.shortest, Text.string_bytes_of}
use Rattle.nbfx_values.specs.declared.{content.ArrayKind.ArrayKind, scalars.Scalar.Scalar}
use Rattle.nbfx_values.specs.declared.scalars.Scalar.TheVariants.{DateTime, Decimal, Double, Float}
use Rattle.nbfx_values.specs.declared.scalars.Scalar.TheVariants.{Number, TimeSpan, Truth, Uuid}
use Rattle.nbfx_values.specs.{Items.fits_kind, Scalars.is_unsigned}
use Rattle.nbfx_records.specs.declared.kinds.{NameForm.NameForm, PrefixForm.PrefixForm}
use Rattle.nbfx_records.specs.declared.kinds.PrefixForm.TheVariants.{Lettered, Prefixed, Unprefixed}
use Rattle.nbfx_records.specs.declared.nodes.{ArrayNode.ArrayNode, Node.Node}
use Rattle.nbfx_records.specs.declared.nodes.{AttrNode.AttrNode, RawValue.RawValue}
use Rattle.nbfx_records.specs.declared.nodes.NameRef.{NameRef, TheVariants.Id, TheVariants.Inline}
use Rattle.nbfx_records.specs.declared.nodes.Node.TheVariants.{Array, Attribute, Comment, Element}
use Rattle.nbfx_records.specs.declared.nodes.Node.TheVariants.{EndElement, Text, Xmlns}
use Rattle.nbfx_records.specs.declared.nodes.RawScalar.{RawScalar, TheVariants.Known}
use Rattle.nbfx_records.specs.declared.nodes.RawValue.TheVariants.{List as ListOf, One}
use Rattle.nbfx_records.specs.Chosen.{array_bytes, attribute_bytes, cell_bytes, chosen_bytes}
use Rattle.nbfx_records.specs.Chosen.{chosen_scalar, decimal_body, declaration_bytes, declared_form}
use Rattle.nbfx_records.specs.Chosen.{element_bytes, name_bytes, part_bytes, prefix_bytes}
use Rattle.nbfx_records.specs.Chosen.{prefix_form, scalar_bytes, value_bytes}
use Rattle.nbfx_records.specs.{Kinds.text_kind_in, Laws.ChosenIsRead, Valid.is_valid_text}
use Rattle.nbfx_records.specs.Records.{AreAttrNodes, AreCells, array_byte, IsArray, IsAttribute}
use Rattle.nbfx_records.specs.Records.{IsAttrNode, IsDeclaration, IsElement, IsName, IsNode}
use Rattle.nbfx_records.specs.Records.{SpellsAs, SpellScalars, SpellsScalar, SpellsValue}
use Rattle.nbfx_records.specs.TypeBytes.{byte_of, form_of, is_kind, is_letter, text_byte}
use Rattle.nbfx_records.specs.Valid.{are_valid_names, fit_names, fits_array, fits_name, fits_node}
use Rattle.nbfx_records.specs.Valid.{fits_part, fits_raw, fits_text, is_short, is_valid_array}
use Rattle.nbfx_records.specs.Valid.{is_valid_name, is_valid_node, is_valid_part, is_valid_raw}
use Rattle.nbfx_records.proofs.AttributeBytes.{attribute_head_there, declaration_head_there}
use Rattle.nbfx_records.proofs.{AttributeBytes.element_head_there, NodeBytes.read_of_all}
use Rattle.nbfx_records.proofs.ChosenScalars.{bits_32, bits_64, decimal_is, fits_signed, number_16}
use Rattle.nbfx_records.proofs.ChosenScalars.{number_32, number_64, number_with, scalar_text}
use Rattle.nbfx_records.proofs.ChosenScalars.{sixteen, span_text}
use Rattle.nbfx_records.proofs.{KindBytes.kind_of_byte, NameBytes.string_there}
use Rattle.nbfx_records.proofs.PartBytes.{IsRawString, NameIs, PrefixIs}
use Rattle.nbfx_records.proofs.ShapeFronts.{node_fronts}
use Rattle.nbfx_values.specs.declared.content.ArrayKind.TheVariants as arrays
use Rattle.nbfx_records.specs.declared.kinds.RecordKind.TheVariants as records
use Rattle.nbfx_records.specs.declared.nodes.AttrNode.TheVariants as attribute_nodes

-- a value and the values of a list
one_scalar : (value : RawScalar) → is_valid_raw value ≡ true → fits_raw value ≡ true
    → SpellsScalar value (scalar_bytes false value)
one_scalar value valid fits = record {
  kind = (chosen_scalar value).kind;
  spelled = scalar_text
      value valid fits;
}

scalars : (values : List RawScalar) → list_all is_valid_raw values ≡ true → list_all fits_raw values
    ≡ true → SpellScalars values (flat_map (scalar_bytes false) values)
scalars [] valid fits = refl
scalars (value ∷ values) valid fits =
    let v = and_parts (is_valid_raw value) (list_all is_valid_raw values) valid in
    let f = and_parts (fits_raw value) (list_all fits_raw values) fits in (
      scalar_bytes false value,
      flat_map (scalar_bytes false) values,
      flat_map-cons
          (scalar_bytes false) value values,
      one_scalar value v.0 f.0,
      scalars values v.1 f.1,
    )

value_is : (value : RawValue) → is_valid_text value ≡ true → fits_text value ≡ true
    → SpellsValue value (value_bytes false value)
value_is (One value) valid fits = one_scalar value valid fits
value_is (ListOf values) valid fits = (
  flat_map (scalar_bytes false) values,
  scalars values valid
      fits,
  refl,
)

text_is : (value : RawValue) (ends : Bool) → is_valid_text value ≡ true → fits_text value ≡ true
    → IsNode (Text value ends) (value_bytes ends value)
text_is value false valid fits = value_is value valid fits
text_is (One value) true valid fits = (
  text_byte (chosen_scalar value).kind,
  (chosen_scalar value).body,
  one_scalar value valid fits,
  refl,
)
text_is (ListOf values) true valid fits = (
  flat_map (scalar_bytes false) values,
  scalars values
      valid fits,
  refl,
)

-- names
raw_string : (s : List ℕ) → is_short s ≡ true → IsRawString s (string_bytes_of s)
unfolding string_bytes_of
raw_string s fits = record {
  spelling = shortest (length s);
  spelled =
      (shortest_spells (length s) (ltb-true (length s) (2 ^ 31) fits)).0;
  joined = refl;
}

name_is : (name : NameRef) → fits_name name ≡ true → NameIs (form_of name) name (name_bytes name)
name_is (Inline s) fits = raw_string s fits
name_is (Id id) fits = (shortest_spells id (ltb-true id (2 ^ 31) fits)).0

prefix_is : (prefix : List ℕ) → is_short prefix ≡ true → PrefixIs (prefix_form prefix) prefix
    (prefix_bytes (prefix_form prefix) prefix)
prefix_is [] fits = (refl, refl)
prefix_is (c ∷ []) fits =
    cond_both (is_letter c) (Lettered c) Prefixed
    (λ form. PrefixIs form (c ∷ []) (prefix_bytes form (c ∷ []))) (λ letter. (refl, refl))
    (λ other. raw_string (c ∷ []) fits)
prefix_is (c ∷ d ∷ s) fits = raw_string (c ∷ d ∷ s) fits

declared_is : (prefix : List ℕ) → is_short prefix ≡ true → PrefixIs (declared_form prefix) prefix
    (prefix_bytes (declared_form prefix) prefix)
declared_is [] fits = (refl, refl)
declared_is (c ∷ s) fits = raw_string (c ∷ s) fits

-- their forms have type bytes
letter_form : (P : PrefixForm → Type 0) (prefix : List ℕ) → P Unprefixed → P Prefixed
    → ((c : ℕ) → is_letter c ≡ true → P (Lettered c)) → P (prefix_form prefix)
letter_form P [] none string letter = none
letter_form P (c ∷ []) none string letter = cond_both (is_letter c) (Lettered c) Prefixed P
    (letter c) (λ other. string)
letter_form P (c ∷ d ∷ s) none string letter = string

element_kind : (prefix : List ℕ) (name : NameForm)
    → is_kind (records.Element (prefix_form prefix) name) ≡ true
element_kind prefix name = letter_form (λ form. is_kind (records.Element form name) ≡ true) prefix
    refl refl (λ c e. e)

attribute_kind : (prefix : List ℕ) (name : NameForm)
    → is_kind (records.Attribute (prefix_form prefix) name) ≡ true
attribute_kind prefix name = letter_form (λ form. is_kind (records.Attribute form name) ≡ true)
    prefix refl refl (λ c e. e)

declared_kind : (prefix : List ℕ) (name : NameForm)
    → is_kind (records.Declaration (declared_form prefix) name) ≡ true
declared_kind [] name = refl
declared_kind (c ∷ s) name = refl

named : (name : NameRef) → is_valid_name name ≡ true → fits_name name ≡ true
    → IsName name (name_bytes name)
named (Inline s) valid fits = string_there s (string_bytes_of s) (raw_string s fits) valid
named (Id id) valid fits = name_is (Id id) fits

-- a prefix and a name that can be written
module _ (prefix : List ℕ) (name : NameRef) (valid : are_valid_names prefix name ≡ true)
    (fits : fit_names prefix name ≡ true) where
  utf8 : is_utf8 prefix ≡ true
  utf8 = (and_parts (is_utf8 prefix) (is_valid_name name) valid).0

  short : is_short prefix ≡ true
  short = (and_parts (is_short prefix) (fits_name name) fits).0

  fits_own : fits_name name ≡ true
  fits_own = (and_parts (is_short prefix) (fits_name name) fits).1

  own : IsName name (name_bytes name)
  own = named name (and_parts (is_utf8 prefix) (is_valid_name name) valid).1 fits_own

  pub element_is : IsElement prefix name (element_bytes prefix name)
  element_is =
      let form = prefix_form prefix in
      let kind = kind_of_byte (records.Element form (form_of name))
      (element_kind prefix (form_of name)) in
      record {
        head = byte_of (records.Element form (form_of name)) ∷ prefix_bytes form prefix;
        name_bytes = name_bytes name;
        is_head = element_head_there form (form_of name) name prefix
            (byte_of (records.Element form (form_of name))) (prefix_bytes form prefix)
            (name_bytes name) kind (name_is name fits_own) (prefix_is prefix short) utf8;
        is_name = own;
        joined = refl;
      }

  pub declaration_is : IsDeclaration prefix name (declaration_bytes prefix name)
  declaration_is =
      let form = declared_form prefix in
      let kind = kind_of_byte (records.Declaration form (form_of name))
      (declared_kind prefix (form_of name)) in
      record {
        head = byte_of (records.Declaration form (form_of name)) ∷ prefix_bytes form prefix;
        uri_bytes = name_bytes name;
        is_head = declaration_head_there form (form_of name) name prefix
            (byte_of (records.Declaration form (form_of name))) (prefix_bytes form prefix)
            (name_bytes name) kind (name_is name fits_own) (declared_is prefix short) utf8;
        is_uri = own;
        joined = refl;
      }

  pub attribute_is : (value : RawValue) → is_valid_text value ≡ true → fits_text value ≡ true
      → IsAttribute prefix name value (attribute_bytes prefix name value)
  attribute_is value valid_value fits_value =
      let form = prefix_form prefix in
      let kind = kind_of_byte (records.Attribute form (form_of name))
      (attribute_kind prefix (form_of name)) in
      record {
        head = byte_of (records.Attribute form (form_of name)) ∷ prefix_bytes form prefix;
        name_bytes = name_bytes name;
        value_bytes = value_bytes false value;
        is_head = attribute_head_there form (form_of name) name prefix
            (byte_of (records.Attribute form (form_of name))) (prefix_bytes form prefix)
            (name_bytes name) kind (name_is name fits_own) (prefix_is prefix short) utf8;
        is_name = own;
        is_value = value_is value valid_value fits_value;
        joined = refl;
      }

part_is : (part : AttrNode) → is_valid_part part ≡ true → fits_part part ≡ true → IsAttrNode part
    (part_bytes part)
part_is (attribute_nodes.Attribute prefix name value) valid fits =
    let v = and_parts (are_valid_names prefix name) (is_valid_text value) valid in
    let f = and_parts (fit_names prefix name) (fits_text value) fits in
    attribute_is prefix name v.0 f.0 value v.1 f.1
part_is (attribute_nodes.Xmlns prefix uri) valid fits = declaration_is prefix uri valid fits

parts_are : (parts : List AttrNode) → list_all is_valid_part parts ≡ true → list_all fits_part parts
    ≡ true → AreAttrNodes parts (flat_map part_bytes parts)
parts_are [] valid fits = refl
parts_are (part ∷ parts) valid fits =
    let v = and_parts (is_valid_part part) (list_all is_valid_part parts) valid in
    let f = and_parts (fits_part part) (list_all fits_part parts) fits in (
      part_bytes part,
      flat_map part_bytes parts,
      flat_map-cons part_bytes part parts,
      part_is part
          v.0 f.0,
      parts_are parts v.1 f.1,
    )

-- the values of an array
cell_is : (kind : ArrayKind) (value : Scalar) → fits_kind kind value ≡ true
    → SpellsAs (text_kind_in kind) (Known value) (text_byte (text_kind_in kind) ∷ cell_bytes kind
    value)
cell_is arrays.Bool (Truth false) fits = inl (refl, refl)
cell_is arrays.Bool (Truth true) fits = inr (refl, refl)
cell_is arrays.Int16 (Number z) valid = let fits = fits_signed w16 16 z refl (omega arith) valid in
    number_with z w16 0x8a fits (number_16 (cast_unsigned w16 z) (Fits-of_z fits).fits)
cell_is arrays.Int32 (Number z) valid = let fits = fits_signed w32 32 z refl (omega arith) valid in
    number_with z w32 0x8c fits (number_32 (cast_unsigned w32 z) (Fits-of_z fits).fits)
cell_is arrays.Int64 (Number z) valid = let fits = fits_signed w64 64 z refl (omega arith) valid in
    number_with z w64 0x8e fits (number_64 (cast_unsigned w64 z) (Fits-of_z fits).fits)
cell_is arrays.Float (Float n) valid = bits_32 n valid (λ m. Known (Float m)) 0x90
cell_is arrays.Double (Double n) valid = bits_64 n valid (λ m. Known (Double m)) 0x92
cell_is arrays.Decimal (Decimal d) valid = (
  Decimal d,
  decimal_body d,
  refl,
  decimal_is d valid,
  refl,
)
cell_is arrays.DateTime (DateTime n) valid = bits_64 n valid (λ m. Known (DateTime m)) 0x96
cell_is arrays.TimeSpan (TimeSpan z) valid = span_text z valid
cell_is arrays.Uuid (Uuid identifier) valid = (identifier, refl, (sixteen identifier valid, refl))
cell_is kind value valid = cc valid

cells_are : (kind : ArrayKind) (values : List Scalar) → list_all (fits_kind kind) values ≡ true
    → AreCells kind values (flat_map (cell_bytes kind) values)
cells_are kind [] valid = refl
cells_are kind (value ∷ values) valid =
    let v = and_parts (fits_kind kind value) (list_all (fits_kind kind) values) valid in (
      text_byte (text_kind_in kind),
      cell_bytes kind value,
      flat_map (cell_bytes kind) values,
      flat_map-cons (cell_bytes kind) value values,
      cell_is kind value v.0,
      cells_are kind values v.1,
    )

array_is : (a : ArrayNode) → is_valid_array a ≡ true → fits_array a ≡ true
    → IsArray a (array_bytes a)
array_is a valid fits =
    let v = and_parts (are_valid_names a.prefix a.name) (list_all is_valid_part a.attrs
    && (nat_lt 0 (length a.values) && list_all (fits_kind a.kind) a.values)) valid in
    let vs = and_parts (list_all is_valid_part a.attrs)
    (nat_lt 0 (length a.values) && list_all (fits_kind a.kind) a.values) v.1 in
    let cells = and_parts (nat_lt 0 (length a.values)) (list_all (fits_kind a.kind) a.values) vs.1
    in
    let f = and_parts (fit_names a.prefix a.name)
    (list_all fits_part a.attrs && is_unsigned 31 (length a.values)) fits in
    let fs = and_parts (list_all fits_part a.attrs) (is_unsigned 31 (length a.values)) f.1 in
    let element = element_bytes a.prefix a.name in
    let attributes = flat_map part_bytes a.attrs in
    let count = shortest (length a.values) in
    let values = flat_map (cell_bytes a.kind) a.values in
    record {
      element = element;
      attributes = attributes;
      count = count;
      cells = values;
      is_element = element_is a.prefix a.name v.0 f.0;
      are_attributes = parts_are a.attrs vs.0 fs.0;
      is_count = (shortest_spells (length a.values) (ltb-true (length a.values) (2 ^ 31) fs.1)).0;
      some = ltb-true 0 (length a.values) cells.0;
      are_cells = cells_are a.kind a.values cells.1;
      joined = sym (append_assoc (3 ∷ element) attributes
          (1 ∷ array_byte a.kind ∷ (count ++ values)));
    }

pub chosen_is : (node : Node) → is_valid_node node ≡ true → fits_node node ≡ true
    → IsNode node (chosen_bytes node)
chosen_is EndElement valid fits = refl
chosen_is (Comment s) valid fits = (
  string_bytes_of s,
  string_there s (string_bytes_of s)
      (raw_string s fits) valid,
  refl,
)
chosen_is (Array a) valid fits = array_is a valid fits
chosen_is (Attribute prefix name value) valid fits = part_is
    (attribute_nodes.Attribute prefix name value) valid fits
chosen_is (Xmlns prefix uri) valid fits = declaration_is prefix uri valid fits
chosen_is (Element prefix name) valid fits = element_is prefix name valid fits
chosen_is (Text value ends) valid fits = text_is value ends valid fits

pub chosen_is_read : ChosenIsRead
chosen_is_read place node next valid fits stands =
    (node_fronts place).whole_stays (chosen_bytes node) next node (length (chosen_bytes node))
    (read_of_all place node (chosen_bytes node) (chosen_is node valid fits) stands)
