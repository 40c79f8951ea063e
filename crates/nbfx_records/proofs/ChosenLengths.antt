-- No record of a node is shorter than the one that is chosen, unless it has a text in UTF-16.
use Rattle.std.proofs.Common.{◌≡◌, ℕ, suc, ◌+◌, ◌*◌, ◌^◌, ◌<◌, ◌≤◌, Bool, true, false, not, ◌&&◌}
use Rattle.std.proofs.Common.{List, [], ◌∷◌, ◌++◌, length, take, drop, Some, None, Option}
use Rattle.std.proofs.Common.{option_map, flat_map, sym, refl, ap, ◌∙◌, subst, inl, inr, arith}
use Rattle.std.proofs.Common.{length-append, take-append-drop, length-take-le, w16, w32, w64}
use Rattle.std.proofs.lemmas.Bool.{and_parts, cond_both}
use Rattle.std.proofs.lemmas.List.{Concat.flat_map-cons, Folds.list_all-append}
use Rattle.std.specs.{Int.cast_signed, List.list_all, Str.is_utf8}
use Rattle.{unit_streams.specs.Parts.AreMany, multibyte_ints.specs.Text.string_bytes_of}
use Rattle.multibyte_ints.specs.Integer.{IsBytes, shortest, Spells}
use Rattle.nbfx_values.specs.declared.{content.ArrayKind.ArrayKind, scalars.Scalar.Scalar}
use Rattle.nbfx_values.specs.declared.scalars.Scalar.TheVariants.{DateTime, Decimal, Double, Float}
use Rattle.nbfx_values.specs.declared.scalars.Scalar.TheVariants.{Number, TimeSpan, Truth, Uuid}
use Rattle.nbfx_records.specs.declared.kinds.{NameForm.NameForm, PrefixForm.PrefixForm}
use Rattle.nbfx_records.specs.declared.kinds.NameForm.TheVariants.{Identified, Inlined}
use Rattle.nbfx_records.specs.declared.kinds.PrefixForm.TheVariants.{Lettered, Prefixed, Unprefixed}
use Rattle.nbfx_records.specs.declared.kinds.{RecordKind.RecordKind, TextKind.TextKind}
use Rattle.nbfx_records.specs.declared.nodes.{ArrayNode.ArrayNode, AttrNode.AttrNode}
use Rattle.nbfx_records.specs.declared.nodes.NameRef.{NameRef, TheVariants.Id, TheVariants.Inline}
use Rattle.nbfx_records.specs.declared.nodes.Node.{Node, TheVariants.Text}
use Rattle.nbfx_records.specs.declared.nodes.Node.TheVariants.{Array, Comment, Element, EndElement}
use Rattle.nbfx_records.specs.declared.nodes.{NodePlace.NodePlace, RawScalar.TheVariants.Known}
use Rattle.nbfx_records.specs.declared.nodes.RawValue.TheVariants.{List as ListOf, One}
use Rattle.nbfx_records.specs.Causes.{scalars_in, scalars_of_attribute}
use Rattle.nbfx_records.specs.Chosen.{array_bytes, cell_bytes, chosen_bytes, counted_cells}
use Rattle.nbfx_records.specs.Chosen.{declared_form, element_bytes, is_utf16, name_bytes}
use Rattle.nbfx_records.specs.Chosen.{part_bytes, prefix_bytes, prefix_form, value_bytes}
use Rattle.nbfx_records.specs.Contents.{array_of, attribute_is_text, attribute_node}
use Rattle.nbfx_records.specs.Contents.{attribute_value, each, is_text, name_is_text, node_of}
use Rattle.nbfx_records.specs.Contents.{scalar_value, shape_value, value_is_text}
use Rattle.nbfx_records.specs.{Kinds.record_kind, Kinds.text_kind_in, Laws.ChosenIsShortest}
use Rattle.nbfx_records.specs.{Records.AreCells, Records.SpellsAs, Shapes.several, Shapes.Shape}
use Rattle.nbfx_records.specs.Shapes.{adds, ArrayShape, AttributeShape, NamedShape, one, repeats}
use Rattle.nbfx_records.specs.TypeBytes.{is_kind, is_letter}
use Rattle.nbfx_records.proofs.ArrayBytes.{array_says, one_there}
use Rattle.nbfx_records.proofs.AttributeBytes.{attribute_form, declaration_form, element_form}
use Rattle.nbfx_records.proofs.{AttributeBytes.PartIs, KindBytes.byte_is}
use Rattle.nbfx_records.proofs.ChosenShort.{fixed_length, shortest_least, sixteen_length}
use Rattle.nbfx_records.proofs.{NameBytes.is_form, NodeBytes.contents_parts}
use Rattle.nbfx_records.proofs.PartBytes.{IsRawString, NameIs, PrefixIs}
use Rattle.nbfx_records.proofs.{ScalarBytes.decimal_size, ValueLengths.value_long}
use Rattle.nbfx_records.proofs.ShapeBytes.{ArrayIs, ElementIs, ElementOf, IsArrayTurn, just_shape}
use Rattle.nbfx_records.proofs.ShapeBytes.{PlacedIs, RecordIs, TextIs}
use Rattle.nbfx_records.proofs.ValidFacts.{bytes_front, bytes_rest, known_inj}
use Rattle.nbfx_records.proofs.ValueBytes.{bound_some, mapped_some}
use Rattle.nbfx_records.proofs.ValueLengths.{bytes_tail, items_long, list_long, Plain, scalar_long}
use Rattle.nbfx_values.specs.declared.content.ArrayKind.TheVariants as arrays
use Rattle.nbfx_records.specs.declared.kinds.RecordKind.TheVariants as records
use Rattle.nbfx_records.specs.declared.kinds.TextKind.TheVariants as texts
use Rattle.nbfx_records.specs.declared.nodes.AttrNode.TheVariants as attribute_nodes

-- prefixes and names
raw_long : (s bytes : List ℕ) → IsRawString s bytes → length (string_bytes_of s) ≤ length bytes
unfolding string_bytes_of
raw_long s bytes h =
    let short = shortest_least (length s) h.spelling h.spelled in
    omega (
      arith,
      short,
      ap length h.joined,
      length-append h.spelling s,
      length-append
          (shortest (length s)) s,
    )

prefix_long : (form : PrefixForm) (p bytes : List ℕ) → is_form true form ≡ true → PrefixIs form p
    bytes → length (prefix_bytes (prefix_form p) p) ≤ length bytes
prefix_long Unprefixed p bytes f h = let none : length (prefix_bytes (prefix_form p) p)
    ≡ 0 = ap (λ q. length (prefix_bytes (prefix_form q) q)) h.0 in omega (arith, none)
prefix_long (Lettered c) p bytes f h = let none : length (prefix_bytes (prefix_form p) p)
    ≡ 0 = ap (λ q. length (prefix_bytes (prefix_form q) q)) h.0 ∙ own in omega (arith, none)
  where
    own : length (prefix_bytes (prefix_form (c ∷ [])) (c ∷ [])) ≡ 0
    own = rw f refl
prefix_long Prefixed [] bytes f h = omega arith
prefix_long Prefixed (c ∷ []) bytes f h = cond_both (is_letter c) (Lettered c) Prefixed
    (λ form. length (prefix_bytes form (c ∷ [])) ≤ length bytes) (λ e. omega arith)
    (λ e. raw_long (c ∷ []) bytes h)
prefix_long Prefixed (c ∷ d ∷ s) bytes f h = raw_long (c ∷ d ∷ s) bytes h

declared_long : (form : PrefixForm) (p bytes : List ℕ) → is_form false form ≡ true → PrefixIs form p
    bytes → length (prefix_bytes (declared_form p) p) ≤ length bytes
declared_long Unprefixed p bytes f h = let none : length (prefix_bytes (declared_form p) p)
    ≡ 0 = ap (λ q. length (prefix_bytes (declared_form q) q)) h.0 in omega (arith, none)
declared_long (Lettered c) p bytes f h = cc f
declared_long Prefixed [] bytes f h = omega arith
declared_long Prefixed (c ∷ s) bytes f h = raw_long (c ∷ s) bytes h

name_long : (form : NameForm) (name : NameRef) (bytes : List ℕ) → NameIs form name bytes
    → length (name_bytes name) ≤ length bytes
name_long Inlined (Inline s) bytes h = raw_long s bytes h
name_long Identified (Id id) bytes h = shortest_least id bytes h
name_long Inlined (Id id) bytes h = absurd h
name_long Identified (Inline s) bytes h = absurd h

element_long : (form : PrefixForm) (name_form : NameForm) (it : NamedShape) (rest : List ℕ)
    → is_kind (records.Element form name_form) ≡ true → ElementIs form name_form it rest
    → length (element_bytes it.prefix it.name) ≤ suc (length rest)
element_long form name_form it rest real a =
    let prefix = prefix_long form a.prefix a.prefix_bytes (sym (element_form form name_form) ∙ real)
    a.is_prefix in
    let name = name_long name_form a.name a.name_bytes a.is_name in
    subst (λ (s : NamedShape). length (element_bytes s.prefix s.name) ≤ suc (length rest))
    a.shape_is
    (omega (
      arith,
      prefix,
      name,
      ap length a.joined,
      length-append a.prefix_bytes a.name_bytes,
      length-append (prefix_bytes (prefix_form a.prefix) a.prefix) (name_bytes a.name),
    ))

-- attributes and declarations
part_as : (node other : AttrNode) (most : ℕ) → other ≡ node → length (part_bytes other) ≤ most
    → length (part_bytes node) ≤ most
part_as node other most e le = subst (λ (n : AttrNode). length (part_bytes n) ≤ most) e le

part_long : (kind : RecordKind) (shape : AttributeShape) (node : AttrNode) (rest : List ℕ)
    → IsBytes rest → is_kind kind ≡ true → PartIs kind shape rest → attribute_is_text shape ≡ true
    → attribute_value shape ≡ Some node → Plain (scalars_of_attribute shape)
    → length (part_bytes node) ≤ suc (length rest)
part_long (records.Attribute form name_form) shape node rest are real a t v plain =
    let found = mapped_some (attribute_nodes.Attribute a.prefix a.name) (shape_value a.value) node
    (ap attribute_value a.shape_is ∙ v) in
    let texts = and_parts (is_utf8 a.prefix) (name_is_text a.name && value_is_text a.value)
    (ap attribute_is_text a.shape_is ∙ t) in
    let others = and_parts (name_is_text a.name) (value_is_text a.value) texts.1 in
    let own = bytes_rest a.name_bytes a.value_bytes
    (bytes_rest a.prefix_bytes (a.name_bytes ++ a.value_bytes) (subst IsBytes a.joined are)) in
    let prefix = prefix_long form a.prefix a.prefix_bytes
    (sym (attribute_form form name_form) ∙ real) a.is_prefix in
    let name = name_long name_form a.name a.name_bytes a.is_name in
    let value = value_long a.value found.0 a.value_bytes own a.is_value others.1 found.1
    (ap (λ s. list_all (λ x. not (is_utf16 x)) (scalars_of_attribute s)) a.shape_is ∙ plain) in
    part_as node (attribute_nodes.Attribute a.prefix a.name found.0) (suc (length rest)) found.2
    (omega (
      arith,
      prefix,
      name,
      value,
      ap length a.joined,
      length-append a.prefix_bytes (a.name_bytes ++ a.value_bytes),
      length-append a.name_bytes a.value_bytes,
      length-append (prefix_bytes (prefix_form a.prefix) a.prefix ++ name_bytes a.name)
          (value_bytes false found.0),
      length-append (prefix_bytes (prefix_form a.prefix) a.prefix) (name_bytes a.name),
    ))
part_long (records.Declaration form name_form) shape node rest are real a t v plain =
    let found : attribute_nodes.Xmlns a.prefix a.name
    ≡ node = cc (ap attribute_value a.shape_is ∙ v) in
    let prefix = declared_long form a.prefix a.prefix_bytes
    (sym (declaration_form form name_form) ∙ real) a.is_prefix in
    let name = name_long name_form a.name a.name_bytes a.is_name in
    part_as node (attribute_nodes.Xmlns a.prefix a.name) (suc (length rest)) found
    (omega (
      arith,
      prefix,
      name,
      ap length a.joined,
      length-append a.prefix_bytes a.name_bytes,
      length-append (prefix_bytes (declared_form a.prefix) a.prefix) (name_bytes a.name),
    ))
part_long _ shape node rest are real a t v plain = absurd a

parts_long : (last : Unit {0}) (items : List AttributeShape) (attrs : List AttrNode)
    (bytes : List ℕ) → IsBytes bytes → AreMany IsArrayTurn items last bytes
    → list_all attribute_is_text items ≡ true
    → each attribute_value items ≡ Some attrs → Plain (flat_map scalars_of_attribute items)
    → length (flat_map part_bytes attrs) < length bytes
unfolding AreMany
parts_long last [] attrs bytes are many t v plain =
    let none : [] ≡ attrs = cc v in
    let nothing : length (flat_map part_bytes attrs)
    ≡ 0 = ap (λ (nodes : List AttrNode). length (flat_map part_bytes nodes)) (sym none) in
    omega (arith, nothing, ap length many.joined)
parts_long last (shape ∷ items) attrs bytes are (front, rest, joined, first, others) t v plain =
    let it = one_there shape first.byte first.rest (record_kind first.byte) refl first.behind in
    let texts = and_parts (attribute_is_text shape) (list_all attribute_is_text items) t in
    let plain_parts = ap (list_all (λ x. not (is_utf16 x)))
    (sym (flat_map-cons scalars_of_attribute shape items)) ∙ plain in
    let plains = and_parts (list_all (λ x. not (is_utf16 x)) (scalars_of_attribute shape))
    (list_all (λ x. not (is_utf16 x)) (flat_map scalars_of_attribute items))
    (sym (list_all-append (λ x. not (is_utf16 x)) (scalars_of_attribute shape)
    (flat_map scalars_of_attribute items)) ∙ plain_parts) in
    let head = bound_some (λ y. option_map (λ ys. y ∷ ys) (each attribute_value items))
    (attribute_value shape) attrs v in
    let tail = mapped_some (λ ys. head.0 ∷ ys) (each attribute_value items) attrs head.2 in
    let own = subst IsBytes joined are in
    let here = part_long it.0 shape head.0 first.rest
    (bytes_tail first.byte first.rest front first.joined (bytes_front front rest own))
    (byte_is first.byte it.0 it.1).1 it.2 texts.0 head.1 plains.0 in
    let behind = parts_long last items tail.0 rest (bytes_rest front rest own) others texts.1 tail.1
    plains.1 in
    let said : length (flat_map part_bytes attrs) ≡ length (part_bytes head.0)
    + length (flat_map part_bytes tail.0) =
    ap (λ (nodes : List AttrNode). length (flat_map part_bytes nodes)) (sym tail.2) ∙ ap length
    (flat_map-cons part_bytes head.0 tail.0) ∙ length-append (part_bytes head.0)
    (flat_map part_bytes tail.0) in
    omega (
      arith,
      said,
      here,
      behind,
      ap length first.joined,
      ap length joined,
      length-append front
          rest,
    )

-- the values of an array
cell_as : (kind : ArrayKind) (value other : Scalar) (most n : ℕ) → Known value ≡ Known other
    → length (cell_bytes kind other) ≤ most → n ≡ suc most → length (cell_bytes kind value) < n
cell_as kind value other most n e le size =
    let is : length (cell_bytes kind value) ≡ length (cell_bytes kind other) =
    ap (λ (v : Scalar). length (cell_bytes kind v)) (known_inj value other e) in omega
    (arith, is, le, size)

cell_long : (kind : ArrayKind) (value : Scalar) (bytes : List ℕ) → SpellsAs (text_kind_in kind)
    (Known value) bytes → length (cell_bytes kind value) < length bytes
cell_long arrays.Bool value bytes (inl h) = cell_as arrays.Bool value (Truth false) 1 (length bytes)
    h.0 (omega arith) (ap length h.1)
cell_long arrays.Bool value bytes (inr h) = cell_as arrays.Bool value (Truth true) 1 (length bytes)
    h.0 (omega arith) (ap length h.1)
cell_long arrays.Int16 value bytes h = cell_as arrays.Int16 value (Number (cast_signed w16 h.0)) 2
    (length bytes) h.1 (omega arith) (fixed_length 0x8a w16 h.0 2 bytes refl h.2)
cell_long arrays.Int32 value bytes h = cell_as arrays.Int32 value (Number (cast_signed w32 h.0)) 4
    (length bytes) h.1 (omega arith) (fixed_length 0x8c w32 h.0 4 bytes refl h.2)
cell_long arrays.Int64 value bytes h = cell_as arrays.Int64 value (Number (cast_signed w64 h.0)) 8
    (length bytes) h.1 (omega arith) (fixed_length 0x8e w64 h.0 8 bytes refl h.2)
cell_long arrays.Float value bytes h = cell_as arrays.Float value (Float h.0) 4 (length bytes) h.1
    (omega arith) (fixed_length 0x90 w32 h.0 4 bytes refl h.2)
cell_long arrays.Double value bytes h = cell_as arrays.Double value (Double h.0) 8 (length bytes)
    h.1 (omega arith) (fixed_length 0x92 w64 h.0 8 bytes refl h.2)
cell_long arrays.Decimal value bytes h =
    let is = h.3 in
    let d : Scalar = Decimal
    (record { scale = is.scale; negative = is.negative; magnitude = is.high * 2 ^ 64 + is.low }) in
    cell_as arrays.Decimal value d 16 (length bytes) (h.2 ∙ ap Known is.is_value) (omega arith)
    (ap length h.4 ∙ ap suc (decimal_size h.0 h.1 is))
cell_long arrays.DateTime value bytes h = cell_as arrays.DateTime value (DateTime h.0) 8
    (length bytes) h.1 (omega arith) (fixed_length 0x96 w64 h.0 8 bytes refl h.2)
cell_long arrays.TimeSpan value bytes h = cell_as arrays.TimeSpan value
    (TimeSpan (cast_signed w64 h.0)) 8 (length bytes) h.1 (omega arith)
    (fixed_length 0xae w64 h.0 8 bytes refl h.2)
cell_long arrays.Uuid value bytes h = cell_as arrays.Uuid value (Uuid h.0) 16 (length bytes) h.1
    (omega (arith, h.2.0)) (sixteen_length 0xb0 h.0 bytes h.2)

cells_long : (kind : ArrayKind) (values : List Scalar) (bytes : List ℕ) → AreCells kind values bytes
    → length (flat_map (cell_bytes kind) values) ≤ length bytes
cells_long kind [] bytes h = omega arith
cells_long kind (value ∷ values) bytes (type, cell, rest, joined, first, others) =
    let here = cell_long kind value (type ∷ cell) first in
    let behind = cells_long kind values rest others in
    let said = ap length (flat_map-cons (cell_bytes kind) value values) ∙ length-append
    (cell_bytes kind value) (flat_map (cell_bytes kind) values) in
    omega (arith, said, here, behind, ap length joined, length-append cell rest)

-- an array
repeated_long : (it : NamedShape) (byte : ℕ) (rest bytes : List ℕ) (k : Option RecordKind)
    → record_kind byte ≡ k → bytes ≡ byte ∷ rest → ElementOf k it rest
    → length (element_bytes it.prefix it.name) ≤ length bytes
repeated_long it byte rest bytes (Some (records.Element form name)) e joined h =
    let long = element_long form name it rest (byte_is byte (records.Element form name) e).1 h in
    omega (arith, long, ap length joined)
repeated_long it byte rest bytes None e joined h = absurd h
repeated_long it byte rest bytes (Some _) e joined h = absurd h

array_long : (shape : ArrayShape) (node : ArrayNode) (bytes : List ℕ) → IsBytes bytes
    → ArrayIs shape bytes → is_text (repeats shape) ≡ true → array_of shape ≡ Some node
    → Plain (scalars_in (repeats shape)) → length (array_bytes node) ≤ suc (length bytes)
array_long shape node bytes are a t v plain =
    let says = array_says shape node bytes a t v in
    let c = says.counted.counted in
    let all_plain = ap (λ s. list_all (λ x. not (is_utf16 x)) (scalars_in (repeats s)))
    says.shape_is ∙ plain in
    let plains = and_parts
    (list_all (λ x. not (is_utf16 x)) (flat_map scalars_of_attribute a.parts.items)) _
    (sym (list_all-append (λ x. not (is_utf16 x)) (flat_map scalars_of_attribute a.parts.items) _) ∙
    all_plain) in
    let own = bytes_front a.part_bytes a.cell_bytes
    (bytes_rest a.element_bytes (a.part_bytes ++ a.cell_bytes) (subst IsBytes a.joined are)) in
    let element = repeated_long a.it a.is_element.byte a.is_element.rest a.element_bytes
    (record_kind a.is_element.byte) refl a.is_element.joined a.is_element.behind in
    let parts = parts_long a.parts.last a.parts.items says.attrs a.part_bytes own a.are_parts
    says.part_texts says.attrs_are plains.0 in
    let count = shortest_least (length says.values) c.count_bytes
    (subst (λ (n : ℕ). Spells n c.count_bytes) (sym says.count_is) c.is_count) in
    let cells = cells_long says.counted.kind says.values c.values says.are_cells in
    subst (λ (n : ArrayNode). length (array_bytes n) ≤ suc (length bytes)) says.node_is
    (omega (
      arith,
      element,
      parts,
      count,
      cells,
      ap length a.joined,
      length-append a.element_bytes (a.part_bytes ++ a.cell_bytes),
      length-append a.part_bytes a.cell_bytes,
      ap length a.are_cells.joined,
      ap length c.joined,
      length-append c.count_bytes c.values,
      length-append (element_bytes a.it.prefix a.it.name) (flat_map part_bytes says.attrs ++ 1
          ∷ counted_cells says.counted.kind says.values),
      length-append (flat_map part_bytes says.attrs)
          (1 ∷ counted_cells says.counted.kind says.values),
      length-append (shortest (length says.values))
          (flat_map (cell_bytes says.counted.kind) says.values),
    ))

-- a record behind its type byte
abbrev LongAs : Node → ℕ → Type 0
LongAs node n = length (chosen_bytes node) ≤ n

node_as : (node other : Node) (n : ℕ) → other ≡ node → LongAs other n → LongAs node n
node_as node other n e le = subst (λ (x : Node). LongAs x n) e le

part_node : (node : AttrNode) (n : ℕ) → length (part_bytes node) ≤ n → LongAs (attribute_node node)
    n
part_node (attribute_nodes.Attribute prefix name value) n le = le
part_node (attribute_nodes.Xmlns prefix uri) n le = le

text_long : (kind : TextKind) (ends : Bool) (shape : Shape) (node : Node) (rest : List ℕ)
    → IsBytes rest → TextIs kind ends shape rest → is_text shape ≡ true → node_of shape ≡ Some node
    → Plain (scalars_in shape) → LongAs node (suc (length rest))
text_long texts.StartList ends shape node rest are (list, many, same) t n plain =
    let found = mapped_some (λ v. Text v list.last) (shape_value (several list.items)) node
    (ap node_of same ∙ n) in
    let values = mapped_some ListOf (each scalar_value list.items) found.0 found.1 in
    let long = list_long list.last values.0 rest (items_long true list.last list.items values.0 rest
    are many (ap is_text same ∙ t) values.1
    (ap (λ s. list_all (λ x. not (is_utf16 x)) (scalars_in s)) same ∙ plain)) in
    node_as node (Text (ListOf values.0) list.last) (suc (length rest))
    (ap (λ v. Text v list.last) values.2 ∙ found.2) long
text_long kind ends shape node rest are (scalar, is, same) t n plain =
    let found = mapped_some (λ v. Text v ends) (shape_value (one scalar)) node
    (ap node_of same ∙ n) in
    let value = mapped_some One (scalar_value scalar) found.0 found.1 in
    let plains = and_parts (not (is_utf16 scalar)) true
    (ap (λ s. list_all (λ x. not (is_utf16 x)) (scalars_in s)) same ∙ plain) in
    node_as node (Text (One value.0) ends) (suc (length rest))
    (ap (λ v. Text v ends) value.2 ∙ found.2) (scalar_long ends kind scalar value.0 rest are is
    (ap is_text same ∙ t) value.1 plains.0)

part_record : (kind : RecordKind) (a : AttributeShape) (shape : Shape) (node : Node) (rest : List ℕ)
    → IsBytes rest → is_kind kind ≡ true → PartIs kind a rest → adds a ≡ shape → is_text shape
    ≡ true → node_of shape ≡ Some node → Plain (scalars_in shape)
    → LongAs node (suc (length rest))
part_record kind a shape node rest are real is same t n plain =
    let found = mapped_some attribute_node (attribute_value a) node (ap node_of same ∙ n) in
    let long = part_long kind a found.0 rest are real is (ap is_text same ∙ t) found.1
    (ap (λ s. list_all (λ x. not (is_utf16 x)) (scalars_in s)) same ∙ plain) in
    node_as node (attribute_node found.0) (suc (length rest)) found.2
    (part_node found.0 (suc (length rest)) long)

record_long : (kind : RecordKind) (shape : Shape) (node : Node) (rest : List ℕ) → IsBytes rest
    → is_kind kind ≡ true → RecordIs kind shape rest → is_text shape ≡ true → node_of shape
    ≡ Some node → Plain (scalars_in shape) → LongAs node (suc (length rest))
record_long records.EndElement shape node rest are real h t n plain =
    let same : EndElement ≡ node = cc (ap node_of (sym h.0) ∙ n) in node_as node EndElement
    (suc (length rest)) same (omega arith)
record_long records.Comment shape node rest are real (s, raw, is) t n plain =
    let same : Comment s ≡ node = cc (ap node_of is ∙ n) in
    let long = raw_long s rest raw in
    node_as node (Comment s) (suc (length rest)) same (omega (arith, long))
record_long records.Array shape node rest are real (a, is, same) t n plain =
    let found = mapped_some Array (array_of a) node (ap node_of same ∙ n) in
    node_as node (Array found.0) (suc (length rest)) found.2
    (array_long a found.0 rest are is (ap is_text same ∙ t) found.1
    (ap (λ s. list_all (λ x. not (is_utf16 x)) (scalars_in s)) same ∙ plain))
record_long (records.Attribute form name) shape node rest are real (a, is, same) t n plain =
    part_record (records.Attribute form name) a shape node rest are real is same t n plain
record_long (records.Declaration form name) shape node rest are real (a, is, same) t n plain =
    part_record (records.Declaration form name) a shape node rest are real is same t n plain
record_long (records.Element form name) shape node rest are real (it, is, made) t n plain =
    let same : Element it.prefix it.name ≡ node = cc (ap node_of made ∙ n) in
    node_as node (Element it.prefix it.name) (suc (length rest)) same
    (element_long form name it rest real is)
record_long (records.Text kind ends) shape node rest are real h t n plain = text_long kind ends
    shape node rest are h t n plain

placed_long : (place : NodePlace) (shape : Shape) (node : Node) (byte : ℕ) (rest : List ℕ)
    (k : Option RecordKind) → record_kind byte ≡ k → IsBytes rest → PlacedIs place k shape rest
    → is_text shape ≡ true → node_of shape ≡ Some node → Plain (scalars_in shape)
    → LongAs node (suc (length rest))
placed_long place shape node byte rest None e are h t n plain = absurd h
placed_long place shape node byte rest (Some kind) e are h t n plain = record_long kind shape node
    rest are (byte_is byte kind e).1 h.1 t n plain

pub chosen_is_shortest : ChosenIsShortest
chosen_is_shortest place bytes shape node n are stands says plain =
    let read = (just_shape place bytes shape n).0 stands in
    let is = read.1 in
    let parts = contents_parts shape node says in
    let front = bytes_front (take n bytes) (drop n bytes)
    (subst IsBytes (sym (take-append-drop n bytes)) are) in
    let long = placed_long place shape node is.byte is.rest (record_kind is.byte) refl
    (bytes_tail is.byte is.rest (take n bytes) is.joined front) is.behind parts.0 parts.1 plain in
    omega (arith, long, ap length is.joined, length-take-le n bytes read.0)
