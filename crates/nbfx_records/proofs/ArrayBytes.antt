-- An array that is read is one that stands there, and the other way round.
use Rattle.std.proofs.Common.{◌≡◌, ℕ, zero, suc, ◌*◌, ◌%◌, ◌<◌, ◌≤◌, Bool, true, false, ◌&&◌, List}
use Rattle.std.proofs.Common.{[], ◌∷◌, ◌++◌, length, take, drop, if◌then◌else◌, ◌==◌, Some, None}
use Rattle.std.proofs.Common.{Option, option_map, option_and_then, sym, refl, ap, ◌∙◌, subst, inl}
use Rattle.std.proofs.Common.{inr, append_assoc, arith, length-append, length-drop}
use Rattle.std.proofs.Common.{take-append-drop, length-take-le, ne_eqb, eqb-true}
use Rattle.std.proofs.Math.Seq.{drop-append_seam, take-append_seam}
use Rattle.std.proofs.lemmas.Bool.{agree_below_at, and_from, and_parts, cases_lt, eqb-false}
use Rattle.std.{proofs.lemmas.List.nil_from_length, specs.List.list_all, specs.Str.is_utf8}
use Rattle.unit_streams.specs.Parts.{AreMany, more, stop}
use Rattle.multibyte_ints.specs.Integer.{Spells}
use Rattle.nbfx_values.specs.declared.{content.ArrayKind.ArrayKind, scalars.Scalar.Scalar}
use Rattle.nbfx_records.specs.declared.kinds.Body.{Body, TheVariants.Fixed}
use Rattle.nbfx_records.specs.{declared.kinds.RecordKind.RecordKind, Records.SpellsAs}
use Rattle.nbfx_records.specs.declared.nodes.{ArrayNode.ArrayNode, AttrNode.AttrNode}
use Rattle.nbfx_records.specs.{declared.nodes.RawScalar.TheVariants.Known, TypeBytes.text_byte}
use Rattle.nbfx_records.specs.Contents.{array_of, attribute_is_text, attribute_value, cells, each}
use Rattle.nbfx_records.specs.Contents.{is_chars, is_text, name_is_text, scalar_of}
use Rattle.nbfx_records.specs.Kinds.{array_kind, array_kind_of, body_of, record_kind, text_kind}
use Rattle.nbfx_records.specs.Kinds.{text_kind_in, width_of}
use Rattle.nbfx_records.specs.Records.{AreAttrNodes, AreCells, array_byte, IsArray, IsElement}
use Rattle.nbfx_records.specs.Shapes.{array_shape, ArrayShape, AttributeShape, bytes_of}
use Rattle.nbfx_records.specs.Shapes.{cells_shape, CellsShape, NamedShape, repeats}
use Rattle.nbfx_records.proofs.AttributeBytes.{element_back, element_there, part_back, part_there}
use Rattle.nbfx_records.proofs.{AttributeBytes.PartIs, ScalarParts.of_fixed, ShapeBytes.IsArrayTurn}
use Rattle.nbfx_records.proofs.KindBytes.{byte_is, no_text_above}
use Rattle.nbfx_records.proofs.PartBytes.{BodyIs, ScalarIs}
use Rattle.nbfx_records.proofs.ScalarBytes.{spelled_back, spelled_there}
use Rattle.nbfx_records.proofs.ShapeBytes.{ArrayIs, ArrayPartIs, CellsAre, CellsOf, ElementOf}
use Rattle.nbfx_records.proofs.ValueBytes.{bound_some, mapped_some}
use Rattle.nbfx_values.specs.declared.content.ArrayKind.TheVariants as arrays
use Rattle.nbfx_records.specs.declared.kinds.RecordKind.TheVariants as records

-- a value of an array has so many bytes
cell_body : (kind : ArrayKind) → body_of (text_kind_in kind) ≡ Fixed (width_of kind)
cell_body arrays.Bool = refl
cell_body kind = refl

pub cell_plain : (kind : ArrayKind) → is_chars (text_kind_in kind) ≡ false
cell_plain arrays.Bool = refl
cell_plain kind = refl

cell_is : (kind : ArrayKind) (cell : List ℕ) → length cell ≡ width_of kind
    → ScalarIs (text_kind_in kind) (bytes_of (text_kind_in kind) cell) cell
cell_is kind cell size = subst (λ (body : Body). BodyIs (text_kind_in kind) body
    (bytes_of (text_kind_in kind) cell) cell) (sym (cell_body kind)) (refl, refl, size)

cell_there : (kind : ArrayKind) (cell : List ℕ) (value : Scalar) → length cell ≡ width_of kind
    → scalar_of (text_kind_in kind) cell ≡ Some value
    → SpellsAs (text_kind_in kind) (Known value) (text_byte (text_kind_in kind) ∷ cell)
cell_there kind cell value size v =
    spelled_there (text_kind_in kind) (bytes_of (text_kind_in kind) cell) (Known value) cell
    (cell_is kind cell size) (rw (cell_plain kind) refl) (ap (option_map Known) v)

pub cells_there : (kind : ArrayKind) (count : ℕ) (bytes : List ℕ) (values : List Scalar)
    → length bytes ≡ count * width_of kind → each (scalar_of (text_kind_in kind))
    (cells count (width_of kind) bytes) ≡ Some values
    → AreCells kind values bytes × (length values ≡ count)
cells_there kind zero bytes values size v =
    let none : [] ≡ values = cc in (
      subst (λ (vs : List Scalar). AreCells kind vs bytes) none
          (nil_from_length bytes (size ∙ omega arith)),
      ap length (sym none),
    )
cells_there kind (suc count) bytes values size v =
    let w = width_of kind in
    let enough : w ≤ length bytes = omega (arith, size) in
    let head = bound_some
    (λ y. option_map (λ ys. y ∷ ys)
    (each (scalar_of (text_kind_in kind)) (cells count w (drop w bytes))))
    (scalar_of (text_kind_in kind) (take w bytes)) values v in
    let tail = mapped_some (λ ys. head.0 ∷ ys)
    (each (scalar_of (text_kind_in kind)) (cells count w (drop w bytes))) values head.2 in
    let behind = cells_there kind count (drop w bytes) tail.0
    (length-drop w bytes ∙ omega (arith, size)) tail.1 in (
      subst (λ (vs : List Scalar). AreCells kind vs bytes) tail.2 (
        text_byte (text_kind_in kind),
        take w bytes,
        drop w bytes,
        sym (take-append-drop w bytes),
        cell_there kind (take w bytes) head.0 (length-take-le w bytes enough) head.1,
        behind.0,
      ),
      ap length (sym tail.2) ∙ ap suc behind.1,
    )

known_same : (o : Option Scalar) (value : Scalar) → option_map Known o ≡ Some (Known value) → o
    ≡ Some value
known_same None value e = cc
known_same (Some x) value e = cc

cell_back : (kind : ArrayKind) (byte : ℕ) (cell : List ℕ) (value : Scalar)
    → SpellsAs (text_kind_in kind) (Known value) (byte ∷ cell) → (length cell ≡ width_of kind)
    × (scalar_of (text_kind_in kind) cell ≡ Some value)
cell_back kind byte cell value h =
    let it = spelled_back (text_kind_in kind) (Known value) (byte ∷ cell) h in
    let tail : it.rest ≡ cell = cc it.joined in
    let fixed_body = subst (λ (body : Body). BodyIs (text_kind_in kind) body it.scalar it.rest)
    (cell_body kind) it.is_body in
    let o = of_fixed (text_kind_in kind) (width_of kind) it.scalar (Known value) it.rest fixed_body
    it.says in (
      ap length (sym tail) ∙ o.size,
      known_same (scalar_of (text_kind_in kind) cell) value
          (ap (λ c. option_map Known (scalar_of (text_kind_in kind) c)) (sym tail) ∙ o.says),
    )

both_there : {A B : Type 0} (f : A → Option B) (x : A) (xs : List A) (y : B) (ys : List B) → f x
    ≡ Some y → each f xs ≡ Some ys → each f (x ∷ xs) ≡ Some (y ∷ ys)
both_there f x xs y ys e g = rw (e, g) refl

cells_back : (kind : ArrayKind) (values : List Scalar) (bytes : List ℕ) → AreCells kind values bytes
    → (length bytes ≡ length values * width_of kind)
    × (each (scalar_of (text_kind_in kind)) (cells (length values) (width_of kind) bytes)
    ≡ Some values)
cells_back kind [] bytes h = (ap length h ∙ omega arith, refl)
cells_back kind (value ∷ values) bytes (byte, cell, rest, joined, spelled, others) =
    let w = width_of kind in
    let own = cell_back kind byte cell value spelled in
    let behind = cells_back kind values rest others in
    let front : take w bytes ≡ cell = ap (take w) joined ∙ ap (λ n. take n (cell ++ rest))
    (sym own.0) ∙ take-append_seam cell rest in
    let back : drop w bytes ≡ rest = ap (drop w) joined ∙ ap (λ n. drop n (cell ++ rest))
    (sym own.0) ∙ drop-append_seam cell rest in (
      ap length joined ∙ length-append cell rest ∙ omega (arith, own.0, behind.0),
      both_there (scalar_of (text_kind_in kind)) (take w bytes)
          (cells (length values) w (drop w bytes)) value values
          (ap (scalar_of (text_kind_in kind)) front ∙ own.1)
          (ap (λ c. each (scalar_of (text_kind_in kind)) (cells (length values) w c)) back ∙
          behind.1),
    )

-- the byte of an array's kind, and the kind of a byte, by computation over the bytes
abbrev fits_kind : ℕ → Option ArrayKind → Bool
fits_kind byte None = true
fits_kind byte (Some kind) = array_byte kind == byte

kind_above : (byte : ℕ) → 256 ≤ byte → array_kind byte ≡ None
kind_above byte le = by (byte % 2 == 1)
  where
    by : (odd : Bool) → (if odd then option_and_then array_kind_of (text_kind byte) else None)
        ≡ None
    by true = ap (option_and_then array_kind_of) (no_text_above byte le)
    by false = refl

kind_there : (byte : ℕ) (kind : ArrayKind) → array_kind byte ≡ Some kind → byte ≡ array_byte kind
kind_there byte kind e =
    elim (cases_lt byte 256) [
      | inl lt ↦ sym
          (eqb-true (array_byte kind) byte
          (sym (ap (fits_kind byte) e) ∙ agree_below_at (λ b. fits_kind b (array_kind b))
          (λ b. true) 256 byte refl lt))
      | inr le ↦ let none = kind_above byte le in cc
    ]

kind_back : (kind : ArrayKind) → array_kind (array_byte kind) ≡ Some kind
kind_back arrays.Bool = refl
kind_back kind = refl

-- what stands between an array's element and its values
pub one_there : (shape : AttributeShape) (byte : ℕ) (rest : List ℕ) (k : Option RecordKind)
    → record_kind byte ≡ k → ArrayPartIs k (more shape) rest → (kind : RecordKind)
    × (record_kind byte ≡ Some kind) × PartIs kind shape rest
one_there shape byte rest (Some (records.Attribute form name)) e (s, h, same) = (
  records.Attribute form name,
  e,
  let is : s ≡ shape = cc in subst
      (λ (a : AttributeShape). PartIs (records.Attribute form name) a rest) is h,
)
one_there shape byte rest (Some (records.Declaration form name)) e (s, h, same) = (
  records.Declaration form name,
  e,
  let is : s ≡ shape = cc in subst
      (λ (a : AttributeShape). PartIs (records.Declaration form name) a rest) is h,
)
one_there shape byte rest (Some records.EndElement) e h = cc h.0
one_there shape byte rest None e h = absurd h
one_there shape byte rest (Some _) e h = absurd h

last_there : (last : Unit {0}) (byte : ℕ) (rest : List ℕ) (k : Option RecordKind) → record_kind byte
    ≡ k → ArrayPartIs k (stop last) rest → (byte ≡ 1) × (rest ≡ [])
last_there last byte rest (Some records.EndElement) e h =
    ((byte_is byte records.EndElement e).0, h.1)
last_there last byte rest (Some (records.Attribute form name)) e h = cc h.2
last_there last byte rest (Some (records.Declaration form name)) e h = cc h.2
last_there last byte rest None e h = absurd h
last_there last byte rest (Some _) e h = absurd h

parts_there : (last : Unit {0}) (items : List AttributeShape) (attrs : List AttrNode)
    (bytes : List ℕ) → AreMany IsArrayTurn items last bytes → list_all attribute_is_text items
    ≡ true
    → each attribute_value items ≡ Some attrs → (attributes : List ℕ) × AreAttrNodes attrs
    attributes × (bytes ≡ attributes ++ 1 ∷ [])
unfolding AreMany
parts_there last [] attrs bytes are t v =
    let it = last_there last are.byte are.rest (record_kind are.byte) refl are.behind in
    let none : [] ≡ attrs = cc in (
      [],
      subst (λ (nodes : List AttrNode). AreAttrNodes nodes []) none refl,
      are.joined ∙
          ap (λ b. b ∷ are.rest) it.0 ∙ ap (λ c. 1 ∷ c) it.1,
    )
parts_there last (shape ∷ items) attrs bytes (front, rest, joined, first, others) t v =
    let it = one_there shape first.byte first.rest (record_kind first.byte) refl first.behind in
    let texts = and_parts (attribute_is_text shape) (list_all attribute_is_text items) t in
    let head = bound_some (λ y. option_map (λ ys. y ∷ ys) (each attribute_value items))
    (attribute_value shape) attrs v in
    let tail = mapped_some (λ ys. head.0 ∷ ys) (each attribute_value items) attrs head.2 in
    let behind = parts_there last items tail.0 rest others texts.1 tail.1 in (
      front ++ behind.0,
      subst (λ (nodes : List AttrNode). AreAttrNodes nodes (front ++ behind.0)) tail.2 (
        front,
        behind.0,
        refl,
        part_there it.0 shape head.0 first.byte first.rest front it.1
            first.joined it.2 texts.0 head.1,
        behind.1,
      ),
      joined ∙ ap (λ c. front ++ c) behind.2 ∙ sym (append_assoc front behind.0 (1 ∷ [])),
    )

-- parts that are read of these bytes
record AreReadParts (attrs : List AttrNode) (bytes : List ℕ) : Type 0 where
  items : List AttributeShape
  are : AreMany IsArrayTurn items tt bytes
  texts : list_all attribute_is_text items ≡ true
  says : each attribute_value items ≡ Some attrs

end_is : record_kind 1 ≡ Some records.EndElement
unfolding record_kind
end_is = refl

part_turn : (kind : RecordKind) (shape : AttributeShape) (rest : List ℕ) → PartIs kind shape rest
    → ArrayPartIs (Some kind) (more shape) rest
part_turn (records.Attribute form name) shape rest h = (shape, h, refl)
part_turn (records.Declaration form name) shape rest h = (shape, h, refl)
part_turn _ shape rest h = absurd h

parts_back : (attrs : List AttrNode) (attributes : List ℕ) → AreAttrNodes attrs attributes
    → AreReadParts attrs (attributes ++ 1 ∷ [])
unfolding AreMany
parts_back [] attributes are = record {
  items = [];
  are = record {
    byte = 1;
    rest = [];
    joined = ap (λ c. c ++ 1 ∷ []) are;
    behind = subst (λ (k : Option RecordKind). ArrayPartIs k (stop tt) []) (sym end_is)
        (refl, refl);
  };
  texts = refl;
  says = refl;
}
parts_back (node ∷ attrs) attributes (front, rest, joined, first, others) =
    let it = part_back node front first in
    let behind = parts_back attrs rest others in
    record {
      items = it.shape ∷ behind.items;
      are = (
        front,
        rest ++ 1 ∷ [],
        ap (λ c. c ++ 1 ∷ []) joined ∙ append_assoc front rest (1 ∷ []),
        record {
          byte = it.byte;
          rest = it.rest;
          joined = it.joined;
          behind = subst (λ (k : Option RecordKind). ArrayPartIs k (more it.shape) it.rest)
              (sym it.begins) (part_turn it.kind it.shape it.rest it.is);
        },
        behind.are,
      );
      texts = and_from (attribute_is_text it.shape) (list_all attribute_is_text behind.items)
          it.is_text behind.texts;
      says = both_there attribute_value it.shape behind.items node attrs it.says behind.says;
    }

-- the element that is repeated
repeated_there : (it : NamedShape) (byte : ℕ) (rest bytes : List ℕ) (k : Option RecordKind)
    → record_kind byte ≡ k → bytes ≡ byte ∷ rest → ElementOf k it rest → is_utf8 it.prefix ≡ true
    → name_is_text it.name ≡ true
    → IsElement it.prefix it.name bytes
repeated_there it byte rest bytes (Some (records.Element form name)) e joined h p n = element_there
    form name it byte rest bytes e joined h p n
repeated_there it byte rest bytes None e joined h p n = absurd h
repeated_there it byte rest bytes (Some _) e joined h p n = absurd h

-- the values behind their kind
pub record AreCounted (byte : ℕ) (shape : CellsShape) (bytes : List ℕ) : Type 0 where
  pub kind : ArrayKind
  pub is_kind : byte ≡ array_byte kind
  pub counted : CellsAre kind shape bytes

pub counted_there : (byte : ℕ) (shape : CellsShape) (bytes : List ℕ) (k : Option ArrayKind)
    → array_kind byte ≡ k → CellsOf k shape bytes → AreCounted byte shape bytes
counted_there byte shape bytes None e h = absurd h
counted_there byte shape bytes (Some kind) e h = record
    { kind = kind; is_kind = kind_there byte kind e; counted = h }

-- an array behind its type byte
array_joined : (own parts attributes values count : List ℕ) (byte : ℕ) (kind : ArrayKind)
    (counted bytes : List ℕ) → bytes ≡ own ++ (parts ++ byte ∷ counted) → parts ≡ attributes ++ 1
    ∷ [] → byte ≡ array_byte kind
    → counted ≡ count ++ values → 3 ∷ bytes ≡ 3 ∷ own ++ attributes ++ 1 ∷ array_byte kind
    ∷ (count ++ values)
array_joined own parts attributes values count byte kind counted bytes joined parts_are of_kind
    counted_is =
    let tail : parts ++ byte ∷ counted ≡ attributes ++ 1 ∷ array_byte kind ∷ (count ++ values) =
    ap (λ p. p ++ byte ∷ counted) parts_are ∙ append_assoc attributes (1 ∷ []) (byte ∷ counted) ∙
    ap (λ b. attributes ++ 1 ∷ b ∷ counted) of_kind ∙ ap (λ c. attributes ++ 1 ∷ array_byte kind
    ∷ c) counted_is in
    ap (λ c. 3 ∷ c) (joined ∙ ap (λ c. own ++ c) tail) ∙ sym
    (append_assoc (3 ∷ own) attributes (1 ∷ array_byte kind ∷ (count ++ values)))

abbrev pub array_node : NamedShape → List AttrNode → ArrayKind → List Scalar → ArrayNode
array_node it attrs kind values = record {
  prefix = it.prefix;
  name = it.name;
  attrs = attrs;
  kind =
      kind;
  values = values;
}

-- what a whole array says: its texts are text, and its parts and values are these
pub record ArraySays (shape : ArrayShape) (node : ArrayNode) (bytes : List ℕ)
    (a : ArrayIs shape bytes) : Type 0 where
  pub counted : AreCounted a.are_cells.byte a.cells a.are_cells.rest
  pub attrs : List AttrNode
  pub values : List Scalar
  pub shape_is : array_shape a.it a.parts.items
      (cells_shape counted.kind counted.counted.count counted.counted.values) ≡ shape
  pub prefix_text : is_utf8 a.it.prefix ≡ true
  pub name_text : name_is_text a.it.name ≡ true
  pub part_texts : list_all attribute_is_text a.parts.items ≡ true
  pub attrs_are : each attribute_value a.parts.items ≡ Some attrs
  pub are_cells : AreCells counted.kind values counted.counted.values
  pub count_is : length values ≡ counted.counted.count
  pub node_is : array_node a.it attrs counted.kind values ≡ node

pub array_says : (shape : ArrayShape) (node : ArrayNode) (bytes : List ℕ) (a : ArrayIs shape bytes)
    → is_text (repeats shape) ≡ true → array_of shape ≡ Some node → ArraySays shape node bytes a
array_says shape node bytes a t v =
    let counted = counted_there a.are_cells.byte a.cells a.are_cells.rest
    (array_kind a.are_cells.byte) refl a.are_cells.behind in
    let c = counted.counted in
    let shape_is : array_shape a.it a.parts.items (cells_shape counted.kind c.count c.values)
    ≡ shape = ap (array_shape a.it a.parts.items) c.shape_is ∙ a.shape_is in
    let texts = and_parts (is_utf8 a.it.prefix)
    (name_is_text a.it.name && list_all attribute_is_text a.parts.items)
    (ap (λ s. is_text (repeats s)) shape_is ∙ t) in
    let others = and_parts (name_is_text a.it.name) (list_all attribute_is_text a.parts.items)
    texts.1 in
    let values_of = each (scalar_of (text_kind_in counted.kind))
    (cells c.count (width_of counted.kind) c.values) in
    let head = bound_some (λ attrs. option_map (array_node a.it attrs counted.kind) values_of)
    (each attribute_value a.parts.items) node (ap array_of shape_is ∙ v) in
    let found = mapped_some (array_node a.it head.0 counted.kind) values_of node head.2 in
    let values = cells_there counted.kind c.count c.values found.0 c.size found.1 in
    record {
      counted = counted;
      attrs = head.0;
      values = found.0;
      shape_is = shape_is;
      prefix_text = texts.0;
      name_text = others.0;
      part_texts = others.1;
      attrs_are = head.1;
      are_cells = values.0;
      count_is = values.1;
      node_is = found.2;
    }

some_values : (count : ℕ) (values : List Scalar) → (count == 0) ≡ false → length values ≡ count → 0
    < length values
some_values count values some size = elim (cases_lt 0 (length values))
    [ inl lt ↦ lt | inr le ↦ absurd (eqb-false count 0 some (omega (arith, size, le))) ]

pub array_there : (shape : ArrayShape) (node : ArrayNode) (bytes : List ℕ) → ArrayIs shape bytes
    → is_text (repeats shape) ≡ true → array_of shape ≡ Some node → IsArray node (3 ∷ bytes)
array_there shape node bytes a t v =
    let says = array_says shape node bytes a t v in
    let c = says.counted.counted in
    let attributes = parts_there a.parts.last a.parts.items says.attrs a.part_bytes a.are_parts
    says.part_texts says.attrs_are in
    subst (λ (n : ArrayNode). IsArray n (3 ∷ bytes)) says.node_is (record {
      element = a.element_bytes;
      attributes = attributes.0;
      count = c.count_bytes;
      cells = c.values;
      is_element = repeated_there a.it a.is_element.byte a.is_element.rest a.element_bytes
          (record_kind a.is_element.byte) refl a.is_element.joined a.is_element.behind
          says.prefix_text says.name_text;
      are_attributes = attributes.1;
      is_count = subst (λ (n : ℕ). Spells n c.count_bytes) (sym says.count_is) c.is_count;
      some = some_values c.count says.values c.some says.count_is;
      are_cells = says.are_cells;
      joined = array_joined a.element_bytes a.part_bytes attributes.0 c.values c.count_bytes
          a.are_cells.byte says.counted.kind a.are_cells.rest bytes
          (a.joined ∙ ap (λ b. a.element_bytes ++ (a.part_bytes ++ b)) a.are_cells.joined)
          attributes.2 says.counted.is_kind c.joined;
    })

-- an array that is read of these bytes
pub record IsReadArray (node : ArrayNode) (bytes : List ℕ) : Type 0 where
  pub rest : List ℕ
  pub shape : ArrayShape
  pub joined : bytes ≡ 3 ∷ rest
  pub is : ArrayIs shape rest
  pub is_text : is_text (repeats shape) ≡ true
  pub says : array_of shape ≡ Some node

array_said : (it : NamedShape) (parts : List AttributeShape) (attrs : List AttrNode)
    (kind : ArrayKind) (count : ℕ) (bytes : List ℕ) (values : List Scalar) → each attribute_value
    parts ≡ Some attrs
    → each (scalar_of (text_kind_in kind)) (cells count (width_of kind) bytes) ≡ Some values
    → array_of (array_shape it parts (cells_shape kind count bytes))
    ≡ Some (array_node it attrs kind values)
array_said it parts attrs kind count bytes values e f = rw (e, f) refl

pub array_back : (node : ArrayNode) (bytes : List ℕ) → IsArray node bytes → IsReadArray node bytes
array_back node bytes a =
    let own = element_back node.prefix node.name a.element a.is_element in
    let parts = parts_back node.attrs a.attributes a.are_attributes in
    let values = cells_back node.kind node.values a.cells a.are_cells in
    let it : NamedShape = record { prefix = node.prefix; name = node.name } in
    record {
      rest = a.element ++ ((a.attributes ++ 1 ∷ []) ++ array_byte node.kind ∷ (a.count ++ a.cells));
      shape = array_shape it parts.items (cells_shape node.kind (length node.values) a.cells);
      joined = a.joined ∙ append_assoc (3 ∷ a.element) a.attributes
          (1 ∷ array_byte node.kind ∷ (a.count ++ a.cells))
          ∙ ap (λ c. 3 ∷ (a.element ++ c))
          (sym (append_assoc a.attributes (1 ∷ []) (array_byte node.kind ∷ (a.count ++ a.cells))));
      is = record {
        it = it;
        parts = record { items = parts.items; last = tt };
        cells = cells_shape node.kind (length node.values) a.cells;
        element_bytes = a.element;
        part_bytes = a.attributes ++ 1 ∷ [];
        cell_bytes = array_byte node.kind ∷ (a.count ++ a.cells);
        is_element = record {
          byte = own.byte;
          rest = own.rest;
          joined = own.joined;
          behind = subst (λ (k : Option RecordKind). ElementOf k it own.rest) (sym own.begins)
              own.is;
        };
        are_parts = parts.are;
        are_cells = record {
          byte = array_byte node.kind;
          rest = a.count ++ a.cells;
          joined = refl;
          behind = subst
              (λ (k : Option ArrayKind). CellsOf k
              (cells_shape node.kind (length node.values) a.cells) (a.count ++ a.cells))
              (sym (kind_back node.kind)) (record {
                count = length node.values;
                count_bytes = a.count;
                values = a.cells;
                is_count = a.is_count;
                some = ne_eqb (length node.values) 0 (λ none. omega (arith, a.some, none));
                size = values.0;
                joined = refl;
                shape_is = refl;
              });
        };
        joined = refl;
        shape_is = refl;
      };
      is_text = and_from (is_utf8 node.prefix) (name_is_text node.name && list_all attribute_is_text
          parts.items) own.prefix_is_text
          (and_from (name_is_text node.name) (list_all attribute_is_text parts.items)
          own.name_is_text parts.texts);
      says = array_said it parts.items node.attrs node.kind (length node.values) a.cells node.values
          parts.says values.1;
    }
