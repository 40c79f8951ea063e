-- A node means two items at most, and no more values than it has bytes.
use Rattle.std.proofs.Common.{◌≡◌, ℕ, ◌+◌, ◌<◌, ◌≤◌, true, false, List, [], ◌∷◌, ◌++◌, length}
use Rattle.std.proofs.Common.{if◌then◌else◌, sum_by, ap, ◌∙◌, inl, inr, arith, length-append, w16}
use Rattle.std.proofs.{Common.w32, Common.w64, lemmas.List.Sums.sum_by-cons}
use Rattle.std.specs.Int.{Width, byte_len}
use Rattle.string_tables.specs.StringTable.{StringTable}
use Rattle.nbfx_values.specs.declared.content.{ArrayKind.ArrayKind, AttrItem.AttrItem, Item.Item}
use Rattle.nbfx_values.specs.declared.scalars.{Scalar.Scalar, Value.Value}
use Rattle.nbfx_records.proofs.ScalarBytes.{spelled_back}
use Rattle.nbfx_records.specs.declared.nodes.{AttrNode.AttrNode, Node.Node, RawValue.RawValue}
use Rattle.nbfx_records.specs.declared.nodes.Node.TheVariants.{Array, Attribute, Comment, Element}
use Rattle.nbfx_records.specs.declared.nodes.Node.TheVariants.{EndElement, Text, Xmlns}
use Rattle.nbfx_records.specs.declared.nodes.RawScalar.{RawScalar, TheVariants.Known}
use Rattle.nbfx_records.specs.declared.nodes.RawValue.TheVariants.{List as ListOf, One}
use Rattle.nbfx_records.specs.{Kinds.text_kind_in, Records.SpellsValue}
use Rattle.nbfx_records.specs.Meaning.{EachMeans, Means, PartMeans, ScalarMeans, ValueMeans}
use Rattle.nbfx_records.specs.Records.{AreAttrNodes, AreCells, array_byte, IsFixed, IsNode}
use Rattle.nbfx_records.specs.Records.{SpellsAs, SpellScalars, SpellsLast, SpellsList, SpellsScalar}
use Rattle.nbfx_decoder.specs.Values.{attribute_values, value_count, values_of}
use Rattle.nbfx_values.specs.declared.content.ArrayKind.TheVariants as arrays
use Rattle.nbfx_records.specs.declared.nodes.AttrNode.TheVariants as attribute_nodes

-- as many as there are of what they are meant by
each_as_many : {A B : Type 0} (M : A → B → Type 0) (xs : List A) (ys : List B) → EachMeans M xs ys
    → length ys ≡ length xs
each_as_many M [] ys h = ap length h
each_as_many M (x ∷ xs) ys (y, rest, is, others, made) = let size = ap length made in let more =
    each_as_many M xs rest others in omega (arith, size, more)

-- a value has a byte at least
scalar_some : (value : RawScalar) (bytes : List ℕ) → SpellsScalar value bytes → 0 < length bytes
scalar_some value bytes h = let it = spelled_back h.kind value bytes h.spelled in let size =
    ap length it.joined in omega (arith, size)

scalars_fit : (values : List RawScalar) (bytes : List ℕ) → SpellScalars values bytes → length values
    ≤ length bytes
scalars_fit [] bytes h = omega arith
scalars_fit (value ∷ values) bytes (front, rest, joined, is, are) =
    let one = scalar_some value front is in
    let others = scalars_fit values rest are in
    let size = ap length joined ∙ length-append front rest in
    omega (arith, one, others, size)

list_fits : (values : List RawScalar) (end : ℕ) (bytes : List ℕ) → SpellsList values end bytes
    → length values ≤ length bytes
list_fits values end bytes (content, are, joined) =
    let few = scalars_fit values content are in
    let size = ap length joined in
    let sum = length-append content (end ∷ []) in
    omega (arith, few, size, sum)

-- so have the values of an array
fixed_some : (kind n type : ℕ) (w : Width) (cell : List ℕ) → 0 < byte_len w → IsFixed kind w n
    (type ∷ cell) → 0 < length cell
fixed_some kind n type w cell some (number, is, joined) = let size = ap length joined in let bytes =
    is.size in omega (arith, size, bytes, some)

cell_some : (kind : ArrayKind) (value : RawScalar) (type : ℕ) (cell : List ℕ)
    → SpellsAs (text_kind_in kind) value (type ∷ cell) → 0 < length cell
cell_some arrays.Bool value type cell h = elim h [
  | inl f ↦ let size = ap length f.1 in omega (arith, size)
  | inr t ↦ let size = ap length t.1 in
      omega (arith, size)
]
cell_some arrays.Int16 value type cell h = fixed_some 0x8a h.0 type w16 cell (omega arith) h.2
cell_some arrays.Int32 value type cell h = fixed_some 0x8c h.0 type w32 cell (omega arith) h.2
cell_some arrays.Int64 value type cell h = fixed_some 0x8e h.0 type w64 cell (omega arith) h.2
cell_some arrays.Float value type cell h = fixed_some 0x90 h.0 type w32 cell (omega arith) h.2
cell_some arrays.Double value type cell h = fixed_some 0x92 h.0 type w64 cell (omega arith) h.2
cell_some arrays.DateTime value type cell h = fixed_some 0x96 h.0 type w64 cell (omega arith) h.2
cell_some arrays.TimeSpan value type cell h = fixed_some 0xae h.0 type w64 cell (omega arith) h.2
cell_some arrays.Uuid value type cell h = let size = ap length h.2.1 in let bytes = h.2.0 in omega
    (arith, size, bytes)
cell_some arrays.Decimal value type cell h =
    let size = ap length h.4 in
    let content = ap length h.3.joined in
    let sum = length-append h.3.reserved (h.3.scale ∷ (if h.3.negative then 128 else 0)
    ∷ (h.3.upper ++ h.3.lower)) in
    omega (arith, size, content, sum)

cells_fit : (kind : ArrayKind) (values : List Scalar) (bytes : List ℕ) → AreCells kind values bytes
    → length values ≤ length bytes
cells_fit kind [] bytes h = omega arith
cells_fit kind (value ∷ values) bytes (type, cell, rest, joined, spelled, others) =
    let one = cell_some kind (Known value) type cell spelled in
    let more = cells_fit kind values rest others in
    let size = ap length joined ∙ length-append cell rest in
    omega (arith, one, more, size)

module _ (table : StringTable) where
  -- the values that are meant are as many as those in the record
  value_fits : (raw : RawValue) (value : Value) (bytes : List ℕ) → ValueMeans table raw value
      → SpellsValue raw bytes → value_count value ≤ length bytes
  value_fits (One raw) value bytes (scalar, means, is) h = let one = scalar_some raw bytes h in
      let count = ap value_count is in omega (arith, one, count)
  value_fits (ListOf raws) value bytes (found, mean, is) h =
      let few = list_fits raws 0xa6 bytes h in
      let count = ap value_count is in
      let many = each_as_many (ScalarMeans table) raws found mean in
      omega (arith, few, count, many)

  last_fits : (raw : RawValue) (value : Value) (bytes : List ℕ) → ValueMeans table raw value
      → SpellsLast raw bytes → value_count value ≤ length bytes
  last_fits (One raw) value bytes (scalar, means, is) (kind, rest, spelled, joined) = let size =
      ap length joined in let count = ap value_count is in omega (arith, size, count)
  last_fits (ListOf raws) value bytes (found, mean, is) h =
      let few = list_fits raws 0xa7 bytes h in
      let count = ap value_count is in
      let many = each_as_many (ScalarMeans table) raws found mean in
      omega (arith, few, count, many)

  attribute_fits : (prefix : List ℕ) (raw : RawValue) (value : Value)
      (head name value_bytes bytes : List ℕ) → ValueMeans table raw value → SpellsValue raw
      value_bytes → bytes ≡ head ++ name ++ value_bytes
      → value_count value ≤ length bytes
  attribute_fits prefix raw value head name value_bytes bytes means is joined =
      let few = value_fits raw value value_bytes means is in
      let size = ap length joined ∙ length-append (head ++ name) value_bytes in
      omega (arith, few, size)

  parts_fit : (parts : List AttrNode) (items : List AttrItem) (bytes : List ℕ)
      → EachMeans (PartMeans table) parts items → AreAttrNodes parts bytes → sum_by attribute_values
      items ≤ length bytes
  parts_fit [] items bytes h are = let none = ap (sum_by attribute_values) h in omega (arith, none)
  parts_fit (attribute_nodes.Xmlns prefix name ∷ parts) items bytes
      (item, others, (uri, named, is), mean, made) (front, rest, joined, is_part, are) =
      let more = parts_fit parts others rest mean are in
      let count = ap (sum_by attribute_values) made ∙ sum_by-cons attribute_values item others ∙
      ap (λ (i : AttrItem). attribute_values i + sum_by attribute_values others) is in
      let size = ap length joined ∙ length-append front rest in
      omega (arith, more, count, size)
  parts_fit (attribute_nodes.Attribute prefix name raw ∷ parts) items bytes
      (item, others, (local, value, named, means, is), mean, made)
      (front, rest, joined, is_part, are) =
      let more = parts_fit parts others rest mean are in
      let one = attribute_fits prefix raw value is_part.head is_part.name_bytes is_part.value_bytes
      front means is_part.is_value is_part.joined in
      let count = ap (sum_by attribute_values) made ∙ sum_by-cons attribute_values item others ∙
      ap (λ (i : AttrItem). attribute_values i + sum_by attribute_values others) is in
      let size = ap length joined ∙ length-append front rest in
      omega (arith, more, one, count, size)

  -- the attributes and the values are parts of an array
  array_length : (element attributes count cells : List ℕ) (byte : ℕ) → length attributes
      + length cells ≤ length (3 ∷ element ++ attributes ++ 1 ∷ byte ∷ (count ++ cells))
  array_length element attributes count cells byte = simp (length-append) (omega arith)

  -- no more values than bytes
  pub node_fits : (node : Node) (more : List Item) (bytes : List ℕ) → Means table node more
      → IsNode node bytes → values_of more ≤ length bytes
  node_fits EndElement more bytes is h = let count = ap values_of is in omega (arith, count)
  node_fits (Comment text) more bytes is h = let count = ap values_of is in omega (arith, count)
  node_fits (Array a) more bytes (item, means, is) h =
      let count = ap values_of is in
      let own = ap (λ i. sum_by attribute_values i.attrs + length i.values) means.is in
      let parts = parts_fit a.attrs means.parts h.attributes means.attributed h.are_attributes in
      let cells = cells_fit a.kind a.values h.cells h.are_cells in
      let all = ap length h.joined in
      omega (
        arith,
        count,
        own,
        parts,
        cells,
        all,
        array_length h.element h.attributes h.count
            h.cells (array_byte a.kind),
      )
  node_fits (Attribute prefix name raw) more bytes (local, value, named, means, is) h =
      let one = attribute_fits prefix raw value h.head h.name_bytes h.value_bytes bytes means
      h.is_value h.joined in let count = ap values_of is in omega (arith, one, count)
  node_fits (Xmlns prefix name) more bytes (uri, named, is) h = let count = ap values_of is in omega
      (arith, count)
  node_fits (Element prefix name) more bytes (local, named, is) h = let count = ap values_of is in
      omega (arith, count)
  node_fits (Text raw false) more bytes (value, means, is) h = let one = value_fits raw value bytes
      means h in let count = ap values_of is in omega (arith, one, count)
  node_fits (Text raw true) more bytes (value, means, is) h = let one = last_fits raw value bytes
      means h in let count = ap values_of is in omega (arith, one, count)

  -- one item, or a text and the end of its element
  pub node_items : (node : Node) (more : List Item) → Means table node more → length more ≤ 2
  node_items EndElement more is = let size = ap length is in omega (arith, size)
  node_items (Comment text) more is = let size = ap length is in omega (arith, size)
  node_items (Array a) more (item, means, is) = let size = ap length is in omega (arith, size)
  node_items (Attribute prefix name raw) more (local, value, named, means, is) = let size =
      ap length is in omega (arith, size)
  node_items (Xmlns prefix name) more (uri, named, is) = let size = ap length is in omega
      (arith, size)
  node_items (Element prefix name) more (local, named, is) = let size = ap length is in omega
      (arith, size)
  node_items (Text raw false) more (value, means, is) = let size = ap length is in omega
      (arith, size)
  node_items (Text raw true) more (value, means, is) = let size = ap length is in omega
      (arith, size)
