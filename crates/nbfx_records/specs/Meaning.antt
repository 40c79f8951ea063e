-- What a node says where a string table is given: the one or the two items in which a text that it
-- names stands for each identifier.
use Rattle.std.specs.Prelude.{◌≡◌, ℕ, Bool, true, false, List, [], ◌∷◌, ◌++◌, Some, Option}
use Rattle.std.specs.Prelude.{option_map, flat_map, option_and_then}
use Rattle.string_tables.specs.StringTable.{named_text, Names, StringTable}
use Rattle.nbfx_values.specs.declared.content.{ArrayItem.ArrayItem, AttrItem.AttrItem, Item.Item}
use Rattle.nbfx_values.specs.declared.scalars.{Scalar.Scalar, Value.Value}
use Rattle.nbfx_records.specs.declared.nodes.{ArrayNode.ArrayNode, Node.Node, RawValue.RawValue}
use Rattle.nbfx_records.specs.declared.nodes.{AttrNode.AttrNode, RawScalar.RawScalar}
use Rattle.nbfx_records.specs.declared.nodes.NameRef.{NameRef, TheVariants.Id, TheVariants.Inline}
use Rattle.nbfx_records.specs.declared.nodes.Node.TheVariants.{Array, Attribute, Comment, Element}
use Rattle.nbfx_records.specs.declared.nodes.Node.TheVariants.{EndElement, Text, Xmlns}
use Rattle.nbfx_records.specs.declared.nodes.RawScalar.TheVariants.{Dictionary, Known, QName}
use Rattle.nbfx_records.specs.declared.nodes.RawValue.TheVariants.{List as ListOf, One}
use Rattle.nbfx_records.specs.Contents.{each}
use Rattle.nbfx_values.specs.declared.content.AttrItem.TheVariants as attributes
use Rattle.nbfx_values.specs.declared.content.Item.TheVariants as items
use Rattle.nbfx_values.specs.declared.scalars.Scalar.TheVariants as scalars
use Rattle.nbfx_values.specs.declared.scalars.Value.TheVariants as values
use Rattle.nbfx_records.specs.declared.nodes.AttrNode.TheVariants as attribute_nodes

-- a name, and a value
abbrev pub NameMeans : StringTable → NameRef → List ℕ → Type 0
NameMeans table (Inline s) text = s ≡ text
NameMeans table (Id id) text = Names table id text

abbrev pub ScalarMeans : StringTable → RawScalar → Scalar → Type 0
ScalarMeans table (Known value) scalar = scalar ≡ value
ScalarMeans table (Dictionary id) scalar =
    (text : List ℕ) × Names table id text × (scalar ≡ scalars.Text text)
ScalarMeans table (QName letter id) scalar =
    (text : List ℕ) × Names table id text × (scalar ≡ scalars.QName letter text)

-- each of a list, in its place
abbrev pub EachMeans : {A B : Type 0} → (A → B → Type 0) → List A → List B → Type 0
EachMeans Means [] ys = ys ≡ []
EachMeans {B = B} Means (x ∷ xs) ys =
    (y : B) × (rest : List B) × Means x y × EachMeans Means xs rest × (ys ≡ y ∷ rest)

abbrev pub ValueMeans : StringTable → RawValue → Value → Type 0
ValueMeans table (One raw) value =
    (scalar : Scalar) × ScalarMeans table raw scalar × (value ≡ values.One scalar)
ValueMeans table (ListOf raws) value =
    (found : List Scalar) × EachMeans (ScalarMeans table) raws found × (value ≡ values.List found)

-- a declaration or an attribute of an array's element
abbrev pub PartMeans : StringTable → AttrNode → AttrItem → Type 0
PartMeans table (attribute_nodes.Attribute prefix name raw) item =
    (local : List ℕ) × (value : Value) × NameMeans table name local × ValueMeans table raw value
    × (item ≡ attributes.Attr prefix local value)
PartMeans table (attribute_nodes.Xmlns prefix name) item =
    (uri : List ℕ) × NameMeans table name uri × (item ≡ attributes.Xmlns prefix uri)

-- an array, with these in place of its identifiers
abbrev pub array_with : ArrayNode → List ℕ → List AttrItem → ArrayItem
array_with a local parts =
    record { prefix = a.prefix; local = local; attrs = parts; kind = a.kind; values = a.values }

pub record ArrayMeans (table : StringTable) (a : ArrayNode) (item : ArrayItem) : Type 0 where
  pub local : List ℕ
  pub parts : List AttrItem
  pub named : NameMeans table a.name local
  pub attributed : EachMeans (PartMeans table) a.attrs parts
  pub is : item ≡ array_with a local parts

-- the element that a text may end
abbrev pub closing : Bool → List Item
closing false = []
closing true = items.Close ∷ []

-- the node says these items
abbrev pub Means : StringTable → Node → List Item → Type 0
Means table EndElement said = said ≡ items.Close ∷ []
Means table (Comment text) said = said ≡ items.Comment text ∷ []
Means table (Array a) said =
    (item : ArrayItem) × ArrayMeans table a item × (said ≡ items.Array item ∷ [])
Means table (Attribute prefix name raw) said =
    (local : List ℕ) × (value : Value) × NameMeans table name local × ValueMeans table raw value
    × (said ≡ items.Attr prefix local value ∷ [])
Means table (Xmlns prefix name) said =
    (uri : List ℕ) × NameMeans table name uri × (said ≡ items.Xmlns prefix uri ∷ [])
Means table (Element prefix name) said =
    (local : List ℕ) × NameMeans table name local × (said ≡ items.Start prefix local ∷ [])
Means table (Text raw ends) said =
    (value : Value) × ValueMeans table raw value × (said ≡ items.Text value ∷ closing ends)

-- The same, found: none where an identifier names no string.
abbrev pub name_text : StringTable → NameRef → Option (List ℕ)
name_text table (Inline s) = Some s
name_text table (Id id) = named_text table id

abbrev pub meant_scalar : StringTable → RawScalar → Option Scalar
meant_scalar table (Known value) = Some value
meant_scalar table (Dictionary id) = option_map scalars.Text (named_text table id)
meant_scalar table (QName letter id) = option_map (scalars.QName letter) (named_text table id)

abbrev pub meant_value : StringTable → RawValue → Option Value
meant_value table (One raw) = option_map values.One (meant_scalar table raw)
meant_value table (ListOf raws) = option_map values.List (each (meant_scalar table) raws)

-- two parts together
abbrev pub with_both : {A B C : Type 0} → (A → B → C) → Option A → Option B → Option C
with_both make first second = option_and_then (λ a. option_map (make a) second) first

abbrev pub meant_part : StringTable → AttrNode → Option AttrItem
meant_part table (attribute_nodes.Attribute prefix name raw) =
    with_both (attributes.Attr prefix) (name_text table name) (meant_value table raw)
meant_part table (attribute_nodes.Xmlns prefix name) =
    option_map (attributes.Xmlns prefix) (name_text table name)

abbrev pub meant_array : StringTable → ArrayNode → Option ArrayItem
meant_array table a =
    with_both (array_with a) (name_text table a.name) (each (meant_part table) a.attrs)

abbrev pub items_of : StringTable → Node → Option (List Item)
items_of table EndElement = Some (items.Close ∷ [])
items_of table (Comment text) = Some (items.Comment text ∷ [])
items_of table (Array a) = option_map (λ item. items.Array item ∷ []) (meant_array table a)
items_of table (Attribute prefix name raw) =
    with_both (λ local value. items.Attr prefix local value ∷ [])
    (name_text table name) (meant_value table raw)
items_of table (Xmlns prefix name) =
    option_map (λ uri. items.Xmlns prefix uri ∷ []) (name_text table name)
items_of table (Element prefix name) =
    option_map (λ local. items.Start prefix local ∷ []) (name_text table name)
items_of table (Text raw ends) =
    option_map (λ value. items.Text value ∷ closing ends) (meant_value table raw)

-- The identifiers of a node, in the order of its record.
abbrev pub ids_of_name : NameRef → List ℕ
ids_of_name (Inline s) = []
ids_of_name (Id id) = id ∷ []

abbrev pub ids_of_scalar : RawScalar → List ℕ
ids_of_scalar (Known value) = []
ids_of_scalar (Dictionary id) = id ∷ []
ids_of_scalar (QName letter id) = id ∷ []

abbrev pub ids_of_value : RawValue → List ℕ
ids_of_value (One raw) = ids_of_scalar raw
ids_of_value (ListOf raws) = flat_map ids_of_scalar raws

abbrev pub ids_of_part : AttrNode → List ℕ
ids_of_part (attribute_nodes.Attribute prefix name raw) = ids_of_name name ++ ids_of_value raw
ids_of_part (attribute_nodes.Xmlns prefix name) = ids_of_name name

abbrev pub identifiers : Node → List ℕ
identifiers EndElement = []
identifiers (Comment text) = []
identifiers (Array a) = ids_of_name a.name ++ flat_map ids_of_part a.attrs
identifiers (Attribute prefix name raw) = ids_of_name name ++ ids_of_value raw
identifiers (Xmlns prefix name) = ids_of_name name
identifiers (Element prefix name) = ids_of_name name
identifiers (Text raw ends) = ids_of_value raw
