-- A node says the same where strings are appended.
use Rattle.std.proofs.Common.{ℕ, List, [], ◌∷◌}
use Rattle.string_tables.proofs.TableFacts.{names-append}
use Rattle.string_tables.specs.StringTable.{StringTable, with_strings}
use Rattle.nbfx_values.specs.declared.content.{ArrayItem.ArrayItem, AttrItem.AttrItem, Item.Item}
use Rattle.nbfx_values.specs.declared.scalars.{Scalar.Scalar, Value.Value}
use Rattle.nbfx_records.specs.declared.nodes.{ArrayNode.ArrayNode, Node.Node, RawValue.RawValue}
use Rattle.nbfx_records.specs.declared.nodes.{AttrNode.AttrNode, RawScalar.RawScalar}
use Rattle.nbfx_records.specs.declared.nodes.NameRef.{NameRef, TheVariants.Id, TheVariants.Inline}
use Rattle.nbfx_records.specs.declared.nodes.Node.TheVariants.{Array, Attribute, Comment, Element}
use Rattle.nbfx_records.specs.declared.nodes.Node.TheVariants.{EndElement, Text, Xmlns}
use Rattle.nbfx_records.specs.declared.nodes.RawScalar.TheVariants.{Dictionary, Known, QName}
use Rattle.nbfx_records.specs.declared.nodes.RawValue.TheVariants.{List as ListOf, One}
use Rattle.nbfx_records.specs.Meaning.{ArrayMeans, EachMeans, Means, NameMeans, PartMeans}
use Rattle.nbfx_records.specs.{Meaning.ScalarMeans, Meaning.ValueMeans, WritingLaws.MeaningsStay}
use Rattle.nbfx_records.specs.declared.nodes.AttrNode.TheVariants as attribute_nodes

pub each_stays : {A B : Type 0} (M N : A → B → Type 0) → ((x : A) (y : B) → M x y → N x y)
    → (xs : List A) (ys : List B) → EachMeans M xs ys → EachMeans N xs ys
each_stays M N one [] ys none = none
each_stays M N one (x ∷ xs) ys (y, rest, is, others, made) =
    (y, rest, one x y is, each_stays M N one xs rest others, made)

module _ (table : StringTable) (more : List (List ℕ)) where
  pub name_stays : (name : NameRef) (text : List ℕ) → NameMeans table name text
      → NameMeans (with_strings table more) name text
  name_stays (Inline s) text is = is
  name_stays (Id id) text names = names-append table more id text names

  pub scalar_stays : (raw : RawScalar) (scalar : Scalar) → ScalarMeans table raw scalar
      → ScalarMeans (with_strings table more) raw scalar
  scalar_stays (Known value) scalar is = is
  scalar_stays (Dictionary id) scalar (text, names, is) =
      (text, names-append table more id text names, is)
  scalar_stays (QName letter id) scalar (text, names, is) =
      (text, names-append table more id text names, is)

  pub value_stays : (raw : RawValue) (value : Value) → ValueMeans table raw value
      → ValueMeans (with_strings table more) raw value
  value_stays (One raw) value (scalar, says, is) = (scalar, scalar_stays raw scalar says, is)
  value_stays (ListOf raws) value (found, say, is) = (
    found,
    each_stays (ScalarMeans table) (ScalarMeans (with_strings table more)) scalar_stays
        raws found say,
    is,
  )

  pub part_stays : (part : AttrNode) (item : AttrItem) → PartMeans table part item
      → PartMeans (with_strings table more) part item
  part_stays (attribute_nodes.Attribute prefix name raw) item (local, value, named, says, is) =
      (local, value, name_stays name local named, value_stays raw value says, is)
  part_stays (attribute_nodes.Xmlns prefix name) item (uri, named, is) =
      (uri, name_stays name uri named, is)

  pub array_stays : (a : ArrayNode) (item : ArrayItem) → ArrayMeans table a item
      → ArrayMeans (with_strings table more) a item
  array_stays a item says = record {
    local = says.local;
    parts = says.parts;
    named = name_stays a.name says.local says.named;
    attributed = each_stays (PartMeans table) (PartMeans (with_strings table more)) part_stays
        a.attrs says.parts says.attributed;
    is = says.is;
  }

  pub node_stays : (node : Node) (said : List Item) → Means table node said
      → Means (with_strings table more) node said
  node_stays EndElement said is = is
  node_stays (Comment text) said is = is
  node_stays (Array a) said (item, says, is) = (item, array_stays a item says, is)
  node_stays (Attribute prefix name raw) said (local, value, named, says, is) =
      (local, value, name_stays name local named, value_stays raw value says, is)
  node_stays (Xmlns prefix name) said (uri, named, is) = (uri, name_stays name uri named, is)
  node_stays (Element prefix name) said (local, named, is) =
      (local, name_stays name local named, is)
  node_stays (Text raw ends) said (value, says, is) = (value, value_stays raw value says, is)

pub meanings_stay : MeaningsStay
meanings_stay table more node said says = node_stays table more node said says
