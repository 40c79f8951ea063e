-- What a node says is found, and nothing else; nothing is found where an identifier names no
-- string; what is found is valid.
use Rattle.std.proofs.Common.{◌≡◌, ℕ, Bool, true, false, ◌&&◌, ◌↔◌, List, [], ◌∷◌, ◌++◌, length}
use Rattle.std.proofs.Common.{nat_lt, nat_le, Some, IsUtf8, Option, option_map, flat_map, sym, refl}
use Rattle.std.{proofs.Common.ap, proofs.Common.◌∙◌, specs.List.list_all, specs.Str.is_utf8}
use Rattle.std.proofs.lemmas.{Bool.and_from, Bool.and_parts, Str.is_utf8-from_IsUtf8}
use Rattle.string_tables.proofs.TableFacts.{named_text-names}
use Rattle.string_tables.specs.StringTable.{named_text, Names, StringTable}
use Rattle.nbfx_values.specs.declared.content.{ArrayItem.ArrayItem, AttrItem.AttrItem, Item.Item}
use Rattle.nbfx_values.specs.declared.scalars.{Scalar.Scalar, Value.Value}
use Rattle.nbfx_values.specs.Items.{are_texts, fits_kind, is_valid_attribute, is_valid_item}
use Rattle.nbfx_values.specs.Scalars.{is_valid_scalar, is_valid_value}
use Rattle.nbfx_records.specs.declared.nodes.{ArrayNode.ArrayNode, Node.Node, RawValue.RawValue}
use Rattle.nbfx_records.specs.declared.nodes.{AttrNode.AttrNode, RawScalar.RawScalar}
use Rattle.nbfx_records.specs.declared.nodes.NameRef.{NameRef, TheVariants.Id, TheVariants.Inline}
use Rattle.nbfx_records.specs.declared.nodes.Node.TheVariants.{Array, Attribute, Comment, Element}
use Rattle.nbfx_records.specs.declared.nodes.Node.TheVariants.{EndElement, Text, Xmlns}
use Rattle.nbfx_records.specs.declared.nodes.RawScalar.TheVariants.{Dictionary, Known, QName}
use Rattle.nbfx_records.specs.declared.nodes.RawValue.TheVariants.{List as ListOf, One}
use Rattle.nbfx_records.specs.{Contents.each, Laws.NothingWithoutNames}
use Rattle.nbfx_records.specs.Laws.{MeaningsAreFound, MeaningsAreValid, MeansOnce}
use Rattle.nbfx_records.specs.Meaning.{array_with, ArrayMeans, closing, EachMeans, identifiers}
use Rattle.nbfx_records.specs.Meaning.{ids_of_name, ids_of_part, ids_of_scalar, ids_of_value}
use Rattle.nbfx_records.specs.Meaning.{items_of, Means, meant_array, meant_part, meant_scalar}
use Rattle.nbfx_records.specs.Meaning.{meant_value, name_text, NameMeans, PartMeans, ScalarMeans}
use Rattle.nbfx_records.specs.Meaning.{ValueMeans, with_both}
use Rattle.nbfx_records.specs.Valid.{are_valid_names, is_valid_known, is_valid_name, is_valid_node}
use Rattle.nbfx_records.specs.Valid.{is_valid_part, is_valid_raw, is_valid_text}
use Rattle.nbfx_records.proofs.Missing.{both_none, each_none, looked_up, mapped_none, NoneFor}
use Rattle.nbfx_records.proofs.{Missing.there, ValueBytes.bound_some, ValueBytes.mapped_some}
use Rattle.nbfx_values.specs.Items as items_spec
use Rattle.nbfx_values.specs.declared.content.AttrItem.TheVariants as attributes
use Rattle.nbfx_values.specs.declared.content.Item.TheVariants as items
use Rattle.nbfx_values.specs.declared.scalars.Scalar.TheVariants as scalars
use Rattle.nbfx_values.specs.declared.scalars.Value.TheVariants as values
use Rattle.nbfx_records.specs.declared.nodes.AttrNode.TheVariants as attribute_nodes

-- what an option has is what is meant
abbrev Finds : {A : Type 0} → Option A → (A → Type 0) → Type 0
Finds {A} o P = (x : A) → (o ≡ Some x) ↔ P x

mapped_finds : {A B : Type 0} (f : A → B) (o : Option A) (P : A → Type 0) → Finds o P
    → Finds (option_map f o) (λ y. (x : A) × P x × (y ≡ f x))
mapped_finds f o P finds y = (
  λ e. let found = mapped_some f o y e in (found.0, (finds found.0).0 found.1, sym found.2),
  λ h. ap (option_map f) ((finds h.0).1 h.1) ∙ ap Some (sym h.2),
)

both_find : {A B C : Type 0} (make : A → B → C) (first : Option A) (second : Option B)
    (P : A → Type 0) (Q : B → Type 0) → Finds first P → Finds second Q
    → Finds (with_both make first second) (λ y. (a : A) × (b : B) × P a × Q b × (y ≡ make a b))
both_find make first second P Q finds_first finds_second y = (
  λ e.
      let a = bound_some (λ x. option_map (make x) second) first y e in
      let b = mapped_some (make a.0) second y a.2 in
      (a.0, b.0, (finds_first a.0).0 a.1, (finds_second b.0).0 b.1, sym b.2),
  λ h. ap (λ o. with_both make o second) ((finds_first h.0).1 h.2) ∙ ap (option_map (make h.0))
      ((finds_second h.1).1 h.3) ∙ ap Some (sym h.4),
)

each_finds : {A B : Type 0} (f : A → Option B) (M : A → B → Type 0) → ((x : A) → Finds (f x) (M x))
    → (xs : List A) → Finds (each f xs) (EachMeans M xs)
each_finds f M finds [] ys = (λ e. cc, λ h. ap Some (sym h))
each_finds f M finds (x ∷ xs) ys = (
  λ e.
      let first = bound_some (λ y. option_map (λ rest. y ∷ rest) (each f xs)) (f x) ys e in
      let others = mapped_some (λ rest. first.0 ∷ rest) (each f xs) ys first.2 in (
        first.0,
        others.0,
        (finds x first.0).0 first.1,
        (each_finds f M finds xs others.0).0
            others.1,
        sym others.2,
      ),
  λ h. ap (λ o. with_both (λ y rest. y ∷ rest) o (each f xs)) ((finds x h.0).1 h.2) ∙
      ap (option_map (λ rest. h.0 ∷ rest)) ((each_finds f M finds xs h.1).1 h.3) ∙ ap Some
      (sym h.4),
)

module _ (table : StringTable) where
  name_found : (name : NameRef) → Finds (name_text table name) (NameMeans table name)
  name_found (Inline s) text = (λ e. cc, λ h. ap Some h)
  name_found (Id id) text = named_text-names table id text

  scalar_found : (raw : RawScalar) → Finds (meant_scalar table raw) (ScalarMeans table raw)
  scalar_found (Known value) scalar = (λ e. cc, λ h. ap Some (sym h))
  scalar_found (Dictionary id) scalar = mapped_finds scalars.Text (named_text table id)
      (Names table id) (named_text-names table id) scalar
  scalar_found (QName letter id) scalar = mapped_finds (scalars.QName letter) (named_text table id)
      (Names table id) (named_text-names table id) scalar

  value_found : (raw : RawValue) → Finds (meant_value table raw) (ValueMeans table raw)
  value_found (One raw) value = mapped_finds values.One (meant_scalar table raw)
      (ScalarMeans table raw) (scalar_found raw) value
  value_found (ListOf raws) value = mapped_finds values.List (each (meant_scalar table) raws)
      (EachMeans (ScalarMeans table) raws) (each_finds (meant_scalar table) (ScalarMeans table)
      scalar_found raws) value

  part_found : (part : AttrNode) → Finds (meant_part table part) (PartMeans table part)
  part_found (attribute_nodes.Attribute prefix name raw) item =
      both_find (attributes.Attr prefix) (name_text table name) (meant_value table raw)
      (NameMeans table name) (ValueMeans table raw) (name_found name) (value_found raw) item
  part_found (attribute_nodes.Xmlns prefix name) item = mapped_finds (attributes.Xmlns prefix)
      (name_text table name) (NameMeans table name) (name_found name) item

  array_found : (a : ArrayNode) → Finds (meant_array table a) (ArrayMeans table a)
  array_found a item =
      let it = both_find (array_with a) (name_text table a.name) (each (meant_part table) a.attrs)
      (NameMeans table a.name) (EachMeans (PartMeans table) a.attrs)
      (name_found a.name) (each_finds (meant_part table) (PartMeans table) part_found a.attrs) item
      in (
        λ e. let h = it.0 e in record {
          local = h.0;
          parts = h.1;
          named = h.2;
          attributed = h.3;
          is = h.4;
        },
        λ h. it.1 (h.local, h.parts, h.named, h.attributed, h.is),
      )

  node_found : (node : Node) → Finds (items_of table node) (Means table node)
  node_found EndElement said = (λ e. cc, λ h. ap Some (sym h))
  node_found (Comment text) said = (λ e. cc, λ h. ap Some (sym h))
  node_found (Array a) said = mapped_finds (λ item. items.Array item ∷ []) (meant_array table a)
      (ArrayMeans table a) (array_found a) said
  node_found (Attribute prefix name raw) said =
      both_find (λ local value. items.Attr prefix local value ∷ []) (name_text table name)
      (meant_value table raw) (NameMeans table name) (ValueMeans table raw) (name_found name)
      (value_found raw) said
  node_found (Xmlns prefix name) said = mapped_finds (λ uri. items.Xmlns prefix uri ∷ [])
      (name_text table name) (NameMeans table name) (name_found name) said
  node_found (Element prefix name) said = mapped_finds (λ local. items.Start prefix local ∷ [])
      (name_text table name) (NameMeans table name) (name_found name) said
  node_found (Text raw ends) said = mapped_finds (λ value. items.Text value ∷ closing ends)
      (meant_value table raw) (ValueMeans table raw) (value_found raw) said

pub meanings_are_found : MeaningsAreFound
meanings_are_found table node said = node_found table node said

pub means_once : MeansOnce
means_once table node said others one other =
    let first = (node_found table node said).1 one in
    let second = (node_found table node others).1 other in
    cc (first, second)

-- what it says is missing where an identifier names no string
module _ (table : StringTable) where
  name_none : (name : NameRef) → NoneFor (named_text table) (name_text table name)
      (ids_of_name name)
  name_none (Inline s) = there (named_text table) s
  name_none (Id id) = looked_up (named_text table) id

  scalar_none : (raw : RawScalar) → NoneFor (named_text table) (meant_scalar table raw)
      (ids_of_scalar raw)
  scalar_none (Known value) = there (named_text table) value
  scalar_none (Dictionary id) = mapped_none (named_text table) scalars.Text (named_text table id)
      (id ∷ []) (looked_up (named_text table) id)
  scalar_none (QName letter id) = mapped_none (named_text table) (scalars.QName letter)
      (named_text table id) (id ∷ []) (looked_up (named_text table) id)

  value_none : (raw : RawValue) → NoneFor (named_text table) (meant_value table raw)
      (ids_of_value raw)
  value_none (One raw) = mapped_none (named_text table) values.One (meant_scalar table raw)
      (ids_of_scalar raw) (scalar_none raw)
  value_none (ListOf raws) = mapped_none (named_text table) values.List
      (each (meant_scalar table) raws) (flat_map ids_of_scalar raws)
      (each_none (named_text table) (meant_scalar table) ids_of_scalar scalar_none raws)

  part_none : (part : AttrNode) → NoneFor (named_text table) (meant_part table part)
      (ids_of_part part)
  part_none (attribute_nodes.Attribute prefix name raw) = both_none (named_text table)
      (attributes.Attr prefix) (name_text table name) (meant_value table raw) (ids_of_name name)
      (ids_of_value raw) (name_none name) (value_none raw)
  part_none (attribute_nodes.Xmlns prefix name) = mapped_none (named_text table)
      (attributes.Xmlns prefix) (name_text table name) (ids_of_name name) (name_none name)

  node_none : (node : Node) → NoneFor (named_text table) (items_of table node) (identifiers node)
  node_none EndElement = there (named_text table) (items.Close ∷ [])
  node_none (Comment text) = there (named_text table) (items.Comment text ∷ [])
  node_none (Array a) =
      mapped_none (named_text table) (λ item. items.Array item ∷ []) (meant_array table a)
      (ids_of_name a.name ++ flat_map ids_of_part a.attrs)
      (both_none (named_text table) (array_with a) (name_text table a.name)
      (each (meant_part table) a.attrs) (ids_of_name a.name) (flat_map ids_of_part a.attrs)
      (name_none a.name) (each_none (named_text table) (meant_part table) ids_of_part part_none
      a.attrs))
  node_none (Attribute prefix name raw) =
      both_none (named_text table) (λ local value. items.Attr prefix local value ∷ [])
      (name_text table name) (meant_value table raw) (ids_of_name name) (ids_of_value raw)
      (name_none name) (value_none raw)
  node_none (Xmlns prefix name) = mapped_none (named_text table)
      (λ uri. items.Xmlns prefix uri ∷ []) (name_text table name) (ids_of_name name)
      (name_none name)
  node_none (Element prefix name) = mapped_none (named_text table)
      (λ local. items.Start prefix local ∷ []) (name_text table name) (ids_of_name name)
      (name_none name)
  node_none (Text raw ends) = mapped_none (named_text table)
      (λ value. items.Text value ∷ closing ends) (meant_value table raw) (ids_of_value raw)
      (value_none raw)

pub nothing_without_names : NothingWithoutNames
nothing_without_names table node = node_none table node

-- what passes a test becomes what passes another
each_passes : {A B : Type 0} (M : A → B → Type 0) (p : A → Bool) (q : B → Bool)
    → ((x : A) (y : B) → p x ≡ true → M x y → q y ≡ true) → (xs : List A) (ys : List B)
    → list_all p xs ≡ true → EachMeans M xs ys → list_all q ys ≡ true
each_passes M p q one [] ys all h = ap (list_all q) h
each_passes M p q one (x ∷ xs) ys all (y, rest, is, others, made) =
    let parts = and_parts (p x) (list_all p xs) all in
    ap (list_all q) made ∙ and_from (q y) (list_all q rest) (one x y parts.0 is)
    (each_passes M p q one xs rest parts.1 others)

module _ (table : StringTable) (are_texts : (id : ℕ) (text : List ℕ) → Names table id text
    → IsUtf8 text) where
  text_named : (id : ℕ) (text : List ℕ) → Names table id text → is_utf8 text ≡ true
  text_named id text names = is_utf8-from_IsUtf8 text (are_texts id text names)

  name_valid : (name : NameRef) (text : List ℕ) → is_valid_name name ≡ true → NameMeans table name
      text → is_utf8 text ≡ true
  name_valid (Inline s) text valid h = ap is_utf8 (sym h) ∙ valid
  name_valid (Id id) text valid h = text_named id text h

  names_valid : (prefix : List ℕ) (name : NameRef) (text : List ℕ) → are_valid_names prefix name
      ≡ true → NameMeans table name text → (is_utf8 prefix && is_utf8 text) ≡ true
  names_valid prefix name text valid h =
      let parts = and_parts (is_utf8 prefix) (is_valid_name name) valid in and_from (is_utf8 prefix)
      (is_utf8 text) parts.0 (name_valid name text parts.1 h)

  known_valid : (value : Scalar) → is_valid_known value ≡ true → is_valid_scalar value ≡ true
  known_valid (scalars.QName letter name) valid = cc valid
  known_valid value valid = valid

  scalar_valid : (raw : RawScalar) (scalar : Scalar) → is_valid_raw raw ≡ true → ScalarMeans table
      raw scalar → is_valid_scalar scalar ≡ true
  scalar_valid (Known value) scalar valid h = ap is_valid_scalar h ∙ known_valid value valid
  scalar_valid (Dictionary id) scalar valid (text, names, is) = ap is_valid_scalar is ∙ text_named
      id text names
  scalar_valid (QName letter id) scalar valid (text, names, is) = ap is_valid_scalar is ∙ and_from
      (nat_le letter 25) (is_utf8 text) valid (text_named id text names)

  value_valid : (raw : RawValue) (value : Value) → is_valid_text raw ≡ true → ValueMeans table raw
      value → is_valid_value value ≡ true
  value_valid (One raw) value valid (scalar, means, is) = ap is_valid_value is ∙ scalar_valid raw
      scalar valid means
  value_valid (ListOf raws) value valid (found, mean, is) = ap is_valid_value is ∙ each_passes
      (ScalarMeans table) is_valid_raw is_valid_scalar scalar_valid raws found valid mean

  part_valid : (part : AttrNode) (item : AttrItem) → is_valid_part part ≡ true → PartMeans table
      part item → is_valid_attribute item ≡ true
  part_valid (attribute_nodes.Attribute prefix name raw) item valid
      (local, value, named, means, is) =
      let parts = and_parts (are_valid_names prefix name) (is_valid_text raw) valid in
      ap is_valid_attribute is ∙ and_from (is_utf8 prefix && is_utf8 local) (is_valid_value value)
      (names_valid prefix name local parts.0 named) (value_valid raw value parts.1 means)
  part_valid (attribute_nodes.Xmlns prefix name) item valid (uri, named, is) = ap is_valid_attribute
      is ∙ names_valid prefix name uri valid named

  array_valid : (a : ArrayNode) (item : ArrayItem) → is_valid_node (Array a) ≡ true
      → ArrayMeans table a item → items_spec.is_valid_array item ≡ true
  array_valid a item valid h =
      let cells : Bool = nat_lt 0 (length a.values) && list_all (fits_kind a.kind) a.values in
      let names = and_parts (are_valid_names a.prefix a.name) (list_all is_valid_part a.attrs
      && cells) valid in
      let others = and_parts (list_all is_valid_part a.attrs) cells names.1 in
      let parts_valid = each_passes (PartMeans table) is_valid_part is_valid_attribute part_valid
      a.attrs h.parts others.0 h.attributed in
      ap items_spec.is_valid_array h.is
      ∙ and_from (is_utf8 a.prefix && is_utf8 h.local) (list_all is_valid_attribute h.parts
      && cells) (names_valid a.prefix a.name h.local names.0 h.named)
      (and_from (list_all is_valid_attribute h.parts) cells parts_valid others.1)

  -- one item alone
  alone : (item : Item) (said : List Item) → said ≡ item ∷ [] → is_valid_item item ≡ true
      → list_all is_valid_item said ≡ true
  alone item said is valid = ap (list_all is_valid_item) is ∙ and_from (is_valid_item item) true
      valid refl

  node_valid : (node : Node) (said : List Item) → is_valid_node node ≡ true → Means table node said
      → list_all is_valid_item said ≡ true
  node_valid EndElement said valid h = alone items.Close said h refl
  node_valid (Comment text) said valid h = alone (items.Comment text) said h valid
  node_valid (Array a) said valid (item, means, is) = alone (items.Array item) said is
      (array_valid a item valid means)
  node_valid (Attribute prefix name raw) said valid (local, value, named, means, is) =
      let parts = and_parts (are_valid_names prefix name) (is_valid_text raw) valid in
      alone (items.Attr prefix local value) said is
      (and_from (is_utf8 prefix && is_utf8 local) (is_valid_value value)
      (names_valid prefix name local parts.0 named) (value_valid raw value parts.1 means))
  node_valid (Xmlns prefix name) said valid (uri, named, is) = alone (items.Xmlns prefix uri) said
      is (names_valid prefix name uri valid named)
  node_valid (Element prefix name) said valid (local, named, is) = alone (items.Start prefix local)
      said is (names_valid prefix name local valid named)
  node_valid (Text raw false) said valid (value, means, is) = alone (items.Text value) said is
      (value_valid raw value valid means)
  node_valid (Text raw true) said valid (value, means, is) = ap (list_all is_valid_item) is ∙
      and_from (is_valid_value value) true (value_valid raw value valid means) refl

pub meanings_are_valid : MeaningsAreValid
meanings_are_valid table node said are_texts valid means = node_valid table are_texts node said
    valid means
