-- What is spelled of declarations, attributes and arrays, and of each item, says it under the table
-- behind it.
use Rattle.std.proofs.Common.{◌≡◌, ℕ, Bool, true, false, ◌&&◌, List, [], ◌∷◌, ◌++◌, length, nat_lt}
use Rattle.std.proofs.Common.{Some, None, Option, option_map, flat_map, refl, ap, ◌∙◌, subst}
use Rattle.std.proofs.lemmas.Bool.{and_from, and_parts}
use Rattle.std.proofs.lemmas.List.{Concat.flat_map-cons, Folds.list_all-append}
use Rattle.std.specs.{List.list_all, Str.is_utf8}
use Rattle.string_tables.specs.StringTable.{StringTable}
use Rattle.nbfx_values.specs.declared.content.{ArrayItem.ArrayItem, AttrItem.AttrItem, Item.Item}
use Rattle.nbfx_values.specs.declared.scalars.{Scalar.Scalar, Value.Value}
use Rattle.nbfx_values.specs.Items.{fits_kind, is_valid_attribute, is_valid_item}
use Rattle.nbfx_values.specs.Scalars.{is_unsigned, is_valid_scalar, is_valid_value}
use Rattle.nbfx_records.proofs.StayFacts.{node_stays, part_stays}
use Rattle.nbfx_records.specs.declared.nodes.{ArrayNode.ArrayNode, Node.Node}
use Rattle.nbfx_records.specs.declared.nodes.{AttrNode.AttrNode, NameRef.NameRef}
use Rattle.nbfx_records.specs.declared.nodes.{RawScalar.RawScalar, RawValue.RawValue}
use Rattle.nbfx_records.specs.declared.nodes.RawValue.TheVariants.{List as ListOf, One}
use Rattle.nbfx_records.specs.Meaning.{ArrayMeans, EachMeans, identifiers, ids_of_name, ids_of_part}
use Rattle.nbfx_records.specs.Meaning.{ids_of_scalar, ids_of_value, Means, PartMeans, ScalarMeans}
use Rattle.nbfx_records.specs.Valid.{names_qnames, names_qnames_part, names_qnames_raw}
use Rattle.nbfx_encoder.specs.Placing.{place, Placed, spell_array, spell_each, spell_part}
use Rattle.nbfx_encoder.specs.Placing.{spell_scalar, spell_value, Writing}
use Rattle.nbfx_encoder.specs.{Sound.IsSound, Spelling.spell_said}
use Rattle.nbfx_encoder.specs.Spelling.{an_item, items_said, last_text, Said, spell_item}
use Rattle.nbfx_encoder.proofs.Growing.{Grows, grows_not, grows_on, sound_behind}
use Rattle.nbfx_encoder.proofs.Saying.{each_says, name_says_behind, placed_says, Says, says_behind}
use Rattle.nbfx_encoder.proofs.Saying.{SaysName, SaysScalar, SaysValue, scalar_says}
use Rattle.nbfx_encoder.proofs.Saying.{scalar_says_behind, Small, Spells}
use Rattle.nbfx_values.specs.declared.content.AttrItem.TheVariants as attributes
use Rattle.nbfx_values.specs.declared.content.Item.TheVariants as items
use Rattle.nbfx_values.specs.declared.scalars.Value.TheVariants as values
use Rattle.nbfx_records.specs.declared.nodes.AttrNode.TheVariants as attribute_nodes
use Rattle.nbfx_records.specs.declared.nodes.Node.TheVariants as nodes

-- identifiers of both, and of each of many
both_small : (ids others : List ℕ) → Small ids → Small others → Small (ids ++ others)
both_small ids others one two =
    list_all-append (is_unsigned 31) ids others
    ∙ and_from (list_all (is_unsigned 31) ids) (list_all (is_unsigned 31) others) one two

-- of things that say others, each one
record AllSay {X Y : Type 0} (Mean : StringTable → Y → X → Type 0) (ids : Y → List ℕ)
    (good : Y → Bool) (table : StringTable) (things : List Y) (said : List X) : Type 0 where
  mean : EachMeans (Mean table) things said
  small : Small (flat_map ids things)
  qnamed : list_all good things ≡ true

all_say : {X Y : Type 0} (Mean : StringTable → Y → X → Type 0) (ids : Y → List ℕ)
    (good : Y → Bool) (table : StringTable) (things : List Y) (said : List X)
    → EachMeans (λ thing one. Says Mean ids good one table thing) things said
    → AllSay Mean ids good table things said
all_say Mean ids good table [] said none = record { mean = none; small = refl; qnamed = refl }
all_say Mean ids good table (thing ∷ things) said (one, rest, says, more, is) =
    let others = all_say Mean ids good table things rest more in
    record {
      mean = (one, rest, says.means, others.mean, is);
      small = ap (list_all (is_unsigned 31)) (flat_map-cons ids thing things)
          ∙ both_small (ids thing) (flat_map ids things) says.small others.small;
      qnamed = and_from (good thing) (list_all good things) says.qnamed others.qnamed;
    }

-- a value: one, or a list
one_says : (w : Writing) (table : StringTable) (scalar : Scalar) (found : Option (Placed RawScalar))
    (placed : Placed RawValue) → ((p : Placed RawScalar) → found ≡ Some p
    → Spells w table (SaysScalar scalar) p) → option_map (λ p. (One p.0, p.1)) found ≡ Some placed
    → Spells w table (SaysValue (values.One scalar)) placed
one_says w table scalar None placed said is = absurd (cc is)
one_says w table scalar (Some p) placed said is =
    let same : (One p.0, p.1) ≡ placed = cc is in
    let s = said p refl in
    subst (Spells w table (SaysValue (values.One scalar))) same
    (record {
      grows = s.grows;
      says =
          record {
            means = (scalar, s.says.means, refl);
            small = s.says.small;
            qnamed =
                s.says.qnamed;
          };
    })

list_says : (w : Writing) (table : StringTable) (scalars : List Scalar)
    (found : Option (Placed (List RawScalar))) (placed : Placed RawValue)
    → ((p : Placed (List RawScalar)) → found ≡ Some p
    → Spells w table (λ t ys. EachMeans (λ y x. SaysScalar x t y) ys scalars) p)
    → option_map (λ p. (ListOf p.0, p.1)) found ≡ Some placed
    → Spells w table (SaysValue (values.List scalars)) placed
list_says w table scalars None placed said is = absurd (cc is)
list_says w table scalars (Some p) placed said is =
    let same : (ListOf p.0, p.1) ≡ placed = cc is in
    let s = said p refl in
    let all = all_say ScalarMeans ids_of_scalar names_qnames_raw p.1 p.0 scalars s.says in
    subst (Spells w table (SaysValue (values.List scalars))) same
    (record {
      grows = s.grows;
      says =
          record { means = (scalars, all.mean, refl); small = all.small; qnamed = all.qnamed };
    })

pub value_says : (w : Writing) (table : StringTable) (value : Value) → IsSound w table
    → is_valid_value value ≡ true → (placed : Placed RawValue)
    → spell_value w table value ≡ Some placed → Spells w table (SaysValue value) placed
value_says w table (values.One scalar) sound valid placed is =
    one_says w table scalar (spell_scalar w table scalar) placed
    (λ p e. scalar_says w table scalar sound valid p e) is
value_says w table (values.List scalars) sound valid placed is =
    list_says w table scalars (spell_each (spell_scalar w) table scalars) placed
    (λ p e. each_says w (spell_scalar w) SaysScalar is_valid_scalar
    (λ t x s v q f. scalar_says w t x s v q f)
    (λ x t b y g s. scalar_says_behind w x t b y g s) scalars table sound valid p e) is

-- a declaration or an attribute of an array's element
abbrev pub SaysPart : AttrItem → StringTable → AttrNode → Type 0
SaysPart = Says PartMeans ids_of_part names_qnames_part

part_says_behind : (w : Writing) (item : AttrItem) (table behind : StringTable) (part : AttrNode)
    → Grows w table behind → SaysPart item table part → SaysPart item behind part
part_says_behind = says_behind PartMeans ids_of_part names_qnames_part part_stays

attributed : (w : Writing) (table : StringTable) (prefix local : List ℕ) (value : Value)
    (name : Placed NameRef) (found : Option (Placed RawValue)) (placed : Placed AttrNode)
    → Spells w table (SaysName local) name
    → ((p : Placed RawValue) → found ≡ Some p → Spells w name.1 (SaysValue value) p)
    → option_map (λ p. (attribute_nodes.Attribute prefix name.0 p.0, p.1)) found ≡ Some placed
    → Spells w table (SaysPart (attributes.Attr prefix local value)) placed
attributed w table prefix local value name None placed named said is = absurd (cc is)
attributed w table prefix local value name (Some p) placed named said is =
    let same : (attribute_nodes.Attribute prefix name.0 p.0, p.1) ≡ placed = cc is in
    let s = said p refl in
    let n = name_says_behind w local name.1 p.1 name.0 s.grows named.says in
    subst (Spells w table (SaysPart (attributes.Attr prefix local value))) same
    (record {
      grows = grows_on w table name.1 p.1 named.grows s.grows;
      says = record {
        means = (local, value, n.means, s.says.means, refl);
        small =
            both_small (ids_of_name name.0) (ids_of_value p.0) n.small s.says.small;
        qnamed =
            s.says.qnamed;
      };
    })

part_says : (w : Writing) (table : StringTable) (item : AttrItem) → IsSound w table
    → is_valid_attribute item ≡ true → (placed : Placed AttrNode)
    → spell_part w table item ≡ Some placed → Spells w table (SaysPart item) placed
part_says w table (attributes.Attr prefix local value) sound valid placed is =
    let parts = and_parts (is_utf8 prefix && is_utf8 local) (is_valid_value value) valid in
    let texts = and_parts (is_utf8 prefix) (is_utf8 local) parts.0 in
    let named = placed_says w table local sound texts.1 in
    attributed w table prefix local value (place w table local)
    (spell_value w (place w table local).1 value) placed named
    (λ p e. value_says w (place w table local).1 value
    (sound_behind w table (place w table local).1 sound named.grows) parts.1 p e) is
part_says w table (attributes.Xmlns prefix uri) sound valid placed is =
    let texts = and_parts (is_utf8 prefix) (is_utf8 uri) valid in
    let named = placed_says w table uri sound texts.1 in
    let same : (attribute_nodes.Xmlns prefix (place w table uri).0, (place w table uri).1)
    ≡ placed = cc is in
    subst (Spells w table (SaysPart (attributes.Xmlns prefix uri))) same
    (record {
      grows = named.grows;
      says =
          record { means = (uri, named.says.means, refl); small = named.says.small; qnamed = refl };
    })

-- a node says items
abbrev pub SaysItems : List Item → StringTable → Node → Type 0
SaysItems = Says Means identifiers names_qnames

pub items_say_behind : (w : Writing) (said : List Item) (table behind : StringTable) (node : Node)
    → Grows w table behind → SaysItems said table node → SaysItems said behind node
items_say_behind = says_behind Means identifiers names_qnames node_stays

array_node : (w : Writing) (table : StringTable) (a : ArrayItem) (name : Placed NameRef)
    (found : Option (Placed (List AttrNode))) (spelled : Option (Placed ArrayNode))
    (placed : Placed Node) → Spells w table (SaysName a.local) name
    → ((p : Placed (List AttrNode)) → found ≡ Some p
    → Spells w name.1 (λ t ys. EachMeans (λ y x. SaysPart x t y) ys a.attrs) p)
    → spelled ≡ option_map (λ p. (
      record
          { prefix = a.prefix; name = name.0; attrs = p.0; kind = a.kind; values = a.values },
      p.1,
    )) found
    → option_map (λ p. (nodes.Array p.0, p.1)) spelled ≡ Some placed
    → Spells w table (SaysItems (items.Array a ∷ [])) placed
array_node w table a name None spelled placed named said made is = absurd (cc (made, is))
array_node w table a name (Some p) spelled placed named said made is =
    let node : ArrayNode = record {
      prefix = a.prefix;
      name = name.0;
      attrs = p.0;
      kind =
          a.kind;
      values = a.values;
    } in
    let same : (nodes.Array node, p.1) ≡ placed = cc (made, is) in
    let s = said p refl in
    let n = name_says_behind w a.local name.1 p.1 name.0 s.grows named.says in
    let all = all_say PartMeans ids_of_part names_qnames_part p.1 p.0 a.attrs s.says in
    let array : ArrayMeans p.1 node a =
    record {
      local = a.local;
      parts = a.attrs;
      named = n.means;
      attributed = all.mean;
      is =
          refl;
    } in
    subst (Spells w table (SaysItems (items.Array a ∷ []))) same
    (record {
      grows = grows_on w table name.1 p.1 named.grows s.grows;
      says = record {
        means = (a, array, refl);
        small =
            both_small (ids_of_name name.0) (flat_map ids_of_part p.0) n.small all.small;
        qnamed =
            all.qnamed;
      };
    })

-- a text, which may end its element
text_node : (w : Writing) (table : StringTable) (value : Value) (ends : Bool) (said : List Item)
    (found : Option (Placed RawValue)) (placed : Placed Node)
    → ((t : StringTable) (raw : RawValue) → SaysValue value t raw
    → Means t (nodes.Text raw ends) said)
    → ((p : Placed RawValue) → found ≡ Some p → Spells w table (SaysValue value) p)
    → option_map (λ p. (nodes.Text p.0 ends, p.1)) found ≡ Some placed
    → Spells w table (SaysItems said) placed
text_node w table value ends said None placed means spelled is = absurd (cc is)
text_node w table value ends said (Some p) placed means spelled is =
    let same : (nodes.Text p.0 ends, p.1) ≡ placed = cc is in
    let s = spelled p refl in
    subst (Spells w table (SaysItems said)) same
    (record {
      grows = s.grows;
      says =
          record { means = means p.1 p.0 s.says; small = s.says.small; qnamed = s.says.qnamed };
    })

attribute_node : (w : Writing) (table : StringTable) (prefix local : List ℕ) (value : Value)
    (name : Placed NameRef) (found : Option (Placed RawValue)) (placed : Placed Node)
    → Spells w table (SaysName local) name
    → ((p : Placed RawValue) → found ≡ Some p → Spells w name.1 (SaysValue value) p)
    → option_map (λ p. (nodes.Attribute prefix name.0 p.0, p.1)) found ≡ Some placed
    → Spells w table (SaysItems (items.Attr prefix local value ∷ [])) placed
attribute_node w table prefix local value name None placed named said is = absurd (cc is)
attribute_node w table prefix local value name (Some p) placed named said is =
    let same : (nodes.Attribute prefix name.0 p.0, p.1) ≡ placed = cc is in
    let s = said p refl in
    let n = name_says_behind w local name.1 p.1 name.0 s.grows named.says in
    subst (Spells w table (SaysItems (items.Attr prefix local value ∷ []))) same
    (record {
      grows = grows_on w table name.1 p.1 named.grows s.grows;
      says = record {
        means = (local, value, n.means, s.says.means, refl);
        small =
            both_small (ids_of_name name.0) (ids_of_value p.0) n.small s.says.small;
        qnamed =
            s.says.qnamed;
      };
    })

-- a node by itself
alone : (w : Writing) (table : StringTable) (node : Node) (said : List Item) (placed : Placed Node)
    → IsSound w table → Means table node said → identifiers node ≡ [] → names_qnames node ≡ true
    → Some (node, table) ≡ Some placed → Spells w table (SaysItems said) placed
alone w table node said placed sound means none qnamed is =
    let same : (node, table) ≡ placed = cc is in
    subst (Spells w table (SaysItems said)) same
    (record {
      grows = grows_not w table sound;
      says =
          record { means = means; small = ap (list_all (is_unsigned 31)) none; qnamed = qnamed };
    })

item_says : (w : Writing) (table : StringTable) (item : Item) → IsSound w table
    → is_valid_item item ≡ true → (placed : Placed Node) → spell_item w table item ≡ Some placed
    → Spells w table (SaysItems (item ∷ [])) placed
item_says w table (items.Start prefix local) sound valid placed is =
    let texts = and_parts (is_utf8 prefix) (is_utf8 local) valid in
    let named = placed_says w table local sound texts.1 in
    let same : (nodes.Element prefix (place w table local).0, (place w table local).1) ≡ placed =
    cc is in
    subst (Spells w table (SaysItems (items.Start prefix local ∷ []))) same
    (record {
      grows = named.grows;
      says =
          record {
            means = (local, named.says.means, refl);
            small = named.says.small;
            qnamed =
                refl;
          };
    })
item_says w table (items.Xmlns prefix uri) sound valid placed is =
    let texts = and_parts (is_utf8 prefix) (is_utf8 uri) valid in
    let named = placed_says w table uri sound texts.1 in
    let same : (nodes.Xmlns prefix (place w table uri).0, (place w table uri).1) ≡ placed = cc is in
    subst (Spells w table (SaysItems (items.Xmlns prefix uri ∷ []))) same
    (record {
      grows = named.grows;
      says =
          record { means = (uri, named.says.means, refl); small = named.says.small; qnamed = refl };
    })
item_says w table (items.Attr prefix local value) sound valid placed is =
    let parts = and_parts (is_utf8 prefix && is_utf8 local) (is_valid_value value) valid in
    let texts = and_parts (is_utf8 prefix) (is_utf8 local) parts.0 in
    let named = placed_says w table local sound texts.1 in
    attribute_node w table prefix local value (place w table local)
    (spell_value w (place w table local).1 value) placed named
    (λ p e. value_says w (place w table local).1 value
    (sound_behind w table (place w table local).1 sound named.grows) parts.1 p e) is
item_says w table (items.Text value) sound valid placed is =
    text_node w table value false (items.Text value ∷ []) (spell_value w table value) placed
    (λ t raw says. (value, says.means, refl))
    (λ p e. value_says w table value sound valid p e) is
item_says w table (items.Comment text) sound valid placed is =
    alone w table (nodes.Comment text) (items.Comment text ∷ []) placed sound refl refl refl is
item_says w table (items.Array a) sound valid placed is =
    let outer = and_parts (is_utf8 a.prefix && is_utf8 a.local)
    (list_all is_valid_attribute a.attrs
    && (nat_lt 0 (length a.values) && list_all (fits_kind a.kind) a.values)) valid in
    let texts = and_parts (is_utf8 a.prefix) (is_utf8 a.local) outer.0 in
    let inner = and_parts (list_all is_valid_attribute a.attrs)
    (nat_lt 0 (length a.values) && list_all (fits_kind a.kind) a.values) outer.1 in
    let named = placed_says w table a.local sound texts.1 in
    array_node w table a (place w table a.local)
    (spell_each (spell_part w) (place w table a.local).1 a.attrs) (spell_array w table a) placed
    named
    (λ p e. each_says w (spell_part w) SaysPart is_valid_attribute
    (λ t x s v q f. part_says w t x s v q f)
    (λ x t b y g s. part_says_behind w x t b y g s) a.attrs (place w table a.local).1
    (sound_behind w table (place w table a.local).1 sound named.grows) inner.0 p e) refl is
item_says w table items.Close sound valid placed is =
    alone w table nodes.EndElement (items.Close ∷ []) placed sound refl refl refl is

pub said_says : (w : Writing) (table : StringTable) (said : Said) → IsSound w table
    → list_all is_valid_item (items_said said) ≡ true → (placed : Placed Node)
    → spell_said w table said ≡ Some placed → Spells w table (SaysItems (items_said said)) placed
said_says w table (an_item item) sound valid placed is =
    item_says w table item sound (and_parts (is_valid_item item) true valid).0 placed is
said_says w table (last_text value) sound valid placed is =
    text_node w table value true (items.Text value ∷ items.Close ∷ []) (spell_value w table value)
    placed (λ t raw says. (value, says.means, refl))
    (λ p e. value_says w table value sound (and_parts (is_valid_value value) true valid).0 p e) is
