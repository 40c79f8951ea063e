-- A node that says what is valid, with no more content and no greater identifiers than 31 bits
-- hold, may be written.
use Rattle.std.proofs.Common.{◌≡◌, ℕ, ◌+◌, ◌^◌, ◌<◌, ◌≤◌, Bool, true, ◌&&◌, List, [], ◌∷◌, ◌++◌}
use Rattle.std.proofs.Common.{length, nat_lt, nat_le, sum_by, flat_map, sym, refl, ap, ◌∙◌, subst}
use Rattle.std.proofs.{Common.arith, Common.lt-ltb, lemmas.Bool.and_from, lemmas.Bool.and_parts}
use Rattle.std.proofs.lemmas.List.{Concat.flat_map-cons, Folds.list_all-append, Sums.sum_by-cons}
use Rattle.std.specs.{List.list_all, Str.is_utf8}
use Rattle.string_tables.specs.StringTable.{StringTable}
use Rattle.nbfx_values.specs.declared.content.{ArrayItem.ArrayItem, Item.Item}
use Rattle.nbfx_values.specs.declared.content.{ArrayKind.ArrayKind, AttrItem.AttrItem}
use Rattle.nbfx_values.specs.declared.scalars.{Scalar.Scalar, Value.Value}
use Rattle.nbfx_values.specs.Items.{are_texts, fits_kind, is_valid_attribute, is_valid_item}
use Rattle.nbfx_values.specs.Measures.{array_content, attribute_content, content_of, item_content}
use Rattle.nbfx_values.specs.Measures.{scalar_content, value_content}
use Rattle.nbfx_values.specs.Scalars.{is_unsigned, is_valid_scalar, is_valid_value}
use Rattle.nbfx_records.specs.declared.nodes.{ArrayNode.ArrayNode, Node.Node, RawValue.RawValue}
use Rattle.nbfx_records.specs.declared.nodes.{AttrNode.AttrNode, RawScalar.RawScalar}
use Rattle.nbfx_records.specs.declared.nodes.NameRef.{NameRef, TheVariants.Id, TheVariants.Inline}
use Rattle.nbfx_records.specs.declared.nodes.Node.TheVariants.{Array, Attribute, Comment, Element}
use Rattle.nbfx_records.specs.declared.nodes.Node.TheVariants.{EndElement, Text, Xmlns}
use Rattle.nbfx_records.specs.declared.nodes.RawScalar.TheVariants.{Dictionary, Known, QName}
use Rattle.nbfx_records.specs.declared.nodes.RawValue.TheVariants.{List as ListOf, One}
use Rattle.nbfx_records.specs.Meaning.{ArrayMeans, closing, EachMeans, identifiers, ids_of_name}
use Rattle.nbfx_records.specs.Meaning.{ids_of_part, ids_of_scalar, ids_of_value, Means, NameMeans}
use Rattle.nbfx_records.specs.Meaning.{PartMeans, ScalarMeans, ValueMeans}
use Rattle.nbfx_records.specs.Valid.{are_valid_names, fit_names, fits_array, fits_known, fits_node}
use Rattle.nbfx_records.specs.Valid.{fits_part, fits_raw, fits_text, is_short, is_valid_array}
use Rattle.nbfx_records.specs.Valid.{is_valid_known, is_valid_node, is_valid_part, is_valid_raw}
use Rattle.nbfx_records.specs.Valid.{is_valid_text, names_qnames, names_qnames_part}
use Rattle.nbfx_records.specs.Valid.{names_qnames_raw, names_qnames_text}
use Rattle.nbfx_records.specs.WritingLaws.{SaidMayBeWritten}
use Rattle.nbfx_values.specs.Items as items_spec
use Rattle.nbfx_values.specs.declared.content.ArrayKind.TheVariants as arrays
use Rattle.nbfx_values.specs.declared.content.Item.TheVariants as items
use Rattle.nbfx_values.specs.declared.scalars.Scalar.TheVariants as scalars
use Rattle.nbfx_records.specs.declared.nodes.AttrNode.TheVariants as attribute_nodes

-- in both ways a record asks for
record May (valid fits : Bool) : Type 0 where
  valid_is : valid ≡ true
  fits_is : fits ≡ true

abbrev Small : List ℕ → Type 0
Small ids = list_all (is_unsigned 31) ids ≡ true

-- of two lists of identifiers each is small, and so is each of many
small_both : (ids others : List ℕ) → Small (ids ++ others) → (Small ids) × (Small others)
small_both ids others small = and_parts (list_all (is_unsigned 31) ids)
    (list_all (is_unsigned 31) others) (sym (list_all-append (is_unsigned 31) ids others) ∙ small)

short : (s : List ℕ) (n : ℕ) → length s ≤ n → n < 2 ^ 31 → is_short s ≡ true
short s n le lt = lt-ltb (length s) (2 ^ 31) (omega (arith, le, lt))

-- each of a list that means another may be written
record AllMay {A : Type 0} (valid fits : A → Bool) (xs : List A) : Type 0 where
  all_valid : list_all valid xs ≡ true
  all_fit : list_all fits xs ≡ true

-- one of what is meant is valid and small, and what means it has small identifiers and names its
-- QNames
each_may : {A B : Type 0} (M : A → B → Type 0) (valid fits named : A → Bool) (good : B → Bool)
    (content : B → ℕ) (ids : A → List ℕ)
    → ((x : A) (y : B) → M x y → good y ≡ true → content y < 2 ^ 31 → named x ≡ true → Small (ids x)
    → May (valid x) (fits x))
    → (xs : List A) (ys : List B) → EachMeans M xs ys → list_all good ys ≡ true
    → sum_by content ys < 2 ^ 31 → list_all named xs ≡ true → Small (flat_map ids xs)
    → AllMay valid fits xs
each_may M valid fits named good content ids one [] ys says all few names small =
    record { all_valid = refl; all_fit = refl }
each_may M valid fits named good content ids one (x ∷ xs) ys (y, rest, is, others, made) all few
    names small =
    let goods = and_parts (good y) (list_all good rest) (ap (list_all good) (sym made) ∙ all) in
    let nameds = and_parts (named x) (list_all named xs) names in
    let smalls = small_both (ids x) (flat_map ids xs)
    (ap (list_all (is_unsigned 31)) (sym (flat_map-cons ids x xs)) ∙ small) in
    let sum : sum_by content ys ≡ content y + sum_by content rest =
    ap (sum_by content) made ∙ sum_by-cons content y rest in
    let first = one x y is goods.0 (omega (arith, sum, few)) nameds.0 smalls.0 in
    let behind = each_may M valid fits named good content ids one xs rest others goods.1
    (omega (arith, sum, few)) nameds.1 smalls.1 in
    record {
      all_valid = and_from (valid x) (list_all valid xs) first.valid_is behind.all_valid;
      all_fit = and_from (fits x) (list_all fits xs) first.fits_is behind.all_fit;
    }

-- a value that stands there
known_may : (value : Scalar) → is_valid_scalar value ≡ true → scalar_content value < 2 ^ 31
    → names_qnames_raw (Known value) ≡ true → May (is_valid_known value) (fits_known value)
known_may (scalars.QName letter name) valid few named = cc named
known_may (scalars.Text s) valid few named =
    record { valid_is = valid; fits_is = short s (length s) (omega arith) few }
known_may (scalars.Bytes s) valid few named =
    record { valid_is = valid; fits_is = short s (length s) (omega arith) few }
known_may value valid few named = record { valid_is = valid; fits_is = refl }

-- a value of an array counts
cell_counts : (kind : ArrayKind) (value : Scalar) → fits_kind kind value ≡ true
    → 1 ≤ scalar_content value
cell_counts arrays.Bool (scalars.Truth truth) fits = omega arith
cell_counts arrays.Int16 (scalars.Number n) fits = omega arith
cell_counts arrays.Int32 (scalars.Number n) fits = omega arith
cell_counts arrays.Int64 (scalars.Number n) fits = omega arith
cell_counts arrays.Float (scalars.Float n) fits = omega arith
cell_counts arrays.Double (scalars.Double n) fits = omega arith
cell_counts arrays.Decimal (scalars.Decimal d) fits = omega arith
cell_counts arrays.DateTime (scalars.DateTime n) fits = omega arith
cell_counts arrays.TimeSpan (scalars.TimeSpan n) fits = omega arith
cell_counts arrays.Uuid (scalars.Uuid s) fits = omega arith
cell_counts kind value fits = cc fits

pub cells_count : (kind : ArrayKind) (cells : List Scalar) → list_all (fits_kind kind) cells ≡ true
    → length cells ≤ sum_by scalar_content cells
cells_count kind [] fits = omega arith
cells_count kind (value ∷ cells) fits =
    let parts = and_parts (fits_kind kind value) (list_all (fits_kind kind) cells) fits in
    let first = cell_counts kind value parts.0 in
    let others = cells_count kind cells parts.1 in
    omega (arith, first, others, sum_by-cons scalar_content value cells)

module _ (table : StringTable) where
  name_may : (prefix : List ℕ) (name : NameRef) (text : List ℕ) (most : ℕ)
      → NameMeans table name text → are_texts prefix text ≡ true
      → length prefix + length text ≤ most → most < 2 ^ 31 → Small (ids_of_name name)
      → May (are_valid_names prefix name) (fit_names prefix name)
  name_may prefix (Inline s) text most is valid le few small =
      let own = and_parts (is_utf8 prefix) (is_utf8 text) valid in
      let long : length s ≡ length text = ap length is in
      record {
        valid_is = and_from (is_utf8 prefix) (is_utf8 s) own.0 (ap is_utf8 is ∙ own.1);
        fits_is = and_from (is_short prefix) (is_short s)
            (short prefix most (omega (arith, le)) few)
            (short s most (omega (arith, le, long)) few);
      }
  name_may prefix (Id id) text most is valid le few small =
      let own = and_parts (is_utf8 prefix) (is_utf8 text) valid in
      record {
        valid_is = and_from (is_utf8 prefix) true own.0 refl;
        fits_is = and_from (is_short prefix) (is_unsigned 31 id)
            (short prefix most (omega (arith, le)) few)
            (and_parts (is_unsigned 31 id) true small).0;
      }

  scalar_may : (raw : RawScalar) (scalar : Scalar) → ScalarMeans table raw scalar
      → is_valid_scalar scalar ≡ true → scalar_content scalar < 2 ^ 31 → names_qnames_raw raw ≡ true
      → Small (ids_of_scalar raw) → May (is_valid_raw raw) (fits_raw raw)
  scalar_may (Known value) scalar is valid few named small =
      known_may value (ap is_valid_scalar (sym is) ∙ valid)
      (subst (λ (s : Scalar). scalar_content s < 2 ^ 31) is few) named
  scalar_may (Dictionary id) scalar says valid few named small =
      record { valid_is = refl; fits_is = (and_parts (is_unsigned 31 id) true small).0 }
  scalar_may (QName letter id) scalar (text, names, is) valid few named small = record {
    valid_is = (and_parts (nat_le letter 25) (is_utf8 text)
        (ap is_valid_scalar (sym is) ∙ valid)).0;
    fits_is = (and_parts (is_unsigned 31 id) true small).0;
  }

  value_may : (raw : RawValue) (value : Value) → ValueMeans table raw value
      → is_valid_value value ≡ true → value_content value < 2 ^ 31 → names_qnames_text raw ≡ true
      → Small (ids_of_value raw) → May (is_valid_text raw) (fits_text raw)
  value_may (One raw) value (scalar, says, is) valid few named small =
      scalar_may raw scalar says (ap is_valid_value (sym is) ∙ valid)
      (subst (λ (v : Value). value_content v < 2 ^ 31) is few) named small
  value_may (ListOf raws) value (found, say, is) valid few named small =
      let all = each_may (ScalarMeans table) is_valid_raw fits_raw names_qnames_raw is_valid_scalar
      scalar_content ids_of_scalar scalar_may raws found say
      (ap is_valid_value (sym is) ∙ valid) (subst (λ (v : Value). value_content v < 2 ^ 31) is few)
      named small in
      record { valid_is = all.all_valid; fits_is = all.all_fit }

  -- a prefix, a name and a value
  attribute_may : (prefix : List ℕ) (name : NameRef) (raw : RawValue) (local : List ℕ)
      (value : Value) → NameMeans table name local → ValueMeans table raw value
      → (are_texts prefix local && is_valid_value value) ≡ true
      → length prefix + length local + value_content value < 2 ^ 31 → names_qnames_text raw ≡ true
      → Small (ids_of_name name ++ ids_of_value raw)
      → May (are_valid_names prefix name && is_valid_text raw)
      (fit_names prefix name && fits_text raw)
  attribute_may prefix name raw local value named says valid few names small =
      let valids = and_parts (are_texts prefix local) (is_valid_value value) valid in
      let smalls = small_both (ids_of_name name) (ids_of_value raw) small in
      let first = name_may prefix name local (length prefix + length local + value_content value)
      named valids.0 (omega arith) few smalls.0 in
      let second = value_may raw value says valids.1 (omega (arith, few)) names smalls.1 in
      record {
        valid_is = and_from (are_valid_names prefix name) (is_valid_text raw) first.valid_is
            second.valid_is;
        fits_is = and_from (fit_names prefix name) (fits_text raw) first.fits_is second.fits_is;
      }

  part_may : (part : AttrNode) (item : AttrItem) → PartMeans table part item
      → is_valid_attribute item ≡ true → attribute_content item < 2 ^ 31
      → names_qnames_part part ≡ true → Small (ids_of_part part)
      → May (is_valid_part part) (fits_part part)
  part_may (attribute_nodes.Attribute prefix name raw) item (local, value, named, says, is) valid
      few names small =
      attribute_may prefix name raw local value named says (ap is_valid_attribute (sym is) ∙ valid)
      (subst (λ (i : AttrItem). attribute_content i < 2 ^ 31) is few) names small
  part_may (attribute_nodes.Xmlns prefix name) item (uri, named, is) valid few names small =
      name_may prefix name uri (length prefix + length uri) named
      (ap is_valid_attribute (sym is) ∙ valid) (omega arith)
      (subst (λ (i : AttrItem). attribute_content i < 2 ^ 31) is few) small

  array_may : (a : ArrayNode) (item : ArrayItem) → ArrayMeans table a item
      → items_spec.is_valid_array item ≡ true → array_content item < 2 ^ 31
      → list_all names_qnames_part a.attrs ≡ true
      → Small (ids_of_name a.name ++ flat_map ids_of_part a.attrs)
      → May (is_valid_array a) (fits_array a)
  array_may a item says valid few names small =
      let local = says.local in
      let parts = says.parts in
      let valid_all : (are_texts a.prefix local
      && (list_all is_valid_attribute parts
      && (nat_lt 0 (length a.values) && list_all (fits_kind a.kind) a.values))) ≡ true =
      ap items_spec.is_valid_array (sym says.is) ∙ valid in
      let count : length a.prefix + length local + sum_by attribute_content parts
      + sum_by scalar_content a.values < 2 ^ 31 =
      subst (λ (i : ArrayItem). array_content i < 2 ^ 31) says.is few in
      let first = and_parts (are_texts a.prefix local)
      (list_all is_valid_attribute parts
      && (nat_lt 0 (length a.values) && list_all (fits_kind a.kind) a.values)) valid_all in
      let second = and_parts (list_all is_valid_attribute parts)
      (nat_lt 0 (length a.values) && list_all (fits_kind a.kind) a.values) first.1 in
      let cells = and_parts (nat_lt 0 (length a.values)) (list_all (fits_kind a.kind) a.values)
      second.1 in
      let smalls = small_both (ids_of_name a.name) (flat_map ids_of_part a.attrs) small in
      let named = name_may a.prefix a.name local
      (length a.prefix + length local + sum_by attribute_content parts
      + sum_by scalar_content a.values) says.named first.0 (omega arith) count smalls.0 in
      let all = each_may (PartMeans table) is_valid_part fits_part names_qnames_part
      is_valid_attribute attribute_content ids_of_part part_may a.attrs parts says.attributed
      second.0 (omega (arith, count)) names smalls.1 in
      let some = cells_count a.kind a.values cells.1 in
      record {
        valid_is = and_from (are_valid_names a.prefix a.name)
            (list_all is_valid_part a.attrs
            && (nat_lt 0 (length a.values) && list_all (fits_kind a.kind) a.values)) named.valid_is
            (and_from (list_all is_valid_part a.attrs)
            (nat_lt 0 (length a.values) && list_all (fits_kind a.kind) a.values) all.all_valid
            second.1);
        fits_is = and_from (fit_names a.prefix a.name)
            (list_all fits_part a.attrs && is_unsigned 31 (length a.values)) named.fits_is
            (and_from (list_all fits_part a.attrs) (is_unsigned 31 (length a.values)) all.all_fit
            (lt-ltb (length a.values) (2 ^ 31) (omega (arith, some, count))));
      }

  -- what is said first of what a node says
  record FirstIs (item : Item) (said : List Item) : Type 0 where
    valid_item : is_valid_item item ≡ true
    few_item : item_content item < 2 ^ 31

  first_is : (item : Item) (rest said : List Item) → said ≡ item ∷ rest
      → list_all is_valid_item said ≡ true → content_of said < 2 ^ 31 → FirstIs item said
  first_is item rest said is valid few =
      let sum : content_of said ≡ item_content item + content_of rest =
      ap content_of is ∙ sum_by-cons item_content item rest in
      record {
        valid_item = (and_parts (is_valid_item item) (list_all is_valid_item rest)
            (ap (list_all is_valid_item) (sym is) ∙ valid)).0;
        few_item = omega (arith, sum, few);
      }

  node_may : (node : Node) (said : List Item) → Means table node said
      → list_all is_valid_item said ≡ true → content_of said < 2 ^ 31 → names_qnames node ≡ true
      → Small (identifiers node) → May (is_valid_node node) (fits_node node)
  node_may EndElement said is valid few names small = record { valid_is = refl; fits_is = refl }
  node_may (Comment text) said is valid few names small =
      let it = first_is (items.Comment text) [] said is valid few in
      record {
        valid_is = it.valid_item;
        fits_is =
            short text (length text) (omega arith) it.few_item;
      }
  node_may (Array a) said (item, says, is) valid few names small =
      let it = first_is (items.Array item) [] said is valid few in
      array_may a item says it.valid_item it.few_item names small
  node_may (Attribute prefix name raw) said (local, value, named, says, is) valid few names small =
      let it = first_is (items.Attr prefix local value) [] said is valid few in
      attribute_may prefix name raw local value named says it.valid_item it.few_item names small
  node_may (Xmlns prefix name) said (uri, named, is) valid few names small =
      let it = first_is (items.Xmlns prefix uri) [] said is valid few in
      name_may prefix name uri (length prefix + length uri) named it.valid_item (omega arith)
      it.few_item small
  node_may (Element prefix name) said (local, named, is) valid few names small =
      let it = first_is (items.Start prefix local) [] said is valid few in
      name_may prefix name local (length prefix + length local) named it.valid_item
      (omega arith) it.few_item small
  node_may (Text raw ends) said (value, says, is) valid few names small =
      let it = first_is (items.Text value) (closing ends) said is valid few in
      value_may raw value says it.valid_item it.few_item names small

pub said_may_be_written : SaidMayBeWritten
said_may_be_written table node said says valid few names small =
    let may = node_may table node said says valid few names small in (may.valid_is, may.fits_is)
