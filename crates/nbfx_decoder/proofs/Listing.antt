-- What a list says, value by value, where all of it is there.
use Rattle.std.proofs.Common.{◌≡◌, ℕ, Bool, true, false, ◌&&◌, List, [], ◌∷◌, ◌++◌, IfOk, IsTrue}
use Rattle.std.proofs.Common.{Some, None, Ok, Err, Option, Result, option_map, option_and_then, sym}
use Rattle.std.proofs.Common.{refl, ap, ◌∙◌, subst, append-nil, Bor}
use Rattle.std.{proofs.lemmas.Bool.and_parts, specs.List.list_all, specs.Str.is_utf8}
use Rattle.unit_streams.specs.declared.memory.Memory.{Memory}
use Rattle.string_tables.specs.StringTable.{StringTable}
use Rattle.nbfx_values.specs.{declared.scalars.Scalar.Scalar, Scalars.is_valid_scalar}
use Rattle.nbfx_records.proofs.JudgedFacts.{judged_more}
use Rattle.nbfx_records.proofs.ValueBytes.{bound_some, mapped_some}
use Rattle.nbfx_records.specs.{declared.attributes.AttributePart.AttributePart, Views.value_seen}
use Rattle.nbfx_records.specs.declared.attributes.AttributePart.TheVariants.{Attribute as AttributeAt}
use Rattle.nbfx_records.specs.declared.attributes.ValuePart.{ValuePart, TheVariants.List as ListAt}
use Rattle.nbfx_records.specs.declared.nodes.{NameRef.NameRef, Node.Node}
use Rattle.nbfx_records.specs.declared.nodes.{RawScalar.RawScalar, RecordFault.RecordFault}
use Rattle.nbfx_records.specs.declared.parts.{NamePart.NamePart, PrefixPart.PrefixPart}
use Rattle.nbfx_records.specs.{declared.records.RecordPart.RecordPart, Contents.scalars_judged}
use Rattle.nbfx_records.specs.Contents.{attribute_node, behind_texts, contents, each, judge, led}
use Rattle.nbfx_records.specs.Contents.{name_is_text, scalar_is_text, scalar_judged, scalar_value}
use Rattle.nbfx_records.specs.Meaning.{items_of, meant_scalar, name_text}
use Rattle.nbfx_records.specs.Shapes.{adds, attributes, has_text, ScalarShape, several, Shape}
use Rattle.nbfx_records.specs.Valid.{are_valid_names, is_valid_node, is_valid_raw}
use Rattle.nbfx_records.specs.Views.{attribute_seen, listed, name_seen, prefix_seen, record_seen}
use Rattle.nbfx_decoder.specs.declared.{meaning.Meant.Meant, units.UnitReader.UnitReader}
use Rattle.nbfx_decoder.specs.Meant.{items_in, MeansAttribute, MeansValue, MeansValues}
use Rattle.nbfx_decoder.specs.Meant.{SaysAttribute, SaysText, SaysValues}
use Rattle.nbfx_decoder.specs.Units.{IsSaid, MakesValid, MayMake, names_in}
use Rattle.nbfx_decoder.proofs.MeaningFacts.{all_more, AreFound, one_more}
use Rattle.nbfx_values.specs.declared.content.Item.TheVariants as items
use Rattle.nbfx_values.specs.declared.scalars.Value.TheVariants as said_values
use Rattle.nbfx_records.specs.declared.nodes.AttrNode.TheVariants as attribute_nodes
use Rattle.nbfx_records.specs.declared.nodes.Node.TheVariants as nodes
use Rattle.nbfx_records.specs.declared.nodes.RawValue.TheVariants as values
use Rattle.nbfx_records.specs.declared.records.RecordPart.TheVariants as records
use Rattle.nbfx_decoder.specs.declared.meaning.Meant.TheVariants as meants

-- a list that is judged well has a first value that is, and others
record IsLed {B : Type 0} (t : Bool) (v : Option B) (ts : Bool) (vs : Option (List B))
    (raws : List B)
    : Type 0 where
  first : B
  others : List B
  well : judge t v ≡ Ok first
  others_well : judge ts vs ≡ Ok others
  are : raws ≡ first ∷ others

is_led : {B : Type 0} (t : Bool) (v : Option B) (ts : Bool) (vs : Option (List B)) (raws : List B)
    → judge (t && ts) (option_and_then (λ y. option_map (λ ys. y ∷ ys) vs) v) ≡ Ok raws
    → IsLed t v ts vs raws
is_led true (Some b) true (Some bs) raws e =
    record { first = b; others = bs; well = refl; others_well = refl; are = cc }
is_led true (Some b) true None raws e = absurd (let no : ⊥ = cc in no)
is_led true (Some b) false vs raws e = absurd (let no : ⊥ = cc in no)
is_led true None true vs raws e = absurd (let no : ⊥ = cc in no)
is_led true None false vs raws e = absurd (let no : ⊥ = cc in no)
is_led false v ts vs raws e = absurd (let no : ⊥ = cc in no)

module _ (table : StringTable) where
  -- the first value of a list that means something means something, and so do the others
  pub peeled : (here : List ScalarShape) (scalar : ScalarShape) (rest : List ScalarShape)
      → here ≡ scalar ∷ rest → MeansValues table here
      → MeansValue table scalar × MeansValues table rest
  peeled here scalar rest first m =
      let judged = subst (λ (l : List ScalarShape). scalars_judged l ≡ Ok m.raws) first m.judged in
      let it =
      is_led (scalar_is_text scalar) (scalar_value scalar) (list_all scalar_is_text rest)
      (each scalar_value rest) m.raws judged in
      let means =
      subst (λ (l : List RawScalar). each (meant_scalar table) l ≡ Some m.said) it.are m.means in
      let one =
      bound_some (λ y. option_map (λ ys. y ∷ ys) (each (meant_scalar table) it.others))
      (meant_scalar table it.first) m.said means in
      let more =
      mapped_some (λ ys. one.0 ∷ ys) (each (meant_scalar table) it.others) m.said one.2 in
      let valid = subst (λ (l : List RawScalar). list_all is_valid_raw l ≡ true) it.are m.valid in
      let both = and_parts (is_valid_raw it.first) (list_all is_valid_raw it.others) valid in (
        record {
          raw = it.first;
          said = one.0;
          judged = it.well;
          means = one.1;
          valid = both.0;
        },
        record {
          raws = it.others;
          said = more.0;
          judged = it.others_well;
          means = more.1;
          valid = both.1;
        },
      )

  -- the values of a list so far, and those to come
  pub record SoFar (all rest : List ScalarShape) (said : List Scalar) : Type 0 where
    pub made : List RawScalar
    pub same : scalars_judged all ≡ led made (scalars_judged rest)
    pub are : AreFound (meant_scalar table) is_valid_raw is_valid_scalar made said
    pub valid : IsTrue (list_all is_valid_raw made)
    pub left : MeansValues table rest

  led_nothing : (r : Result (List RawScalar) RecordFault) → r ≡ led [] r
  led_nothing (Ok raws) = refl
  led_nothing (Err fault) = refl

  pub none_yet : (all : List ScalarShape) → MeansValues table all → SoFar all all []
  none_yet all m = record {
    made = [];
    same = led_nothing (scalars_judged all);
    are = record { found = refl; valid = λ all. refl };
    valid = refl;
    left = m;
  }

  module _ (all here : List ScalarShape) (said : List Scalar) (far : SoFar all here said) where
    pub one_further : (scalar : ScalarShape) (rest : List ScalarShape) → here ≡ scalar ∷ rest
        → (raw : RawScalar) → scalar_judged scalar ≡ Ok raw → (value : Scalar)
        → meant_scalar table raw ≡ Some value → IsTrue (is_valid_scalar value)
        → SoFar all rest (said ++ value ∷ [])
    one_further scalar rest first raw judged value means valid =
        let it = peeled here scalar rest first far.left in
        let same : it.0.raw ≡ raw =
        (let both : Ok it.0.raw ≡ Ok raw = sym it.0.judged ∙ judged in cc) in
        record {
          made = far.made ++ raw ∷ [];
          same =
              judged_more scalar_is_text scalar_value all here scalar rest far.made far.same first
              raw
              (ap (behind_texts (list_all scalar_is_text rest)) judged);
          are =
              one_more (meant_scalar table) is_valid_raw is_valid_scalar far.made said raw value
              far.are means (λ h. valid);
          valid =
              all_more is_valid_raw far.made raw far.valid
              (subst (λ (r : RawScalar). is_valid_raw r ≡ true) same it.0.valid);
          left = it.1;
        }

    pub all_said : here ≡ [] → SaysValues table all said
    all_said none = (
      far.made,
      far.same ∙ ap (λ rest. led far.made (scalars_judged rest)) none
          ∙ ap Ok (append-nil far.made),
      far.are.found,
    )

    pub all_valid : IsTrue (list_all is_valid_scalar said)
    all_valid = far.are.valid far.valid

-- a text that is a list is made of its values
text_of : (t : Bool) (found : Option (List RawScalar)) (ends : Bool) (n : Node)
    → judge t (option_map (λ v. nodes.Text v ends) (option_map values.List found)) ≡ Ok n
    → (raws : List RawScalar) × (judge t found ≡ Ok raws) × (n ≡ nodes.Text (values.List raws) ends)
text_of true (Some raws) ends n e = (raws, refl, cc)
text_of true None ends n e = absurd (let no : ⊥ = cc in no)
text_of false found ends n e = absurd (let no : ⊥ = cc in no)

text_made : (t : Bool) (found : Option (List RawScalar)) (ends : Bool) (raws : List RawScalar)
    → judge t found ≡ Ok raws
    → judge t (option_map (λ v. nodes.Text v ends) (option_map values.List found))
    ≡ Ok (nodes.Text (values.List raws) ends)
text_made true (Some raws) ends other e =
    let same : raws ≡ other = cc in ap (λ l. Ok (nodes.Text (values.List l) ends)) same
text_made true None ends other e = cc
text_made false found ends other e = cc

module _ (scalars : List ScalarShape) (ends : Bool) where
  -- what is said of the values is said of the text
  pub list_made : (raws : List RawScalar) → scalars_judged scalars ≡ Ok raws
      → contents (has_text (several scalars) ends) ≡ Ok (nodes.Text (values.List raws) ends)
  unfolding contents
  list_made raws e =
      text_made (list_all scalar_is_text scalars) (each scalar_value scalars) ends raws e

  list_of : (n : Node) → contents (has_text (several scalars) ends) ≡ Ok n
      → (raws : List RawScalar) × (scalars_judged scalars ≡ Ok raws)
      × (n ≡ nodes.Text (values.List raws) ends)
  unfolding contents
  list_of n e = text_of (list_all scalar_is_text scalars) (each scalar_value scalars) ends n e

  -- a text that may be made means something
  pub list_means : (r : UnitReader) (table : StringTable) → table ≡ names_in r
      → MayMake r (has_text (several scalars) ends) → MakesValid (has_text (several scalars) ends)
      → MeansValues table scalars
  list_means r table same (n, is, (more, found, fits)) makes =
      let it = list_of n is in
      let text = subst (λ (m : Node). items_of (names_in r) m ≡ Some more) it.2 found in
      let here = subst (λ (t : StringTable). items_of t (nodes.Text (values.List it.0) ends)
      ≡ Some more) (sym same) text in
      let value = mapped_some _ _ more here in
      let said = mapped_some said_values.List _ value.0 value.1 in
      record {
        raws = it.0;
        said = said.0;
        judged = it.1;
        means = said.1;
        valid = subst (λ (m : Node). is_valid_node m ≡ true) it.2 (makes n is);
      }

  -- and what is said of it
  list_said : (r : UnitReader) (table : StringTable) → table ≡ names_in r → (meant : Meant)
      → SaysText table scalars ends meant → IsSaid r (has_text (several scalars) ends) meant
  list_said r table same meant (raws, judged, found) = record {
    made = nodes.Text (values.List raws) ends;
    is = list_made raws judged;
    means =
        subst
        (λ (t : StringTable).
        items_of t (nodes.Text (values.List raws) ends) ≡ Some (items_in meant)) same found;
  }

  pub list_all_said : (r : UnitReader) (table : StringTable) → table ≡ names_in r
      → (result : Result Meant Memory) → IfOk result (SaysText table scalars ends)
      → IfOk result (IsSaid r (has_text (several scalars) ends))
  list_all_said r table same (Ok meant) h = list_said r table same meant h
  list_all_said r table same (Err memory) h = tt

-- an attribute whose value is a list is made of its prefix, its name and its values
record OfAttribute (p n t : Bool) (found : Option (List RawScalar)) (prefix : List ℕ)
    (name : NameRef)
    (made : Node) : Type 0 where
  raws : List RawScalar
  prefix_is_text : p ≡ true
  name_is_so : n ≡ true
  judged : judge t found ≡ Ok raws
  is : made ≡ nodes.Attribute prefix name (values.List raws)

abbrev listed_attribute : List ℕ → NameRef → Option (List RawScalar) → Option Node
listed_attribute prefix name found =
    option_map attribute_node
    (option_map (attribute_nodes.Attribute prefix name) (option_map values.List found))

attribute_of : (p n t : Bool) (found : Option (List RawScalar)) (prefix : List ℕ) (name : NameRef)
    (made : Node) → judge (p && (n && t)) (listed_attribute prefix name found) ≡ Ok made
    → OfAttribute p n t found prefix name made
attribute_of true true true (Some raws) prefix name made e = record {
  raws = raws;
  prefix_is_text = refl;
  name_is_so = refl;
  judged = refl;
  is = cc;
}
attribute_of true true true None prefix name made e = absurd (let no : ⊥ = cc in no)
attribute_of true true false found prefix name made e = absurd (let no : ⊥ = cc in no)
attribute_of true false t found prefix name made e = absurd (let no : ⊥ = cc in no)
attribute_of false n t found prefix name made e = absurd (let no : ⊥ = cc in no)

attribute_made : (p n t : Bool) (found : Option (List RawScalar)) (prefix : List ℕ) (name : NameRef)
    (raws : List RawScalar) → p ≡ true → n ≡ true → judge t found ≡ Ok raws
    → judge (p && (n && t)) (listed_attribute prefix name found)
    ≡ Ok (nodes.Attribute prefix name (values.List raws))
attribute_made true true true (Some raws) prefix name other h g e =
    let same : raws ≡ other = cc in
    ap (λ l. Ok (nodes.Attribute prefix name (values.List l))) same
attribute_made true true true None prefix name other h g e = cc
attribute_made true true false found prefix name other h g e = cc
attribute_made true false t found prefix name other h g e = cc
attribute_made false n t found prefix name other h g e = cc

module _ (prefix : List ℕ) (name : NameRef) (scalars : List ScalarShape) where
  abbrev attribute_shape : Shape
  attribute_shape = adds (attributes prefix name (several scalars))

  parts_made : (made : Node) → contents attribute_shape ≡ Ok made
      → OfAttribute (is_utf8 prefix) (name_is_text name) (list_all scalar_is_text scalars)
      (each scalar_value scalars) prefix name made
  unfolding contents
  parts_made made e =
      attribute_of (is_utf8 prefix) (name_is_text name) (list_all scalar_is_text scalars)
      (each scalar_value scalars) prefix name made e

  -- an attribute that may be made means something
  pub attribute_means : (r : UnitReader) (table : StringTable) → table ≡ names_in r
      → MayMake r attribute_shape → MakesValid attribute_shape
      → MeansAttribute table prefix name scalars
  attribute_means r table same (made, is, (more, found, fits)) makes =
      let it = parts_made made is in
      let here = subst (λ (m : Node). items_of (names_in r) m ≡ Some more) it.is found in
      let there =
      subst
      (λ (t : StringTable).
      items_of t (nodes.Attribute prefix name (values.List it.raws)) ≡ Some more) (sym same) here in
      let local = bound_some _ (name_text table name) more there in
      let value = mapped_some _ _ more local.2 in
      let said = mapped_some said_values.List _ value.0 value.1 in
      let valid = subst (λ (m : Node). is_valid_node m ≡ true) it.is (makes made is) in
      record {
        prefix_is_text = it.prefix_is_text;
        named = record { text = local.0; is_text = it.name_is_so; means = local.1 };
        values =
            record {
              raws = it.raws;
              said = said.0;
              judged = it.judged;
              means = said.1;
              valid =
                  (and_parts (are_valid_names prefix name) (list_all is_valid_raw it.raws) valid).1;
            };
      }

  -- and what is said of it
  attribute_said : (r : UnitReader) (table : StringTable) → table ≡ names_in r
      → MeansAttribute table prefix name scalars → (meant : Meant)
      → SaysAttribute table prefix name scalars meant → IsSaid r attribute_shape meant
  unfolding contents
  attribute_said r table same means meant (raws, judged, found) = record {
    made = nodes.Attribute prefix name (values.List raws);
    is =
        attribute_made (is_utf8 prefix) (name_is_text name) (list_all scalar_is_text scalars)
        (each scalar_value scalars) prefix name raws means.prefix_is_text means.named.is_text
        judged;
    means =
        subst
        (λ (t : StringTable).
        items_of t (nodes.Attribute prefix name (values.List raws)) ≡ Some (items_in meant)) same
        found;
  }

  pub attribute_all_said : (r : UnitReader) (table : StringTable) → table ≡ names_in r
      → MeansAttribute table prefix name scalars → (result : Result Meant Memory)
      → IfOk result (SaysAttribute table prefix name scalars)
      → IfOk result (IsSaid r attribute_shape)
  attribute_all_said r table same means (Ok meant) h = attribute_said r table same means meant h
  attribute_all_said r table same means (Err memory) h = tt

  -- what is made of its parts
  pub parts_said : (table : StringTable) (text local : List ℕ) (found : List Scalar)
      → text ≡ prefix → name_text table name ≡ Some local → SaysValues table scalars found
      → SaysAttribute table prefix name scalars
      (meants.Item (items.Attr text local (said_values.List found)))
  parts_said table text local found same named (raws, judged, each_is) =
      (raws, judged, rw named (rw each_is (rw same refl)))

-- the record of such a text
pub list_part : (part : RecordPart) (value : ValuePart) (ends : Bool) (list : Bor (List ℕ))
    → part ≡ records.Text value ends → value ≡ ListAt list
    → record_seen part ≡ has_text (several (listed list.now)) ends
list_part part value ends list is of =
    ap record_seen is ∙ ap (λ v. has_text (value_seen v) ends) of

-- and of such an attribute
pub attribute_part : (part : RecordPart) (attribute : AttributePart) (prefix : PrefixPart)
    (name : NamePart) (value : ValuePart) (list : Bor (List ℕ))
    → part ≡ records.Attribute attribute → attribute ≡ AttributeAt prefix name value
    → value ≡ ListAt list
    → record_seen part
    ≡ adds (attributes (prefix_seen prefix) (name_seen name) (several (listed list.now)))
attribute_part part attribute prefix name value list is of here =
    ap record_seen is ∙ ap (λ a. adds (attribute_seen a)) of
    ∙ ap (λ v. adds (attributes (prefix_seen prefix) (name_seen name) (value_seen v))) here
