-- What is counted of what a record means.
use Rattle.std.proofs.Common.{◌≡◌, ℕ, ◌+◌, Bool, true, false, ◌&&◌, List, [], ◌∷◌, ◌++◌, length}
use Rattle.std.proofs.Common.{IsErrAnd, Some, None, Ok, Err, sum_by, Option, Result, option_map}
use Rattle.std.proofs.Common.{option_and_then, sym, refl, ap, ◌∙◌, subst, append-nil, arith}
use Rattle.std.proofs.lemmas.{List.Sums.sum_by-append, Result.err_from_is_err_and}
use Rattle.{std.specs.List.list_all, string_tables.specs.StringTable.StringTable}
use Rattle.nbfx_values.specs.declared.{content.ArrayItem.ArrayItem, scalars.Scalar.Scalar}
use Rattle.nbfx_values.specs.Measures.{array_content, attribute_content, capped, content_of}
use Rattle.nbfx_values.specs.Measures.{scalar_content, value_content}
use Rattle.nbfx_records.proofs.JudgedFacts.{all_judged, judged_more, unmade}
use Rattle.nbfx_records.specs.declared.nodes.{ArrayNode.ArrayNode, NameRef.NameRef}
use Rattle.nbfx_records.specs.declared.nodes.{AttrNode.AttrNode, NodeFault.NodeFault}
use Rattle.nbfx_records.specs.declared.nodes.NodeFault.TheVariants.{Memory, Record}
use Rattle.nbfx_records.specs.declared.nodes.{RawValue.RawValue, RecordFault.RecordFault}
use Rattle.nbfx_records.specs.Contents.{array_of, attribute_is_text, attribute_node}
use Rattle.nbfx_records.specs.Contents.{attribute_value, attributes_judged, behind_texts}
use Rattle.nbfx_records.specs.Contents.{cell_values, each, judge, led}
use Rattle.nbfx_records.specs.{Judged.Made, Judged.Makes, Meaning.with_both, Shapes.ArrayShape}
use Rattle.nbfx_records.specs.Meaning.{array_with, meant_array, meant_part, meant_value, name_text}
use Rattle.nbfx_decoder.specs.Measuring.{Measured, Measures, sum_of, weigh_array, weigh_node}
use Rattle.nbfx_decoder.specs.Measuring.{weigh_part, weigh_parts, weigh_value, weighed}
use Rattle.nbfx_values.specs.declared.content.AttrItem.TheVariants as attributes
use Rattle.nbfx_values.specs.declared.content.Item.TheVariants as items
use Rattle.nbfx_records.specs.declared.nodes.AttrNode.TheVariants as attribute_nodes
use Rattle.nbfx_records.specs.declared.nodes.Node.TheVariants as nodes
use Rattle.nbfx_records.specs.declared.nodes.RecordFault.TheVariants as faults

-- counts that stand still at the last number of 64 bits
capped_sum : (m n k : ℕ) → k ≡ m + n → capped (capped m + capped n) ≡ capped k
capped_sum m n k e = omega (arith, e)

-- what is meant otherwise counts the same
pub weighed-map : {A B : Type 0} (c : B → ℕ) (f : A → B) (o : Option A) → weighed c (option_map f o)
    ≡ weighed (λ a. c (f a)) o
weighed-map c f None = refl
weighed-map c f (Some a) = refl

pub weighed-same : {A B : Type 0} (c : A → ℕ) (d : B → ℕ) (f : A → B) → ((a : A) → d (f a) ≡ c a)
    → (o : Option A) → weighed c o ≡ weighed d (option_map f o)
weighed-same c d f same None = refl
weighed-same c d f same (Some a) = ap (λ n. Some (capped n)) (sym (same a))

with_same : {A B C D : Type 0} (c : C → ℕ) (d : D → ℕ) (make : A → B → C) (other : A → B → D)
    → ((a : A) (b : B) → d (other a b) ≡ c (make a b)) → (o : Option A) (p : Option B)
    → weighed d (with_both other o p) ≡ weighed c (with_both make o p)
with_same c d make other same None p = refl
with_same c d make other same (Some a) None = refl
with_same c d make other same (Some a) (Some b) = ap (λ n. Some (capped n)) (same a b)

-- one that is meant, and a part of so many
pub sum_behind : {A : Type 0} (p : ℕ) (c d : A → ℕ) → ((a : A) → d a ≡ c a + p) → (o : Option A)
    → sum_of (weighed c o) (Some (capped p)) ≡ weighed d o
sum_behind p c d same None = refl
sum_behind p c d same (Some a) = ap Some (capped_sum (c a) p _ (same a))

-- two that are meant
pub sum_both : {A B C : Type 0} (c : A → ℕ) (d : B → ℕ) (e : C → ℕ) (make : A → B → C)
    → ((a : A) (b : B) → e (make a b) ≡ c a + d b) → (o : Option A) (p : Option B)
    → sum_of (weighed c o) (weighed d p) ≡ weighed e (with_both make o p)
sum_both c d e make same None p = refl
sum_both c d e make same (Some a) None = refl
sum_both c d e make same (Some a) (Some b) = ap Some (capped_sum (c a) (d b) _ (same a b))

-- one more of a list
module _ {A B : Type 0} (f : A → Option B) where
  each_both : (xs : List A) (x : A) → each f (xs ++ x ∷ []) ≡ with_both (λ ys y. ys ++ y ∷ [])
      (each f xs) (f x)
  each_both [] x = by (f x)
    where
      by : (o : Option B) → option_and_then (λ y. option_map (λ ys. y ∷ ys) (Some [])) o
          ≡ option_map (λ y. [] ++ y ∷ []) o
      by None = refl
      by (Some y) = refl
  each_both (w ∷ xs) x = ap (λ o. option_and_then (λ y. option_map (λ ys. y ∷ ys) o) (f w))
      (each_both xs x) ∙ by (f w) (each f xs) (f x)
    where
      by : (first : Option B) (others : Option (List B)) (last : Option B) → option_and_then
          (λ y. option_map (λ ys. y ∷ ys) (with_both (λ ys y. ys ++ y ∷ []) others last)) first
          ≡ with_both (λ ys y. ys ++ y ∷ [])
          (option_and_then (λ y. option_map (λ ys. y ∷ ys) others) first) last
      by None others last = refl
      by (Some y) None last = refl
      by (Some y) (Some ys) None = refl
      by (Some y) (Some ys) (Some z) = refl

  sum_more : (c : B → ℕ) (xs : List A) (x : A) → sum_of (weighed (sum_by c) (each f xs))
      (weighed c (f x)) ≡ weighed (sum_by c) (each f (xs ++ x ∷ []))
  sum_more c xs x =
      sum_both (sum_by c) c (sum_by c) (λ ys y. ys ++ y ∷ [])
      (λ ys y. let e = sum_by-append c ys (y ∷ []) in omega (arith, e)) (each f xs) (f x) ∙
      ap (weighed (sum_by c)) (sym (each_both xs x))

led_none : {B : Type 0} (r : Result (List B) RecordFault) → r ≡ led [] r
led_none (Ok items) = refl
led_none (Err fault) = refl

-- a fault is the same, however much would be counted
pub unmeasured : {A : Type 0} (judged : Result A RecordFault) (weigh : A → Option ℕ)
    (unfit : NodeFault) → Made {X = A} (Err unfit) judged → Measured judged weigh (Err unfit)
unmeasured judged weigh (Record fault) e = e
unmeasured judged weigh Memory e = tt

pub unmade_so : {A : Type 0} (judged : Result A RecordFault) (weigh : A → Option ℕ)
    (unfit : NodeFault) → Measured judged weigh (Err unfit) → Makes {X = A} (Err unfit) judged
unmade_so judged weigh (Record fault) e = record { made = e }
unmade_so judged weigh Memory e = record { made = tt }

-- what a `?` hands on
pub leaves : {A : Type 0} {judged : Result A RecordFault} {weigh : A → Option ℕ} (unfit : NodeFault)
    {r : Result (Option ℕ) NodeFault} → IsErrAnd r (λ y. y ≡ unfit) → Measured judged weigh
    (Err unfit) → Measures judged weigh r
leaves {A} {judged} {weigh} unfit {r} e h =
    let p = err_from_is_err_and r e in
    record {
      told = subst (λ (q : Result (Option ℕ) NodeFault). Measured judged weigh q)
          (ap Err (sym p.2) ∙ sym p.1) h;
    }

-- some things, counted one by one: so much, of those before the others
pub record AreWeighed {A B C : Type 0} (texts : A → Bool) (value : A → Option B) (f : B → Option C)
    (c : C → ℕ) (all rest : List A) (content : Option ℕ) : Type 0 where
  pub made : List B
  pub same : all_judged texts value all ≡ led made (all_judged texts value rest)
  pub counts : content ≡ weighed (sum_by c) (each f made)

module _ {A B C : Type 0} (texts : A → Bool) (value : A → Option B) (f : B → Option C) (c : C → ℕ)
    (all : List A) where
  abbrev So : List A → Option ℕ → Type 0
  So = AreWeighed texts value f c all

  pub none_yet : So all (Some 0)
  none_yet = record { made = []; same = led_none (all_judged texts value all); counts = refl }

  module _ (here : List A) (content : Option ℕ) (w : So here content) where
    pub one_more : (a : A) (rest : List A) → here ≡ a ∷ rest → (b : B)
        → behind_texts (list_all texts rest) (judge (texts a) (value a)) ≡ Ok b
        → (more new : Option ℕ) → more ≡ weighed c (f b) → new ≡ sum_of content more
        → So rest new
    one_more a rest first b e more new more_is new_is = record {
      made = w.made ++ b ∷ [];
      same = judged_more texts value all here a rest w.made w.same first b e;
      counts = new_is ∙ ap (λ n. sum_of n more) w.counts ∙
          ap (sum_of (weighed (sum_by c) (each f w.made))) more_is ∙ sum_more f c w.made b;
    }

    pub one_wrong : (a : A) (rest : List A) → here ≡ a ∷ rest → (unfit : NodeFault)
        → Makes {X = B} (Err unfit) (behind_texts (list_all texts rest) (judge (texts a) (value a)))
        → Measured (all_judged texts value all) (λ bs. weighed (sum_by c) (each f bs)) (Err unfit)
    one_wrong a rest first unfit h = unmeasured (all_judged texts value all)
        (λ bs. weighed (sum_by c) (each f bs)) unfit
        (unmade texts value all here a rest w.made w.same first unfit h).made

    pub all_weighed : here ≡ [] → Measured (all_judged texts value all)
        (λ bs. weighed (sum_by c) (each f bs)) (Ok content)
    all_weighed none = (
      w.made,
      w.same ∙ ap (λ rest. led w.made (all_judged texts value rest)) none
          ∙ ap Ok (append-nil w.made),
      w.counts,
    )

-- what parts say, said otherwise
judged_map : {A B : Type 0} (see : A → B) (texts : Bool) (found : Option A) (a : A)
    → judge texts found ≡ Ok a → judge texts (option_map see found) ≡ Ok (see a)
judged_map see true (Some x) a e = let same : x ≡ a = cc in ap (λ y. Ok (see y)) same
judged_map see true None a e = cc
judged_map see false found a e = cc

unjudged_map : {A B : Type 0} (see : A → B) (texts : Bool) (found : Option A) (fault : RecordFault)
    → judge texts found ≡ Err fault → judge texts (option_map see found) ≡ Err fault
unjudged_map see true (Some x) fault e = cc
unjudged_map see true None fault e = let same : faults.BadValue ≡ fault = cc in ap Err same
unjudged_map see false found fault e = let same : faults.BadUtf8 ≡ fault = cc in ap Err same

pub measured_as : {A B : Type 0} (see : A → B) (texts : Bool) (found : Option A)
    (weigh : A → Option ℕ) (other : B → Option ℕ) → ((a : A) → other (see a) ≡ weigh a)
    → (r : Result (Option ℕ) NodeFault)
    → Measured (judge texts found) weigh r → Measured (judge texts (option_map see found)) other r
measured_as see texts found weigh other same (Ok n) (a, e, counts) =
    (see a, judged_map see texts found a e, counts ∙ sym (same a))
measured_as see texts found weigh other same (Err (Record fault)) e = unjudged_map see texts found
    fault e
measured_as see texts found weigh other same (Err Memory) e = tt

-- what stands behind a prefix and a name
names_wrong : {N A : Type 0} (p n t : Bool) (name : N) (found : Option A) (fault : RecordFault)
    → judge {A = N} (p && n) (Some name) ≡ Err fault → judge (p && (n && t)) found ≡ Err fault
names_wrong true true t name found fault e = cc
names_wrong true false t name found fault e = let same : faults.BadUtf8 ≡ fault = cc in ap Err same
names_wrong false n t name found fault e = let same : faults.BadUtf8 ≡ fault = cc in ap Err same

pub names_unmeasured : {N A : Type 0} (p n t : Bool) (name : N) (found : Option A)
    (weigh : N → Option ℕ) (other : A → Option ℕ) (unfit : NodeFault)
    → Measured (judge {A = N} (p && n) (Some name)) weigh (Err unfit)
    → Measured (judge (p && (n && t)) found) other (Err unfit)
names_unmeasured p n t name found weigh other (Record fault) e = names_wrong p n t name found fault
    e
names_unmeasured p n t name found weigh other Memory e = tt

pub behind_names : {N A : Type 0} (p n t : Bool) (name made : N) (found : Option A)
    → judge (p && n) (Some name) ≡ Ok made → (made ≡ name)
    × (judge (p && (n && t)) found ≡ judge t found)
behind_names true true t name made found e = (let same : name ≡ made = cc in sym same, refl)
behind_names true false t name made found e = cc
behind_names false n t name made found e = cc

module _ (table : StringTable) where
  -- an attribute's names, and its value
  part_weighed : (prefix : List ℕ) (name : NameRef) (raw : RawValue)
      → weigh_part table (attribute_nodes.Attribute prefix name raw)
      ≡ sum_of (weighed (λ local. length prefix + length local) (name_text table name))
      (weigh_value table raw)
  part_weighed prefix name raw =
      sym (sum_both (λ local. length prefix + length local) value_content attribute_content
      (attributes.Attr prefix) (λ local value. refl) (name_text table name) (meant_value table raw))

  module _ (prefix : List ℕ) (name made : NameRef) (p n t : Bool) (found : Option RawValue)
      (e : judge (p && n) (Some name) ≡ Ok made) (names : Option ℕ)
      (named : names ≡ weighed (λ local. length prefix + length local) (name_text table made)) where
    named_here : names ≡ weighed (λ local. length prefix + length local) (name_text table name)
    named_here = named ∙ ap (λ name. weighed (λ local. length prefix + length local)
        (name_text table name)) (behind_names p n t name made found e).0

    judged_here : judge (p && (n && t)) (option_map (attribute_nodes.Attribute prefix name) found)
        ≡ judge t (option_map (attribute_nodes.Attribute prefix name) found)
    judged_here =
        (behind_names p n t name made (option_map (attribute_nodes.Attribute prefix name) found)
        e).1

    pub attribute_measured : (value : Option ℕ) → Measured (judge t found) (weigh_value table)
        (Ok value)
        → Measured
        (judge (p && (n && t)) (option_map (attribute_nodes.Attribute prefix name) found))
        (weigh_part table) (Ok (sum_of names value))
    attribute_measured value (raw, is, counts) = (
      attribute_nodes.Attribute prefix name raw,
      judged_here ∙ judged_map (attribute_nodes.Attribute prefix name) t found raw is,
      ap (λ m. sum_of m value) named_here ∙
          ap (sum_of (weighed (λ local. length prefix + length local) (name_text table name)))
          counts ∙ sym (part_weighed prefix name raw),
    )

    pub value_unmeasured : (unfit : NodeFault) → Measured (judge t found) (weigh_value table)
        (Err unfit)
        → Measured
        (judge (p && (n && t)) (option_map (attribute_nodes.Attribute prefix name) found))
        (weigh_part table) (Err unfit)
    value_unmeasured (Record fault) is = judged_here ∙ unjudged_map
        (attribute_nodes.Attribute prefix name) t found fault is
    value_unmeasured Memory is = tt

  -- a declaration
  pub declaration_weighed : (prefix : List ℕ) (uri : NameRef) → weigh_part table
      (attribute_nodes.Xmlns prefix uri) ≡ weighed (λ local. length prefix + length local)
      (name_text table uri)
  declaration_weighed prefix uri = weighed-map attribute_content (attributes.Xmlns prefix)
      (name_text table uri)

  -- an attribute that is a node
  pub attribute_weighed : (part : AttrNode) → weigh_node table (attribute_node part)
      ≡ weigh_part table part
  attribute_weighed (attribute_nodes.Attribute prefix name raw) =
      with_same attribute_content content_of (attributes.Attr prefix)
      (λ local value. items.Attr prefix local value ∷ []) (λ local value. omega arith)
      (name_text table name) (meant_value table raw)
  attribute_weighed (attribute_nodes.Xmlns prefix uri) =
      sym (weighed-same (λ local. length prefix + length local) content_of
      (λ uri. items.Xmlns prefix uri ∷ []) (λ uri. omega arith) (name_text table uri))
      ∙ sym (declaration_weighed prefix uri)

  -- a text
  pub text_weighed : (ends : Bool) (raw : RawValue) → weigh_node table (nodes.Text raw ends)
      ≡ weigh_value table raw
  text_weighed true raw = sym
      (weighed-same value_content content_of (λ value. items.Text value ∷ items.Close ∷ [])
      (λ value. omega arith) (meant_value table raw))
  text_weighed false raw = sym
      (weighed-same value_content content_of (λ value. items.Text value ∷ []) (λ value. omega arith)
      (meant_value table raw))

  -- a comment
  pub comment_weighed : (text : List ℕ) → weigh_node table (nodes.Comment text)
      ≡ Some (capped (length text))
  comment_weighed text = ap Some (omega arith)

  -- an element
  pub element_weighed : (prefix : List ℕ) (name : NameRef) → weigh_node table
      (nodes.Element prefix name) ≡ weighed (λ local. length prefix + length local)
      (name_text table name)
  element_weighed prefix name = sym (weighed-same (λ local. length prefix + length local) content_of
      (λ local. items.Start prefix local ∷ []) (λ local. omega arith) (name_text table name))

  -- an array's names, attributes and values
  made_array : ArrayShape → List AttrNode → List Scalar → ArrayNode
  made_array a attrs values = record {
    prefix = a.prefix;
    name = a.name;
    attrs = attrs;
    kind =
        a.kind;
    values = values;
  }

  array_weighed : (a : ArrayShape) (attrs : List AttrNode) (values : List Scalar)
      → sum_of (sum_of (weighed (λ local. length a.prefix + length local) (name_text table a.name))
      (weigh_parts table attrs)) (Some (capped (sum_by scalar_content values))) ≡ weigh_array table
      (made_array a attrs values)
  unfolding made_array
  array_weighed a attrs values =
      ap (λ o. sum_of o (Some (capped (sum_by scalar_content values))))
      (sum_both (λ (local : List ℕ). length a.prefix + length local) (sum_by attribute_content)
      (λ (item : ArrayItem). length item.prefix + length item.local + sum_by attribute_content
      item.attrs)
      (array_with (made_array a attrs values)) (λ local parts. refl) (name_text table a.name)
      (each (meant_part table) attrs))
      ∙ sum_behind (sum_by scalar_content values) (λ (item : ArrayItem). length item.prefix
      + length item.local + sum_by attribute_content item.attrs)
      (λ (item : ArrayItem). length item.prefix + length item.local + sum_by attribute_content
      item.attrs + sum_by scalar_content values) (λ item. refl)
      (meant_array table (made_array a attrs values))
      ∙ with_same array_content (λ (item : ArrayItem). length item.prefix + length item.local
      + sum_by attribute_content item.attrs + sum_by scalar_content values)
      (array_with (made_array a attrs values)) (array_with (made_array a attrs values))
      (λ local parts. refl) (name_text table a.name) (each (meant_part table) attrs)

  module _ (a : ArrayShape) (p n : Bool) (made : NameRef) (e : judge (p && n) (Some a.name)
      ≡ Ok made) where
    array_here : judge (p && (n && list_all attribute_is_text a.attributes)) (array_of a)
        ≡ judge (list_all attribute_is_text a.attributes) (array_of a)
    array_here = (behind_names p n (list_all attribute_is_text a.attributes) a.name made
        (array_of a) e).1

    no_parts : (t : Bool) (parts : Option (List AttrNode)) (then : List AttrNode → Option ArrayNode)
        (fault : RecordFault) → judge t parts ≡ Err fault → judge t (option_and_then then parts)
        ≡ Err fault
    no_parts true (Some x) then fault h = cc
    no_parts true None then fault h = let same : faults.BadValue ≡ fault = cc in ap Err same
    no_parts false parts then fault h = let same : faults.BadUtf8 ≡ fault = cc in ap Err same

    pub parts_unmeasured : (weigh : List AttrNode → Option ℕ) (unfit : NodeFault)
        → Measured (attributes_judged a.attributes) weigh (Err unfit)
        → Measured (judge (p && (n && list_all attribute_is_text a.attributes)) (array_of a))
        (weigh_array table) (Err unfit)
    parts_unmeasured weigh (Record fault) h = array_here ∙ no_parts
        (list_all attribute_is_text a.attributes) (each attribute_value a.attributes) _ fault h
    parts_unmeasured weigh Memory h = tt

    with_parts : (t : Bool) (parts : Option (List AttrNode)) (attrs : List AttrNode)
        (then : List AttrNode → Option ArrayNode) → judge t parts ≡ Ok attrs
        → judge t (option_and_then then parts) ≡ judge true (then attrs)
    with_parts true (Some x) attrs then h = let same : x
        ≡ attrs = cc in ap (λ y. judge true (then y)) same
    with_parts true None attrs then h = cc
    with_parts false parts attrs then h = cc

    module _ (attrs : List AttrNode) (parts_are : attributes_judged a.attributes ≡ Ok attrs) where
      parts_here : judge (p && (n && list_all attribute_is_text a.attributes)) (array_of a)
          ≡ judge true (option_map (made_array a attrs) (cell_values a.kind a.count a.bytes))
      unfolding made_array
      parts_here = array_here ∙ with_parts (list_all attribute_is_text a.attributes)
          (each attribute_value a.attributes) attrs _ parts_are

      pub cells_unmeasured : (weigh : List Scalar → Option ℕ) (unfit : NodeFault)
          → Measured (judge true (cell_values a.kind a.count a.bytes)) weigh (Err unfit)
          → Measured (judge (p && (n && list_all attribute_is_text a.attributes)) (array_of a))
          (weigh_array table) (Err unfit)
      cells_unmeasured weigh (Record fault) h = parts_here ∙ unjudged_map (made_array a attrs) true
          (cell_values a.kind a.count a.bytes) fault h
      cells_unmeasured weigh Memory h = tt

      pub array_measured : (names parts cells : Option ℕ) → names
          ≡ weighed (λ local. length a.prefix + length local) (name_text table made) → parts
          ≡ weigh_parts table attrs
          → Measured (judge true (cell_values a.kind a.count a.bytes))
          (λ values. Some (capped (sum_by scalar_content values))) (Ok cells)
          → Measured (judge (p && (n && list_all attribute_is_text a.attributes)) (array_of a))
          (weigh_array table) (Ok (sum_of (sum_of names parts) cells))
      array_measured names parts cells named counted (values, is, counts) = (
        made_array a attrs values,
        parts_here ∙ judged_map (made_array a attrs) true (cell_values a.kind a.count a.bytes)
            values is,
        ap (λ m. sum_of (sum_of m parts) cells)
            (named ∙ ap (λ name. weighed (λ local. length a.prefix + length local)
            (name_text table name)) (behind_names p n true a.name made (Some a.name) e).0)
            ∙ ap (λ m. sum_of
            (sum_of (weighed (λ local. length a.prefix + length local) (name_text table a.name)) m)
            cells) counted
            ∙ ap (sum_of
            (sum_of (weighed (λ local. length a.prefix + length local) (name_text table a.name))
            (weigh_parts table attrs))) counts
            ∙ array_weighed a attrs values,
      )

  pub array_node_weighed : (a : ArrayNode) → weigh_node table (nodes.Array a) ≡ weigh_array table a
  array_node_weighed a = sym (weighed-same array_content content_of (λ item. items.Array item ∷ [])
      (λ item. omega arith) (meant_array table a))
