-- A record that is read is one that stands there, and the other way round.
use Rattle.std.proofs.Common.{◌≡◌, ℕ, Bool, true, false, not, ◌&&◌, ◌||◌, List, [], ◌∷◌, ◌++◌}
use Rattle.std.proofs.Common.{length, if◌then◌else◌, Some, None, Ok, Err, Option, ok_or, option_map}
use Rattle.std.proofs.Common.{sym, refl, ap, ◌∙◌, subst, arith, take_all}
use Rattle.std.{proofs.lemmas.Bool.and_from, proofs.lemmas.Bool.and_parts, specs.Str.is_utf8}
use Rattle.unit_streams.proofs.{Spelled.just_judged, Taken.none_goes_on}
use Rattle.unit_streams.specs.{Front.whole, Parts.ReadsJust}
use Rattle.nbfx_records.specs.declared.kinds.{NameForm.NameForm, PrefixForm.PrefixForm}
use Rattle.nbfx_records.specs.declared.kinds.{RecordKind.RecordKind, TextKind.TextKind}
use Rattle.nbfx_records.specs.declared.nodes.{ArrayNode.ArrayNode, Node.Node}
use Rattle.nbfx_records.specs.declared.nodes.{AttrNode.AttrNode, NameRef.NameRef}
use Rattle.nbfx_records.specs.declared.nodes.Node.TheVariants.{Array, Attribute, Comment, Element}
use Rattle.nbfx_records.specs.declared.nodes.Node.TheVariants.{EndElement, Text, Xmlns}
use Rattle.nbfx_records.specs.declared.nodes.{NodePlace.NodePlace, RawValue.RawValue}
use Rattle.nbfx_records.specs.declared.nodes.NodePlace.TheVariants.{AfterRoot, BeforeRoot, Within}
use Rattle.nbfx_records.specs.Contents.{array_of, attribute_node, attribute_value, contents}
use Rattle.nbfx_records.specs.Contents.{is_text, name_is_text, node_of}
use Rattle.nbfx_records.specs.{Kinds.record_kind, Places.Stands, TypeBytes.form_of}
use Rattle.nbfx_records.specs.Laws.{NoRecordGoesOn, RecordsAreRead}
use Rattle.nbfx_records.specs.{RecordAtFront.node_at, Shapes.shape_at}
use Rattle.nbfx_records.specs.Records.{IsArray, IsAttrNode, IsNode}
use Rattle.nbfx_records.specs.Shapes.{adds, AttributeShape, begins_element, comments, ends_element}
use Rattle.nbfx_records.specs.Shapes.{ends_list, is_attribute, misplaced, opens, repeats, Shape}
use Rattle.nbfx_records.proofs.ArrayBytes.{array_back, array_there}
use Rattle.nbfx_records.proofs.AttributeBytes.{element_back, element_there, part_back, part_there}
use Rattle.nbfx_records.proofs.{AttributeBytes.PartIs, KindBytes.byte_is}
use Rattle.nbfx_records.proofs.NameBytes.{string_back, string_there}
use Rattle.nbfx_records.proofs.{PartBytes.just_as, ShapeFronts.node_fronts}
use Rattle.nbfx_records.proofs.ShapeBytes.{IsShape, just_shape, PlacedIs, RecordIs}
use Rattle.nbfx_records.proofs.ValueBytes.{mapped_some, SpellsText, text_back, text_there}
use Rattle.nbfx_records.specs.declared.nodes.AttrNode.TheVariants as attribute_nodes
use Rattle.nbfx_records.specs.declared.nodes.RecordFault.TheVariants as faults
use Rattle.nbfx_records.specs.declared.kinds.RecordKind.TheVariants as records

-- what a whole shape says, by its texts and its values
pub contents_parts : (shape : Shape) (node : Node) → contents shape ≡ Ok node
    → (is_text shape ≡ true) × (node_of shape ≡ Some node)
unfolding contents
contents_parts shape node e = by (is_text shape) (node_of shape) e
  where
    by : (texts : Bool) (found : Option Node)
        → (if texts then ok_or found faults.BadValue else Err faults.BadUtf8) ≡ Ok node
        → (texts ≡ true) × (found ≡ Some node)
    by true (Some n) e = (refl, cc)
    by true None e = cc
    by false found e = cc

contents_from : (shape : Shape) (node : Node) → is_text shape ≡ true → node_of shape ≡ Some node
    → contents shape ≡ Ok node
unfolding contents
contents_from shape node t v = rw (t, v) refl

-- where one that may begin stands
module _ (may deeper : Bool) where
  attribute_may : (form : RecordKind) → is_attribute form ≡ true → misplaced (Within may deeper)
      form ≡ None → may ≡ true
  attribute_may form is e = by may (is_attribute form) (ends_list form) (opens form) is e
    where
      by : (may : Bool) (attributes ends opens : Bool) → attributes ≡ true
          → (if (attributes && not may) || ends then Some faults.OutOfPlace else if opens
          && not deeper then Some faults.TooDeep else None) ≡ None → may ≡ true
      by true attributes ends opens is e = refl
      by false true ends opens is e = cc
      by false false ends opens is e = cc

  may_open : (form : RecordKind) → opens form ≡ true → misplaced (Within may deeper) form ≡ None
      → deeper ≡ true
  may_open form is e = by deeper ((is_attribute form && not may) || ends_list form) (opens form) is
      e
    where
      by : (deeper : Bool) (misplaced opens : Bool) → opens ≡ true
          → (if misplaced then Some faults.OutOfPlace else if opens && not deeper then Some
          faults.TooDeep else None) ≡ None → deeper ≡ true
      by true misplaced opens is e = refl
      by false true opens is e = cc
      by false false true is e = cc
      by false false false is e = cc

-- an attribute or a declaration stands where one may
stands_part : (place : NodePlace) (kind : RecordKind) (node : AttrNode) → is_attribute kind ≡ true
    → misplaced place kind ≡ None → Stands place (attribute_node node)
stands_part BeforeRoot (records.Element form name) node is e = cc
stands_part BeforeRoot _ node is e = cc
stands_part (Within may deeper) kind (attribute_nodes.Attribute prefix name value) is e =
    attribute_may may deeper kind is e
stands_part (Within may deeper) kind (attribute_nodes.Xmlns prefix uri) is e = attribute_may may
    deeper kind is e
stands_part AfterRoot kind node is e = cc

stands_element : (place : NodePlace) (kind : RecordKind) (prefix : List ℕ) (name : NameRef)
    → opens kind ≡ true → misplaced place kind ≡ None → Stands place (Element prefix name)
stands_element BeforeRoot kind prefix name is e = tt
stands_element (Within may deeper) kind prefix name is e = may_open may deeper kind is e
stands_element AfterRoot kind prefix name is e = cc

-- the rest stand within the root
stands_array : (place : NodePlace) (a : ArrayNode) → misplaced place records.Array ≡ None
    → Stands place (Array a)
stands_array BeforeRoot a e = cc
stands_array (Within may deeper) a e = may_open may deeper records.Array refl e
stands_array AfterRoot a e = cc

stands_text : (place : NodePlace) (kind : TextKind) (ends : Bool) (value : RawValue) (closes : Bool)
    → misplaced place (records.Text kind ends) ≡ None → Stands place (Text value closes)
stands_text BeforeRoot kind ends value closes e = cc
stands_text (Within may deeper) kind ends value closes e = tt
stands_text AfterRoot kind ends value closes e = cc

stands_comment : (place : NodePlace) (s : List ℕ) → misplaced place records.Comment ≡ None
    → Stands place (Comment s)
stands_comment BeforeRoot s e = cc
stands_comment (Within may deeper) s e = tt
stands_comment AfterRoot s e = cc

stands_end : (place : NodePlace) → misplaced place records.EndElement ≡ None
    → Stands place EndElement
stands_end BeforeRoot e = cc
stands_end (Within may deeper) e = tt
stands_end AfterRoot e = cc

-- a node of these bytes, which may stand there
abbrev IsAt : NodePlace → List ℕ → Node → Type 0
IsAt place bytes node = IsNode node bytes × Stands place node

text_node : (value : RawValue) (closes : Bool) (bytes : List ℕ) → SpellsText value closes bytes
    → IsNode (Text value closes) bytes
text_node value false bytes h = h
text_node value true bytes h = h

attribute_is : (node : AttrNode) (bytes : List ℕ) → IsAttrNode node bytes
    → IsNode (attribute_node node) bytes
attribute_is (attribute_nodes.Attribute prefix name value) bytes h = h
attribute_is (attribute_nodes.Xmlns prefix uri) bytes h = h

-- what is read behind the type byte of a record
module _ (place : NodePlace) (shape : Shape) (node : Node) (byte : ℕ) (rest bytes : List ℕ)
    (joined : bytes ≡ byte ∷ rest) (t : is_text shape ≡ true) (n : node_of shape ≡ Some node) where
  part_is : (kind : RecordKind) (a : AttributeShape) → record_kind byte ≡ Some kind
      → is_attribute kind ≡ true → misplaced place kind ≡ None → PartIs kind a rest → adds a ≡ shape
      → IsAt place bytes node
  part_is kind a begins is may h same =
      let found = mapped_some attribute_node (attribute_value a) node (ap node_of same ∙ n) in
      subst (IsAt place bytes) found.2 (
        attribute_is found.0 bytes (part_there kind a found.0 byte rest bytes begins joined h
            (ap is_text same ∙ t) found.1),
        stands_part place kind found.0 is may,
      )

  record_there : (kind : RecordKind) → record_kind byte ≡ Some kind → misplaced place kind ≡ None
      → RecordIs kind shape rest → IsAt place bytes node
  record_there records.EndElement begins may h =
      let same : EndElement ≡ node = cc (ap node_of (sym h.0) ∙ n) in
      subst (IsAt place bytes) same (
        joined ∙ ap (λ b. b ∷ rest) (byte_is byte records.EndElement begins).0 ∙ ap (λ c. 1 ∷ c) h.1,
        stands_end place may,
      )
  record_there records.Comment begins may (s, raw, is) =
      let same : Comment s ≡ node = cc (ap node_of is ∙ n) in
      subst (IsAt place bytes) same (
        (
          rest,
          string_there s rest raw (ap is_text is ∙ t),
          joined ∙ ap (λ b. b ∷ rest)
              (byte_is byte records.Comment begins).0,
        ),
        stands_comment place s may,
      )
  record_there records.Array begins may (a, is, same) =
      let found = mapped_some Array (array_of a) node (ap node_of same ∙ n) in
      let head : bytes ≡ 3 ∷ rest = joined ∙ ap (λ b. b ∷ rest)
      (byte_is byte records.Array begins).0 in
      subst (IsAt place bytes) found.2 (
        subst (IsArray found.0) (sym head) (array_there a found.0 rest is (ap is_text same ∙ t)
            found.1),
        stands_array place found.0 may,
      )
  record_there (records.Attribute form name) begins may (a, is, same) = part_is
      (records.Attribute form name) a begins refl may is same
  record_there (records.Declaration form name) begins may (a, is, same) = part_is
      (records.Declaration form name) a begins refl may is same
  record_there (records.Element form name) begins may (it, is, made) =
      let same : Element it.prefix it.name ≡ node = cc (ap node_of made ∙ n) in
      let texts = and_parts (is_utf8 it.prefix) (name_is_text it.name) (ap is_text made ∙ t) in
      subst (IsAt place bytes) same (
        element_there form name it byte rest bytes begins joined is
            texts.0 texts.1,
        stands_element place (records.Element form name) it.prefix it.name refl may,
      )
  record_there (records.Text kind ends) begins may h =
      let real = byte_is byte (records.Text kind ends) begins in
      let found = text_there kind ends shape node byte rest bytes real.0 real.1 joined h t n in
      subst (IsAt place bytes) found.2 (
        text_node found.0 found.1 bytes found.3,
        stands_text place
            kind ends found.0 found.1 may,
      )

placed_there : (place : NodePlace) (shape : Shape) (node : Node) (byte : ℕ) (rest bytes : List ℕ)
    → bytes ≡ byte ∷ rest → is_text shape ≡ true → node_of shape ≡ Some node
    → (k : Option RecordKind) → record_kind byte ≡ k → PlacedIs place k shape rest
    → IsAt place bytes node
placed_there place shape node byte rest bytes joined t n None e h = absurd h
placed_there place shape node byte rest bytes joined t n (Some kind) e h = record_there place shape
    node byte rest bytes joined t n kind e h.0 h.1

node_there : (place : NodePlace) (shape : Shape) (node : Node) (bytes : List ℕ)
    → IsShape place shape bytes → contents shape ≡ Ok node → IsAt place bytes node
node_there place shape node bytes is e =
    let parts = contents_parts shape node e in
    placed_there place shape node is.byte is.rest bytes is.joined parts.0 parts.1
    (record_kind is.byte) refl is.behind

-- a record of a kind that may come there, as it is read
record IsReadNode (place : NodePlace) (node : Node) (bytes : List ℕ) : Type 0 where
  shape : Shape
  is : IsShape place shape bytes
  says : contents shape ≡ Ok node

module _ (place : NodePlace) (node : Node) (byte : ℕ) (rest bytes : List ℕ)
    (joined : bytes ≡ byte ∷ rest) where
  read_by : (kind : RecordKind) (shape : Shape) → record_kind byte ≡ Some kind → misplaced place
      kind ≡ None → RecordIs kind shape rest → is_text shape ≡ true → node_of shape ≡ Some node
      → IsReadNode place node bytes
  read_by kind shape begins may is t n = record {
    shape = shape;
    is = record {
      byte = byte;
      rest = rest;
      joined = joined;
      behind = subst
          (λ (k : Option RecordKind). PlacedIs place k shape rest) (sym begins) (may, is);
    };
    says = contents_from shape node t n;
  }

-- where a node stands its record may begin
part_may : (place : NodePlace) (kind : RecordKind) (node : AttrNode) (rest : List ℕ)
    (shape : AttributeShape) → PartIs kind shape rest → Stands place (attribute_node node)
    → misplaced place kind ≡ None
part_may BeforeRoot kind (attribute_nodes.Attribute prefix name value) rest shape is h = absurd h
part_may BeforeRoot kind (attribute_nodes.Xmlns prefix uri) rest shape is h = absurd h
part_may (Within may deeper) (records.Attribute form name) (attribute_nodes.Attribute p n v) rest
    shape is h = rw h refl
part_may (Within may deeper) (records.Attribute form name) (attribute_nodes.Xmlns p n) rest shape is
    h = rw h refl
part_may (Within may deeper) (records.Declaration form name) (attribute_nodes.Attribute p n v) rest
    shape is h = rw h refl
part_may (Within may deeper) (records.Declaration form name) (attribute_nodes.Xmlns p n) rest shape
    is h = rw h refl
part_may (Within may deeper) _ node rest shape is h = absurd is
part_may AfterRoot kind (attribute_nodes.Attribute prefix name value) rest shape is h = absurd h
part_may AfterRoot kind (attribute_nodes.Xmlns prefix uri) rest shape is h = absurd h

element_may : (place : NodePlace) (form : PrefixForm) (name_form : NameForm) (prefix : List ℕ)
    (name : NameRef) → Stands place (Element prefix name) → misplaced place
    (records.Element form name_form) ≡ None
element_may BeforeRoot form name_form prefix name h = refl
element_may (Within may deeper) form name_form prefix name h = rw h refl
element_may AfterRoot form name_form prefix name h = absurd h

array_may : (place : NodePlace) (a : ArrayNode) → Stands place (Array a) → misplaced place
    records.Array ≡ None
array_may BeforeRoot a h = absurd h
array_may (Within may deeper) a h = rw h refl
array_may AfterRoot a h = absurd h

text_may : (place : NodePlace) (kind : TextKind) (closes : Bool) (value : RawValue) (ends : Bool)
    → ends_list (records.Text kind closes) ≡ false → Stands place (Text value ends)
    → misplaced place (records.Text kind closes) ≡ None
text_may BeforeRoot kind closes value ends plain h = absurd h
text_may (Within may deeper) kind closes value ends plain h = rw plain refl
text_may AfterRoot kind closes value ends plain h = absurd h

comment_may : (place : NodePlace) (s : List ℕ) → Stands place (Comment s) → misplaced place
    records.Comment ≡ None
comment_may BeforeRoot s h = absurd h
comment_may (Within may deeper) s h = refl
comment_may AfterRoot s h = absurd h

end_may : (place : NodePlace) → Stands place EndElement → misplaced place records.EndElement ≡ None
end_may BeforeRoot h = absurd h
end_may (Within may deeper) h = refl
end_may AfterRoot h = absurd h

end_begins : record_kind 1 ≡ Some records.EndElement
unfolding record_kind
end_begins = refl

comment_begins : record_kind 2 ≡ Some records.Comment
unfolding record_kind
comment_begins = refl

array_begins : record_kind 3 ≡ Some records.Array
unfolding record_kind
array_begins = refl

part_record : (kind : RecordKind) (shape : AttributeShape) (rest : List ℕ) → PartIs kind shape rest
    → RecordIs kind (adds shape) rest
part_record (records.Attribute form name) shape rest h = (shape, h, refl)
part_record (records.Declaration form name) shape rest h = (shape, h, refl)
part_record _ shape rest h = absurd h

read_part : (place : NodePlace) (node : AttrNode) (bytes : List ℕ) → IsAttrNode node bytes
    → Stands place (attribute_node node) → IsReadNode place (attribute_node node) bytes
read_part place node bytes h stands =
    let it = part_back node bytes h in
    read_by place (attribute_node node) it.byte it.rest bytes it.joined it.kind (adds it.shape)
    it.begins (part_may place it.kind node it.rest it.shape it.is stands)
    (part_record it.kind it.shape it.rest it.is) it.is_text (ap (option_map attribute_node) it.says)

read_text : (place : NodePlace) (value : RawValue) (ends : Bool) (bytes : List ℕ) → SpellsText value
    ends bytes → Stands place (Text value ends) → IsReadNode place (Text value ends) bytes
read_text place value ends bytes h stands =
    let it = text_back value ends bytes h in
    read_by place (Text value ends) it.byte it.rest bytes it.joined (records.Text it.kind it.closes)
    it.shape it.begins (text_may place it.kind it.closes value ends it.no_end stands) it.is
    it.is_text it.says

node_back : (place : NodePlace) (node : Node) (bytes : List ℕ) → IsNode node bytes
    → Stands place node → IsReadNode place node bytes
node_back place EndElement bytes h stands = read_by place EndElement 1 [] bytes h records.EndElement
    ends_element end_begins (end_may place stands) (refl, refl) refl refl
node_back place (Comment s) bytes (string, is, joined) stands =
    let it = string_back s string is in
    read_by place (Comment s) 2 string bytes joined records.Comment (comments s) comment_begins
    (comment_may place s stands) (s, it.0, refl) it.1 refl
node_back place (Array a) bytes h stands =
    let it = array_back a bytes h in
    read_by place (Array a) 3 it.rest bytes it.joined records.Array (repeats it.shape) array_begins
    (array_may place a stands) (it.shape, it.is, refl) it.is_text (ap (option_map Array) it.says)
node_back place (Attribute prefix name value) bytes h stands = read_part place
    (attribute_nodes.Attribute prefix name value) bytes h stands
node_back place (Xmlns prefix uri) bytes h stands = read_part place
    (attribute_nodes.Xmlns prefix uri) bytes h stands
node_back place (Element prefix name) bytes h stands =
    let it = element_back prefix name bytes h in
    read_by place (Element prefix name) it.byte it.rest bytes it.joined
    (records.Element it.form (form_of name)) (begins_element prefix name) it.begins
    (element_may place it.form (form_of name) prefix name stands)
    (record { prefix = prefix; name = name }, it.is, refl)
    (and_from (is_utf8 prefix) (name_is_text name) it.prefix_is_text it.name_is_text) refl
node_back place (Text value false) bytes h stands = read_text place value false bytes h stands
node_back place (Text value true) bytes h stands = read_text place value true bytes h stands

-- the record at the front is the one that bytes there are
pub just_node : (place : NodePlace) → ReadsJust (node_at place) (λ node bytes. IsNode node bytes
    × Stands place node)
unfolding node_at
just_node place =
    just_as (node_at place) (λ node b. (shape : Shape) × IsShape place shape b
    × (contents shape ≡ Ok node)) (λ node bytes. IsNode node bytes × Stands place node)
    (just_judged contents (shape_at place) (IsShape place) (just_shape place))
    (λ node b h. node_there place h.0 node b h.1 h.2)
    (λ node b h. let it = node_back place node b h.0 h.1 in (it.shape, it.is, it.says))

pub records_are_read : RecordsAreRead
records_are_read place bytes node n = (
  λ e. let h = (just_node place bytes node n).0 e in (h.0, h.1.0, h.1.1),
  λ h. (just_node place bytes node n).1 (h.0, (h.1, h.2)),
)

-- all of some bytes
pub read_of_all : (place : NodePlace) (node : Node) (bytes : List ℕ) → IsNode node bytes
    → Stands place node → node_at place bytes ≡ whole node (length bytes)
read_of_all place node bytes is stands =
    (records_are_read place bytes node (length bytes)).1 (
      omega arith,
      subst (IsNode node) (sym (take_all (length bytes) bytes (omega arith))) is,
      stands,
    )

-- where an attribute may stand and an element may be opened, any node may stand
stands_within : (node : Node) → Stands (Within true true) node
stands_within EndElement = tt
stands_within (Comment s) = tt
stands_within (Array a) = refl
stands_within (Attribute prefix name value) = refl
stands_within (Xmlns prefix uri) = refl
stands_within (Element prefix name) = refl
stands_within (Text value ends) = tt

pub no_record_goes_on : NoRecordGoesOn
no_record_goes_on one other bytes more is_one is_other =
    let place = Within true true in
    none_goes_on (node_at place) (node_fronts place) bytes more one other
    (read_of_all place one bytes is_one (stands_within one))
    (read_of_all place other (bytes ++ more) is_other (stands_within other))
