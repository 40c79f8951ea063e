-- Attributes, declarations and elements that are read are those that stand there, and the other way
-- round.
use Rattle.std.proofs.Common.{◌≡◌, ℕ, Bool, true, false, ◌&&◌, List, ◌∷◌, ◌++◌, Some, option_map}
use Rattle.std.proofs.Common.{sym, refl, ap, ◌∙◌, subst, append_assoc}
use Rattle.std.{proofs.lemmas.Bool.and_from, proofs.lemmas.Bool.and_parts, specs.Str.is_utf8}
use Rattle.nbfx_records.specs.declared.kinds.{NameForm.NameForm, PrefixForm.PrefixForm}
use Rattle.nbfx_records.specs.declared.kinds.NameForm.TheVariants.{Identified, Inlined}
use Rattle.nbfx_records.specs.declared.kinds.PrefixForm.TheVariants.{Lettered, Prefixed, Unprefixed}
use Rattle.nbfx_records.specs.declared.{kinds.RecordKind.RecordKind, nodes.AttrNode.AttrNode}
use Rattle.nbfx_records.specs.declared.nodes.NameRef.{NameRef, TheVariants.Id, TheVariants.Inline}
use Rattle.nbfx_records.specs.Contents.{attribute_is_text, attribute_value, name_is_text}
use Rattle.nbfx_records.specs.Contents.{shape_value, value_is_text}
use Rattle.nbfx_records.specs.{Kinds.record_kind, Records.IsElementHead}
use Rattle.nbfx_records.specs.Records.{IsAttributeHead, IsAttrNode, IsDeclarationHead, IsElement}
use Rattle.nbfx_records.specs.Shapes.{attributes, AttributeShape, declares, named_shape, NamedShape}
use Rattle.nbfx_records.specs.TypeBytes.{byte_of, form_of, is_kind}
use Rattle.nbfx_records.proofs.KindBytes.{byte_is, kind_of_byte}
use Rattle.nbfx_records.proofs.NameBytes.{head_back, head_byte, head_only_back, head_only_there}
use Rattle.nbfx_records.proofs.NameBytes.{head_there, is_form, IsReadHead, name_back, name_there}
use Rattle.nbfx_records.proofs.PartBytes.{NameIs, PrefixIs}
use Rattle.nbfx_records.proofs.ShapeBytes.{AttributeIs, DeclarationIs, ElementIs}
use Rattle.nbfx_records.proofs.ValueBytes.{mapped_some, value_back, value_there}
use Rattle.nbfx_records.specs.declared.nodes.AttrNode.TheVariants as attribute_nodes
use Rattle.nbfx_records.specs.declared.kinds.RecordKind.TheVariants as records

-- a prefix that is read of these bytes, behind the type byte of a record of a family
pub record IsBegun (family : PrefixForm → RecordKind) (prefix bytes : List ℕ) : Type 0 where
  pub form : PrefixForm
  pub byte : ℕ
  pub rest : List ℕ
  pub joined : bytes ≡ byte ∷ rest
  pub begins : record_kind byte ≡ Some (family form)
  pub is : PrefixIs form prefix rest
  pub is_text : is_utf8 prefix ≡ true

begun_by : (family : PrefixForm → RecordKind) (plain with_string with_letter : ℕ)
    (prefix bytes : List ℕ) (letters : Bool) (it : IsReadHead letters plain with_string with_letter
    prefix bytes)
    → byte_of (family it.form) ≡ head_byte plain with_string with_letter it.form
    → is_kind (family it.form) ≡ is_form letters it.form → IsBegun family prefix bytes
begun_by family plain with_string with_letter prefix bytes letters it byte real = record {
  form = it.form;
  byte = head_byte plain with_string with_letter it.form;
  rest = it.rest;
  joined = it.joined;
  begins = ap record_kind (sym byte) ∙ kind_of_byte (family it.form) (real ∙ it.real);
  is = it.is;
  is_text = it.is_text;
}

-- the head of an attribute
attribute_byte : (form : PrefixForm)
    → (byte_of (records.Attribute form Inlined) ≡ head_byte 0x04 0x05 0x26 form)
    × (byte_of (records.Attribute form Identified) ≡ head_byte 0x06 0x07 0x0c form)
attribute_byte Unprefixed = (refl, refl)
attribute_byte (Lettered n) = (refl, refl)
attribute_byte Prefixed = (refl, refl)

pub attribute_form : (form : PrefixForm) (name : NameForm) → is_kind (records.Attribute form name)
    ≡ is_form true form
attribute_form Unprefixed name = refl
attribute_form (Lettered n) name = refl
attribute_form Prefixed name = refl

pub attribute_head_there : (form : PrefixForm) (name_form : NameForm) (name : NameRef)
    (prefix : List ℕ) (byte : ℕ) (bytes name_bytes : List ℕ) → record_kind byte
    ≡ Some (records.Attribute form name_form) → NameIs name_form name name_bytes
    → PrefixIs form prefix bytes → is_utf8 prefix ≡ true → IsAttributeHead prefix name
    (byte ∷ bytes)
attribute_head_there form Inlined (Inline s) prefix byte bytes name_bytes e n p t =
    let is = byte_is byte (records.Attribute form Inlined) e in head_there 0x04 0x05 0x26 form
    prefix byte bytes (is.0 ∙ (attribute_byte form).0) (sym (attribute_form form Inlined) ∙ is.1) p
    t
attribute_head_there form Identified (Id id) prefix byte bytes name_bytes e n p t =
    let is = byte_is byte (records.Attribute form Identified) e in head_there 0x06 0x07 0x0c form
    prefix byte bytes (is.0 ∙ (attribute_byte form).1) (sym (attribute_form form Identified) ∙ is.1)
    p t
attribute_head_there form Inlined (Id id) prefix byte bytes name_bytes e n p t = absurd n
attribute_head_there form Identified (Inline s) prefix byte bytes name_bytes e n p t = absurd n

pub attribute_head_back : (prefix : List ℕ) (name : NameRef) (bytes : List ℕ) → IsAttributeHead
    prefix name bytes → IsBegun (λ form. records.Attribute form (form_of name)) prefix bytes
attribute_head_back prefix (Inline s) bytes h =
    let it = head_back 0x04 0x05 0x26 prefix bytes h in
    begun_by (λ form. records.Attribute form Inlined) 0x04 0x05 0x26 prefix bytes true it
    (attribute_byte it.form).0 (attribute_form it.form Inlined)
attribute_head_back prefix (Id id) bytes h =
    let it = head_back 0x06 0x07 0x0c prefix bytes h in
    begun_by (λ form. records.Attribute form Identified) 0x06 0x07 0x0c prefix bytes true it
    (attribute_byte it.form).1 (attribute_form it.form Identified)

-- the head of an element
element_byte : (form : PrefixForm)
    → (byte_of (records.Element form Inlined) ≡ head_byte 0x40 0x41 0x5e form)
    × (byte_of (records.Element form Identified) ≡ head_byte 0x42 0x43 0x44 form)
element_byte Unprefixed = (refl, refl)
element_byte (Lettered n) = (refl, refl)
element_byte Prefixed = (refl, refl)

pub element_form : (form : PrefixForm) (name : NameForm) → is_kind (records.Element form name)
    ≡ is_form true form
element_form Unprefixed name = refl
element_form (Lettered n) name = refl
element_form Prefixed name = refl

pub element_head_there : (form : PrefixForm) (name_form : NameForm) (name : NameRef)
    (prefix : List ℕ) (byte : ℕ) (bytes name_bytes : List ℕ) → record_kind byte
    ≡ Some (records.Element form name_form) → NameIs name_form name name_bytes
    → PrefixIs form prefix bytes → is_utf8 prefix ≡ true → IsElementHead prefix name (byte ∷ bytes)
element_head_there form Inlined (Inline s) prefix byte bytes name_bytes e n p t =
    let is = byte_is byte (records.Element form Inlined) e in head_there 0x40 0x41 0x5e form prefix
    byte bytes (is.0 ∙ (element_byte form).0) (sym (element_form form Inlined) ∙ is.1) p t
element_head_there form Identified (Id id) prefix byte bytes name_bytes e n p t =
    let is = byte_is byte (records.Element form Identified) e in head_there 0x42 0x43 0x44 form
    prefix byte bytes (is.0 ∙ (element_byte form).1) (sym (element_form form Identified) ∙ is.1) p t
element_head_there form Inlined (Id id) prefix byte bytes name_bytes e n p t = absurd n
element_head_there form Identified (Inline s) prefix byte bytes name_bytes e n p t = absurd n

pub element_head_back : (prefix : List ℕ) (name : NameRef) (bytes : List ℕ) → IsElementHead prefix
    name bytes → IsBegun (λ form. records.Element form (form_of name)) prefix bytes
element_head_back prefix (Inline s) bytes h =
    let it = head_back 0x40 0x41 0x5e prefix bytes h in
    begun_by (λ form. records.Element form Inlined) 0x40 0x41 0x5e prefix bytes true it
    (element_byte it.form).0 (element_form it.form Inlined)
element_head_back prefix (Id id) bytes h =
    let it = head_back 0x42 0x43 0x44 prefix bytes h in
    begun_by (λ form. records.Element form Identified) 0x42 0x43 0x44 prefix bytes true it
    (element_byte it.form).1 (element_form it.form Identified)

-- the head of a declaration
declaration_byte : (form : PrefixForm) → is_form false form ≡ true
    → (byte_of (records.Declaration form Inlined) ≡ head_byte 0x08 0x09 0 form)
    × (byte_of (records.Declaration form Identified) ≡ head_byte 0x0a 0x0b 0 form)
declaration_byte Unprefixed e = (refl, refl)
declaration_byte (Lettered n) e = cc
declaration_byte Prefixed e = (refl, refl)

pub declaration_form : (form : PrefixForm) (name : NameForm)
    → is_kind (records.Declaration form name) ≡ is_form false form
declaration_form Unprefixed name = refl
declaration_form (Lettered n) name = refl
declaration_form Prefixed name = refl

pub declaration_head_there : (form : PrefixForm) (name_form : NameForm) (name : NameRef)
    (prefix : List ℕ) (byte : ℕ) (bytes name_bytes : List ℕ) → record_kind byte
    ≡ Some (records.Declaration form name_form) → NameIs name_form name name_bytes
    → PrefixIs form prefix bytes → is_utf8 prefix ≡ true → IsDeclarationHead prefix name
    (byte ∷ bytes)
declaration_head_there form Inlined (Inline s) prefix byte bytes name_bytes e n p t =
    let is = byte_is byte (records.Declaration form Inlined) e in
    let letterless : is_form false form ≡ true = sym (declaration_form form Inlined) ∙ is.1 in
    head_only_there 0x08 0x09 form prefix byte bytes (is.0 ∙ (declaration_byte form letterless).0)
    letterless p t
declaration_head_there form Identified (Id id) prefix byte bytes name_bytes e n p t =
    let is = byte_is byte (records.Declaration form Identified) e in
    let letterless : is_form false form ≡ true = sym (declaration_form form Identified) ∙ is.1 in
    head_only_there 0x0a 0x0b form prefix byte bytes (is.0 ∙ (declaration_byte form letterless).1)
    letterless p t
declaration_head_there form Inlined (Id id) prefix byte bytes name_bytes e n p t = absurd n
declaration_head_there form Identified (Inline s) prefix byte bytes name_bytes e n p t = absurd n

pub declaration_head_back : (prefix : List ℕ) (name : NameRef) (bytes : List ℕ) → IsDeclarationHead
    prefix name bytes → IsBegun (λ form. records.Declaration form (form_of name)) prefix bytes
declaration_head_back prefix (Inline s) bytes h =
    let it = head_only_back 0x08 0x09 prefix bytes h in
    begun_by (λ form. records.Declaration form Inlined) 0x08 0x09 0 prefix bytes false it
    (declaration_byte it.form it.real).0 (declaration_form it.form Inlined)
declaration_head_back prefix (Id id) bytes h =
    let it = head_only_back 0x0a 0x0b prefix bytes h in
    begun_by (λ form. records.Declaration form Identified) 0x0a 0x0b 0 prefix bytes false it
    (declaration_byte it.form it.real).1 (declaration_form it.form Identified)

-- bytes in three parts
three_parts : (byte : ℕ) (a b c bytes : List ℕ) → bytes ≡ byte ∷ (a ++ (b ++ c)) → bytes
    ≡ (byte ∷ a) ++ b ++ c
three_parts byte a b c bytes e = e ∙ sym (append_assoc (byte ∷ a) b c)

attribute_there : (form : PrefixForm) (name_form : NameForm) (shape : AttributeShape)
    (node : AttrNode) (byte : ℕ) (rest bytes : List ℕ) → record_kind byte
    ≡ Some (records.Attribute form name_form) → bytes ≡ byte ∷ rest
    → AttributeIs form name_form shape rest → attribute_is_text shape ≡ true → attribute_value shape
    ≡ Some node → IsAttrNode node bytes
attribute_there form name_form shape node byte rest bytes begins joined a t v =
    let found = mapped_some (attribute_nodes.Attribute a.prefix a.name) (shape_value a.value) node
    (ap attribute_value a.shape_is ∙ v) in
    let texts = and_parts (is_utf8 a.prefix) (name_is_text a.name && value_is_text a.value)
    (ap attribute_is_text a.shape_is ∙ t) in
    let others = and_parts (name_is_text a.name) (value_is_text a.value) texts.1 in
    subst (λ (n : AttrNode). IsAttrNode n bytes) found.2 (record {
      head = byte ∷ a.prefix_bytes;
      name_bytes = a.name_bytes;
      value_bytes = a.value_bytes;
      is_head = attribute_head_there form name_form a.name a.prefix byte a.prefix_bytes a.name_bytes
          begins a.is_name a.is_prefix texts.0;
      is_name = name_there name_form a.name a.name_bytes a.is_name others.0;
      is_value = value_there a.value found.0 a.value_bytes a.is_value others.1 found.1;
      joined = three_parts byte a.prefix_bytes a.name_bytes a.value_bytes bytes
          (joined ∙ ap (λ c. byte ∷ c) a.joined);
    })

declaration_there : (form : PrefixForm) (name_form : NameForm) (shape : AttributeShape)
    (node : AttrNode) (byte : ℕ) (rest bytes : List ℕ) → record_kind byte
    ≡ Some (records.Declaration form name_form) → bytes ≡ byte ∷ rest
    → DeclarationIs form name_form shape rest → attribute_is_text shape ≡ true → attribute_value
    shape ≡ Some node → IsAttrNode node bytes
declaration_there form name_form shape node byte rest bytes begins joined a t v =
    let found : attribute_nodes.Xmlns a.prefix a.name
    ≡ node = cc (ap attribute_value a.shape_is ∙ v) in
    let texts = and_parts (is_utf8 a.prefix) (name_is_text a.name)
    (ap attribute_is_text a.shape_is ∙ t) in
    subst (λ (n : AttrNode). IsAttrNode n bytes) found (record {
      head = byte ∷ a.prefix_bytes;
      uri_bytes = a.name_bytes;
      is_head = declaration_head_there form name_form a.name a.prefix byte a.prefix_bytes
          a.name_bytes begins a.is_name a.is_prefix texts.0;
      is_uri = name_there name_form a.name a.name_bytes a.is_name texts.1;
      joined = joined ∙ ap (λ c. byte ∷ c) a.joined;
    })

-- behind the type byte of an attribute or a declaration
abbrev pub PartIs : RecordKind → AttributeShape → List ℕ → Type 0
PartIs (records.Attribute form name) shape rest = AttributeIs form name shape rest
PartIs (records.Declaration form name) shape rest = DeclarationIs form name shape rest
PartIs _ shape rest = ⊥

pub part_there : (kind : RecordKind) (shape : AttributeShape) (node : AttrNode) (byte : ℕ)
    (rest bytes : List ℕ) → record_kind byte ≡ Some kind → bytes ≡ byte ∷ rest → PartIs kind shape
    rest
    → attribute_is_text shape ≡ true → attribute_value shape ≡ Some node → IsAttrNode node bytes
part_there (records.Attribute form name) shape node byte rest bytes begins joined is t v =
    attribute_there form name shape node byte rest bytes begins joined is t v
part_there (records.Declaration form name) shape node byte rest bytes begins joined is t v =
    declaration_there form name shape node byte rest bytes begins joined is t v
part_there _ shape node byte rest bytes begins joined is t v = absurd is

-- an attribute or a declaration that is read of these bytes
pub record IsReadPart (node : AttrNode) (bytes : List ℕ) : Type 0 where
  pub kind : RecordKind
  pub byte : ℕ
  pub rest : List ℕ
  pub shape : AttributeShape
  pub joined : bytes ≡ byte ∷ rest
  pub begins : record_kind byte ≡ Some kind
  pub is : PartIs kind shape rest
  pub is_text : attribute_is_text shape ≡ true
  pub says : attribute_value shape ≡ Some node

pub part_back : (node : AttrNode) (bytes : List ℕ) → IsAttrNode node bytes → IsReadPart node bytes
part_back (attribute_nodes.Attribute prefix name value) bytes a =
    let head = attribute_head_back prefix name a.head a.is_head in
    let own = name_back name a.name_bytes a.is_name in
    let it = value_back value a.value_bytes a.is_value in
    record {
      kind = records.Attribute head.form (form_of name);
      byte = head.byte;
      rest = head.rest ++ (a.name_bytes ++ a.value_bytes);
      shape = attributes prefix name it.shape;
      joined = a.joined ∙ append_assoc a.head a.name_bytes a.value_bytes ∙
          ap (λ c. c ++ (a.name_bytes ++ a.value_bytes)) head.joined;
      begins = head.begins;
      is = record {
        prefix = prefix;
        name = name;
        value = it.shape;
        prefix_bytes = head.rest;
        name_bytes = a.name_bytes;
        value_bytes = a.value_bytes;
        is_prefix = head.is;
        is_name = own.0;
        is_value = it.is;
        joined = refl;
        shape_is = refl;
      };
      is_text = and_from (is_utf8 prefix) (name_is_text name && value_is_text it.shape) head.is_text
          (and_from (name_is_text name) (value_is_text it.shape) own.1 it.is_text);
      says = ap (option_map (attribute_nodes.Attribute prefix name)) it.says;
    }
part_back (attribute_nodes.Xmlns prefix uri) bytes a =
    let head = declaration_head_back prefix uri a.head a.is_head in
    let own = name_back uri a.uri_bytes a.is_uri in
    record {
      kind = records.Declaration head.form (form_of uri);
      byte = head.byte;
      rest = head.rest ++ a.uri_bytes;
      shape = declares prefix uri;
      joined = a.joined ∙ ap (λ c. c ++ a.uri_bytes) head.joined;
      begins = head.begins;
      is = record {
        prefix = prefix;
        name = uri;
        prefix_bytes = head.rest;
        name_bytes = a.uri_bytes;
        is_prefix = head.is;
        is_name = own.0;
        joined = refl;
        shape_is = refl;
      };
      is_text = and_from (is_utf8 prefix) (name_is_text uri) head.is_text own.1;
      says = refl;
    }

-- an element, with its type byte
pub element_there : (form : PrefixForm) (name_form : NameForm) (it : NamedShape) (byte : ℕ)
    (rest bytes : List ℕ) → record_kind byte ≡ Some (records.Element form name_form) → bytes ≡ byte
    ∷ rest
    → ElementIs form name_form it rest → is_utf8 it.prefix ≡ true → name_is_text it.name ≡ true
    → IsElement it.prefix it.name bytes
element_there form name_form it byte rest bytes begins joined a p n =
    let prefix_is : a.prefix ≡ it.prefix = ap (λ (s : NamedShape). s.prefix) a.shape_is in
    let name_is : a.name ≡ it.name = ap (λ (s : NamedShape). s.name) a.shape_is in
    subst (λ (s : NamedShape). IsElement s.prefix s.name bytes) a.shape_is (record {
      head = byte ∷ a.prefix_bytes;
      name_bytes = a.name_bytes;
      is_head = element_head_there form name_form a.name a.prefix byte a.prefix_bytes a.name_bytes
          begins a.is_name a.is_prefix (ap is_utf8 prefix_is ∙ p);
      is_name = name_there name_form a.name a.name_bytes a.is_name (ap name_is_text name_is ∙ n);
      joined = joined ∙ ap (λ c. byte ∷ c) a.joined;
    })

-- an element that is read of these bytes
pub record IsReadElement (prefix : List ℕ) (name : NameRef) (bytes : List ℕ) : Type 0 where
  pub form : PrefixForm
  pub byte : ℕ
  pub rest : List ℕ
  pub joined : bytes ≡ byte ∷ rest
  pub begins : record_kind byte ≡ Some (records.Element form (form_of name))
  pub is : ElementIs form (form_of name) (named_shape prefix name) rest
  pub prefix_is_text : is_utf8 prefix ≡ true
  pub name_is_text : name_is_text name ≡ true

pub element_back : (prefix : List ℕ) (name : NameRef) (bytes : List ℕ) → IsElement prefix name bytes
    → IsReadElement prefix name bytes
element_back prefix name bytes a =
    let head = element_head_back prefix name a.head a.is_head in
    let own = name_back name a.name_bytes a.is_name in
    record {
      form = head.form;
      byte = head.byte;
      rest = head.rest ++ a.name_bytes;
      joined = a.joined ∙ ap (λ c. c ++ a.name_bytes) head.joined;
      begins = head.begins;
      is = record {
        prefix = prefix;
        name = name;
        prefix_bytes = head.rest;
        name_bytes =
            a.name_bytes;
        is_prefix = head.is;
        is_name = own.0;
        joined = refl;
        shape_is = refl;
      };
      prefix_is_text = head.is_text;
      name_is_text = own.1;
    }
