-- A text's value that is read, a list too, is one that is spelled there, and the other way round.
use Rattle.std.proofs.Common.{◌≡◌, ℕ, ◌+◌, Bool, true, false, List, [], ◌∷◌, ◌++◌, Some, None}
use Rattle.std.proofs.Common.{Option, option_map, option_and_then, sym, refl, ap, ◌∙◌, subst}
use Rattle.std.proofs.{Common.append_assoc, lemmas.Bool.and_from, lemmas.Bool.and_parts}
use Rattle.std.specs.List.{list_all}
use Rattle.unit_streams.specs.Parts.{AreMany, more, stop}
use Rattle.nbfx_records.specs.declared.kinds.{RecordKind.RecordKind, TextKind.TextKind}
use Rattle.nbfx_records.specs.declared.nodes.Node.{Node, TheVariants.Text}
use Rattle.nbfx_records.specs.declared.nodes.{RawScalar.RawScalar, RawValue.RawValue}
use Rattle.nbfx_records.specs.declared.nodes.RawValue.TheVariants.{List as ListOf, One}
use Rattle.nbfx_records.specs.Contents.{each, is_text, node_of, scalar_is_text, scalar_value}
use Rattle.nbfx_records.specs.Contents.{shape_value, value_is_text}
use Rattle.nbfx_records.specs.{Kinds.record_kind, Records.SpellsValue, Shapes.ValueShape}
use Rattle.nbfx_records.specs.Records.{SpellsAs, SpellScalars, SpellsLast, SpellsList, SpellsScalar}
use Rattle.nbfx_records.specs.Shapes.{ends_list, has_text, one, ScalarShape, several, Shape}
use Rattle.nbfx_records.specs.TypeBytes.{byte_of, is_kind, text_byte}
use Rattle.nbfx_records.proofs.KindBytes.{byte_is, kind_of_byte}
use Rattle.nbfx_records.proofs.PartBytes.{IsTurn, ScalarIs, TurnIs}
use Rattle.nbfx_records.proofs.ScalarBytes.{spelled_back, spelled_there}
use Rattle.nbfx_records.proofs.ScalarParts.{end_is_none, list_is_none}
use Rattle.nbfx_records.proofs.ShapeBytes.{IsValue, TextIs, ValueIs}
use Rattle.nbfx_records.specs.declared.kinds.TextKind.TheVariants as texts
use Rattle.nbfx_records.specs.declared.kinds.RecordKind.TheVariants as records

-- a mapped option that is there
pub mapped_some : {A B : Type 0} (f : A → B) (o : Option A) (y : B) → option_map f o ≡ Some y
    → (x : A) × (o ≡ Some x) × (f x ≡ y)
mapped_some f None y e = cc
mapped_some f (Some x) y e = (x, refl, cc)

-- and one that another follows
pub bound_some : {A B : Type 0} (f : A → Option B) (o : Option A) (y : B) → option_and_then f o
    ≡ Some y → (x : A) × (o ≡ Some x) × (f x ≡ Some y)
bound_some f None y e = cc
bound_some f (Some x) y e = (x, refl, e)

-- a plain text of any kind has a type byte
pub is_plain : (kind : TextKind) → is_kind (records.Text kind false) ≡ true
is_plain texts.Zero = refl
is_plain kind = refl

pub plain_kind : (kind : TextKind) → record_kind (text_byte kind) ≡ Some (records.Text kind false)
plain_kind kind = kind_of_byte (records.Text kind false) (is_plain kind)

-- the byte that ends a list
abbrev pub end_byte : Bool → ℕ
end_byte false = 0xa6
end_byte true = 0xa7

-- a value in a list
pub record IsItem (scalar : ScalarShape) (byte : ℕ) (rest : List ℕ) : Type 0 where
  pub kind : TextKind
  pub byte_is : byte ≡ text_byte kind
  pub is : ScalarIs kind scalar rest

pub item_there : (may_close : Bool) (scalar : ScalarShape) (byte : ℕ) (rest : List ℕ)
    (k : Option RecordKind) → record_kind byte ≡ k → TurnIs may_close k (more scalar) rest
    → IsItem scalar byte rest
item_there may_close scalar byte rest (Some (records.Text texts.EndList false)) e h = cc h.0
item_there may_close scalar byte rest (Some (records.Text texts.EndList true)) e h = cc h.1
item_there may_close scalar byte rest (Some (records.Text kind false)) e h =
    let same : h.0 ≡ scalar = cc h.2 in
    record {
      kind = kind;
      byte_is = (byte_is byte (records.Text kind false) e).0;
      is = subst
          (λ (s : ScalarShape). ScalarIs kind s rest) same h.1;
    }
item_there may_close scalar byte rest None e h = absurd h
item_there may_close scalar byte rest (Some _) e h = absurd h

-- and its end
record IsEnd (may_close ends : Bool) (byte : ℕ) (rest : List ℕ) : Type 0 where
  byte_is : byte ≡ end_byte ends
  nothing : rest ≡ []
  allowed : ends ≡ true → may_close ≡ true

end_there : (may_close ends : Bool) (byte : ℕ) (rest : List ℕ) (k : Option RecordKind)
    → record_kind byte ≡ k → TurnIs may_close k (stop ends) rest → IsEnd may_close ends byte rest
end_there may_close ends byte rest (Some (records.Text texts.EndList false)) e h =
    let same : ends ≡ false = cc h.0 in
    record {
      byte_is = rw same (byte_is byte (records.Text texts.EndList false) e).0;
      nothing = h.1;
      allowed = λ closes. cc;
    }
end_there may_close ends byte rest (Some (records.Text texts.EndList true)) e h =
    let same : ends ≡ true = cc h.1 in
    record {
      byte_is = rw same (byte_is byte (records.Text texts.EndList true) e).0;
      nothing = h.2;
      allowed = λ closes. h.0;
    }
end_there may_close ends byte rest (Some (records.Text kind false)) e h = cc h.2
end_there may_close ends byte rest None e h = absurd h
end_there may_close ends byte rest (Some _) e h = absurd h

-- which is spelled so
own : {scalar : ScalarShape} {byte : ℕ} {rest : List ℕ} → IsItem scalar byte rest
    → (value : RawScalar) → scalar_is_text scalar ≡ true → scalar_value scalar ≡ Some value
    → {bytes : List ℕ} → bytes ≡ byte ∷ rest → SpellsScalar value bytes
own {scalar} {byte} {rest} it value t v joined = record {
  kind = it.kind;
  spelled = subst (λ (b : List ℕ). SpellsAs it.kind value b)
      (ap (λ b. b ∷ rest) (sym it.byte_is) ∙ sym joined)
      (spelled_there it.kind scalar value rest it.is t v);
}

-- the values of a list, and the byte that ends it
record AreItems (may_close ends : Bool) (values : List RawScalar) (bytes : List ℕ) : Type 0 where
  content : List ℕ
  are : SpellScalars values content
  joined : bytes ≡ content ++ end_byte ends ∷ []
  allowed : ends ≡ true → may_close ≡ true

items_there : (may_close ends : Bool) (items : List ScalarShape) (values : List RawScalar)
    (bytes : List ℕ) → AreMany (IsTurn may_close) items ends bytes
    → list_all scalar_is_text items ≡ true → each scalar_value items ≡ Some values
    → AreItems may_close ends values bytes
unfolding AreMany
items_there may_close ends [] values bytes are t v =
    let it = end_there may_close ends are.byte are.rest (record_kind are.byte) refl are.behind in
    let none : [] ≡ values = cc in
    record {
      content = [];
      are = rw (← none) refl;
      joined = are.joined ∙ ap (λ b. b ∷ are.rest) it.byte_is ∙ ap (λ c. end_byte ends ∷ c)
          it.nothing;
      allowed = it.allowed;
    }
items_there may_close ends (scalar ∷ items) values bytes (front, rest, joined, first, others) t v =
    let it = item_there may_close scalar first.byte first.rest (record_kind first.byte) refl
    first.behind in
    let texts = and_parts (scalar_is_text scalar) (list_all scalar_is_text items) t in
    let head = bound_some (λ y. option_map (λ ys. y ∷ ys) (each scalar_value items))
    (scalar_value scalar) values v in
    let tail = mapped_some (λ ys. head.0 ∷ ys) (each scalar_value items) values head.2 in
    let behind = items_there may_close ends items tail.0 rest others texts.1 tail.1 in
    record {
      content = front ++ behind.content;
      are = subst (λ (vs : List RawScalar). SpellScalars vs (front ++ behind.content)) tail.2
          (front, behind.content, refl, own it head.0 texts.0 head.1 first.joined, behind.are);
      joined = joined ∙ ap (λ c. front ++ c) behind.joined ∙ sym
          (append_assoc front behind.content (end_byte ends ∷ []));
      allowed = behind.allowed;
    }

-- a text of any kind but the end of a list is one thing of a list
pub one_turn : (may_close : Bool) (kind : TextKind) (scalar : ScalarShape) (rest : List ℕ)
    → ScalarIs kind scalar rest → TurnIs may_close (Some (records.Text kind false)) (more scalar)
    rest
one_turn may_close texts.EndList scalar rest h = absurd (end_is_none texts.EndList scalar rest h)
one_turn may_close kind scalar rest h = (scalar, h, refl)

-- some things of a list that are read of these bytes
record AreRead (may_close ends : Bool) (values : List RawScalar) (bytes : List ℕ) : Type 0 where
  items : List ScalarShape
  are : AreMany (IsTurn may_close) items ends bytes
  texts : list_all scalar_is_text items ≡ true
  says : each scalar_value items ≡ Some values

end_of : (may_close ends : Bool) → (ends ≡ true → may_close ≡ true) → TurnIs may_close
    (record_kind (end_byte ends)) (stop ends) []
unfolding record_kind
end_of may_close false allowed = (refl, refl)
end_of may_close true allowed = (allowed refl, refl, refl)

items_back : (may_close ends : Bool) (values : List RawScalar) (content : List ℕ)
    → (ends ≡ true → may_close ≡ true) → SpellScalars values content → AreRead may_close ends values
    (content ++ end_byte ends ∷ [])
unfolding AreMany
items_back may_close ends [] content allowed are = record {
  items = [];
  are = record {
    byte = end_byte ends;
    rest = [];
    joined = ap (λ c. c ++ end_byte ends ∷ []) are;
    behind = end_of may_close ends allowed;
  };
  texts = refl;
  says = refl;
}
items_back may_close ends (value ∷ values) content allowed (front, rest, joined, first, others) =
    let it = spelled_back first.kind value front first.spelled in
    let behind = items_back may_close ends values rest allowed others in
    record {
      items = it.scalar ∷ behind.items;
      are = (
        front,
        rest ++ end_byte ends ∷ [],
        ap (λ c. c ++ end_byte ends ∷ []) joined ∙ append_assoc front rest (end_byte ends ∷ []),
        record {
          byte = text_byte first.kind;
          rest = it.rest;
          joined = it.joined;
          behind = subst (λ (k : Option RecordKind). TurnIs may_close k (more it.scalar) it.rest)
              (sym (plain_kind first.kind)) (one_turn may_close first.kind it.scalar it.rest
              it.is_body);
        },
        behind.are,
      );
      texts = and_from (scalar_is_text it.scalar) (list_all scalar_is_text behind.items) it.is_text
          behind.texts;
      says = both it.scalar behind.items value values it.says behind.says;
    }
  where
    both : (scalar : ScalarShape) (items : List ScalarShape) (value : RawScalar)
        (values : List RawScalar) → scalar_value scalar ≡ Some value → each scalar_value items
        ≡ Some values
        → each scalar_value (scalar ∷ items) ≡ Some (value ∷ values)
    both scalar items value values e f = rw (e, f) refl

-- a list behind its type byte
pub list_there : (may_close ends : Bool) (items : List ScalarShape) (values : List RawScalar)
    (byte : ℕ) (rest bytes : List ℕ) → byte ≡ 0xa4 → bytes ≡ byte ∷ rest
    → AreMany (IsTurn may_close) items ends rest → list_all scalar_is_text items ≡ true
    → each scalar_value items ≡ Some values → SpellsList values (end_byte ends) bytes
    × (ends ≡ true → may_close ≡ true)
list_there may_close ends items values byte rest bytes is joined are t v =
    let it = items_there may_close ends items values rest are t v in (
      (it.content, it.are, joined ∙ ap (λ b. b ∷ rest) is ∙ ap (λ c. 0xa4 ∷ c) it.joined),
      it.allowed,
    )

pub list_back : (may_close ends : Bool) (values : List RawScalar) (bytes : List ℕ)
    → (ends ≡ true → may_close ≡ true) → SpellsList values (end_byte ends) bytes
    → (items : List ScalarShape) × (rest : List ℕ) × (bytes ≡ 0xa4 ∷ rest)
    × AreMany (IsTurn may_close) items ends rest × (list_all scalar_is_text items ≡ true)
    × (each scalar_value items ≡ Some values)
list_back may_close ends values bytes allowed (content, are, joined) =
    let it = items_back may_close ends values content allowed are in
    (it.items, content ++ end_byte ends ∷ [], joined, it.are, it.texts, it.says)

-- one value of any kind
pub one_there : (kind : TextKind) (scalar : ScalarShape) (value : RawScalar) (byte : ℕ)
    (rest bytes : List ℕ) → byte ≡ text_byte kind → bytes ≡ byte ∷ rest → ScalarIs kind scalar rest
    → scalar_is_text scalar ≡ true → scalar_value scalar ≡ Some value → SpellsScalar value bytes
one_there kind scalar value byte rest bytes is joined h t v = own
    (record { kind = kind; byte_is = is; is = h }) value t v joined

-- the value of an attribute
value_cases : (shape : ValueShape) (value : RawValue) (byte : ℕ) (rest bytes : List ℕ) → bytes
    ≡ byte ∷ rest → (k : Option RecordKind) → record_kind byte ≡ k → ValueIs k shape rest
    → value_is_text shape ≡ true → shape_value shape ≡ Some value → SpellsValue value bytes
value_cases shape value byte rest bytes joined (Some (records.Text texts.StartList false)) e
    (list, are, same) t v =
    let found = mapped_some ListOf (each scalar_value list.items) value (ap shape_value same ∙ v) in
    let it = list_there false list.last list.items found.0 byte rest bytes
    (byte_is byte (records.Text texts.StartList false) e).0 joined are (ap value_is_text same ∙ t)
    found.1 in
    subst (λ (w : RawValue). SpellsValue w bytes) found.2 (closed list.last found.0 it.0 it.1)
  where
    closed : (ends : Bool) (values : List RawScalar) → SpellsList values (end_byte ends) bytes
        → (ends ≡ true → false ≡ true) → SpellsList values 0xa6 bytes
    closed false values it none = it
    closed true values it none = cc (none refl)
value_cases shape value byte rest bytes joined (Some (records.Text kind false)) e (scalar, is, same)
    t v =
    let found = mapped_some One (scalar_value scalar) value (ap shape_value same ∙ v) in
    subst (λ (w : RawValue). SpellsValue w bytes) found.2
    (one_there kind scalar found.0 byte rest bytes (byte_is byte (records.Text kind false) e).0
    joined is (ap value_is_text same ∙ t) found.1)
value_cases shape value byte rest bytes joined None e h t v = absurd h
value_cases shape value byte rest bytes joined (Some _) e h t v = absurd h

pub value_there : (shape : ValueShape) (value : RawValue) (bytes : List ℕ) → IsValue shape bytes
    → value_is_text shape ≡ true → shape_value shape ≡ Some value → SpellsValue value bytes
value_there shape value bytes is t v = value_cases shape value is.byte is.rest bytes is.joined
    (record_kind is.byte) refl is.behind t v

-- a text of any kind but a list and its end is one value
pub one_value : (kind : TextKind) (scalar : ScalarShape) (rest : List ℕ) → ScalarIs kind scalar rest
    → ValueIs (Some (records.Text kind false)) (one scalar) rest
one_value texts.StartList scalar rest h = absurd (list_is_none texts.StartList scalar rest h)
one_value kind scalar rest h = (scalar, h, refl)

-- what is read of the bytes that spell a value
pub record IsRead (value : RawValue) (bytes : List ℕ) : Type 0 where
  pub shape : ValueShape
  pub is : IsValue shape bytes
  pub is_text : value_is_text shape ≡ true
  pub says : shape_value shape ≡ Some value

list_kind : record_kind 0xa4 ≡ Some (records.Text texts.StartList false)
unfolding record_kind
list_kind = refl

pub value_back : (value : RawValue) (bytes : List ℕ) → SpellsValue value bytes → IsRead value bytes
value_back (One value) bytes h =
    let it = spelled_back h.kind value bytes h.spelled in
    record {
      shape = one it.scalar;
      is = record {
        byte = text_byte h.kind;
        rest = it.rest;
        joined = it.joined;
        behind = subst (λ (k : Option RecordKind). ValueIs k (one it.scalar) it.rest)
            (sym (plain_kind h.kind)) (one_value h.kind it.scalar it.rest it.is_body);
      };
      is_text = it.is_text;
      says = ap (option_map One) it.says;
    }
value_back (ListOf values) bytes h =
    let it = list_back false false values bytes (λ closes. closes) h in
    record {
      shape = several it.0;
      is = record {
        byte = 0xa4;
        rest = it.1;
        joined = it.2;
        behind = subst (λ (k : Option RecordKind). ValueIs k (several it.0) it.1) (sym list_kind)
            (record { items = it.0; last = false }, it.3, refl);
      };
      is_text = it.4;
      says = ap (option_map ListOf) it.5;
    }

-- what is read of the last text of an element, and what spells it
abbrev pub SpellsText : RawValue → Bool → List ℕ → Type 0
SpellsText value false bytes = SpellsValue value bytes
SpellsText value true bytes = SpellsLast value bytes

text_one : (kind : TextKind) (ends : Bool) (scalar : ScalarShape) (value : RawScalar) (byte : ℕ)
    (rest bytes : List ℕ) → byte ≡ byte_of (records.Text kind ends) → bytes ≡ byte ∷ rest
    → ScalarIs kind scalar rest
    → scalar_is_text scalar ≡ true → scalar_value scalar ≡ Some value → SpellsText (One value) ends
    bytes
text_one kind false scalar value byte rest bytes is joined h t v = one_there kind scalar value byte
    rest bytes is joined h t v
text_one kind true scalar value byte rest bytes is joined h t v = (
  text_byte kind,
  rest,
  one_there kind scalar value (text_byte kind) rest (text_byte kind ∷ rest)
      refl refl h t v,
  joined ∙ ap (λ b. b ∷ rest) is,
)

text_list : (ends : Bool) (values : List RawScalar) (bytes : List ℕ) → SpellsList values
    (end_byte ends) bytes → SpellsText (ListOf values) ends bytes
text_list false values bytes h = h
text_list true values bytes h = h

-- what is read behind the type byte of a text
pub text_there : (kind : TextKind) (ends : Bool) (shape : Shape) (node : Node) (byte : ℕ)
    (rest bytes : List ℕ) → byte ≡ byte_of (records.Text kind ends)
    → is_kind (records.Text kind ends) ≡ true → bytes ≡ byte ∷ rest → TextIs kind ends shape rest
    → is_text shape ≡ true → node_of shape ≡ Some node → (value : RawValue) × (closes : Bool)
    × (Text value closes ≡ node) × SpellsText value closes bytes
text_there texts.StartList true shape node byte rest bytes is real joined h t n = cc
text_there texts.StartList false shape node byte rest bytes is real joined (list, are, same) t n =
    let found = mapped_some (λ v. Text v list.last) (shape_value (several list.items)) node
    (ap node_of same ∙ n) in
    let values = mapped_some ListOf (each scalar_value list.items) found.0 found.1 in
    let it = list_there true list.last list.items values.0 byte rest bytes is joined are
    (ap is_text same ∙ t) values.1 in (
      ListOf values.0,
      list.last,
      ap (λ v. Text v list.last) values.2 ∙ found.2,
      text_list list.last
          values.0 bytes it.0,
    )
text_there kind ends shape node byte rest bytes is real joined (scalar, h, same) t n =
    let found = mapped_some (λ v. Text v ends) (shape_value (one scalar)) node
    (ap node_of same ∙ n) in
    let value = mapped_some One (scalar_value scalar) found.0 found.1 in (
      One value.0,
      ends,
      ap (λ v. Text v ends) value.2 ∙ found.2,
      text_one kind ends scalar value.0
          byte rest bytes is joined h (ap is_text same ∙ t) value.1,
    )

-- a text of any kind but a list and its end is one text
one_text : (kind : TextKind) (ends : Bool) (scalar : ScalarShape) (rest : List ℕ)
    → ScalarIs kind scalar rest → TextIs kind ends (has_text (one scalar) ends) rest
one_text texts.StartList ends scalar rest h = absurd (list_is_none texts.StartList scalar rest h)
one_text kind ends scalar rest h = (scalar, h, refl)

-- of which the odd byte begins a record too
closing : (kind : TextKind) (value : RawScalar) (bytes : List ℕ) → SpellsAs kind value bytes
    → is_kind (records.Text kind true) ≡ true
closing texts.StartList value bytes h = absurd h
closing kind value bytes h = refl

-- a text that is read of these bytes
pub record IsReadText (value : RawValue) (ends : Bool) (bytes : List ℕ) : Type 0 where
  pub kind : TextKind
  pub closes : Bool
  pub byte : ℕ
  pub rest : List ℕ
  pub shape : Shape
  pub joined : bytes ≡ byte ∷ rest
  pub begins : record_kind byte ≡ Some (records.Text kind closes)
  pub no_end : ends_list (records.Text kind closes) ≡ false
  pub is : TextIs kind closes shape rest
  pub is_text : is_text shape ≡ true
  pub says : node_of shape ≡ Some (Text value ends)

begins_plain : (kind : TextKind) (value : RawScalar) (bytes : List ℕ) (ends : Bool)
    → SpellsAs kind value bytes → ends_list (records.Text kind ends) ≡ false
begins_plain texts.EndList value bytes ends h = absurd h
begins_plain kind value bytes ends h = refl

one_back : (value : RawScalar) (ends : Bool) (kind : TextKind) (bytes : List ℕ) (byte : ℕ)
    (rest : List ℕ) (scalar : ScalarShape) → record_kind byte ≡ Some (records.Text kind ends)
    → bytes ≡ byte ∷ rest
    → ends_list (records.Text kind ends) ≡ false → ScalarIs kind scalar rest → scalar_is_text scalar
    ≡ true → scalar_value scalar ≡ Some value → IsReadText (One value) ends bytes
one_back value ends kind bytes byte rest scalar begins joined no_end is t v = record {
  kind = kind;
  closes = ends;
  byte = byte;
  rest = rest;
  shape = has_text (one scalar) ends;
  joined = joined;
  begins = begins;
  no_end = no_end;
  is = one_text kind ends scalar rest is;
  is_text = t;
  says = ap (λ o. option_map (λ v. Text v ends) (option_map One o)) v;
}

many_back : (values : List RawScalar) (ends : Bool) (bytes : List ℕ) → SpellsList values
    (end_byte ends) bytes → IsReadText (ListOf values) ends bytes
many_back values ends bytes h =
    let it = list_back true ends values bytes (λ closes. refl) h in
    record {
      kind = texts.StartList;
      closes = false;
      byte = 0xa4;
      rest = it.1;
      shape = has_text (several it.0) ends;
      joined = it.2;
      begins = list_kind;
      no_end = refl;
      is = (record { items = it.0; last = ends }, it.3, refl);
      is_text = it.4;
      says = ap (λ o. option_map (λ v. Text v ends) (option_map ListOf o)) it.5;
    }

pub text_back : (value : RawValue) (ends : Bool) (bytes : List ℕ) → SpellsText value ends bytes
    → IsReadText value ends bytes
text_back (One value) false bytes h =
    let it = spelled_back h.kind value bytes h.spelled in
    one_back value false h.kind bytes (text_byte h.kind) it.rest it.scalar (plain_kind h.kind)
    it.joined (begins_plain h.kind value bytes false h.spelled) it.is_body it.is_text it.says
text_back (One value) true bytes (byte, rest, h, joined) =
    let it = spelled_back h.kind value (byte ∷ rest) h.spelled in
    let head : byte ≡ text_byte h.kind = cc it.joined in
    let tail : rest ≡ it.rest = cc it.joined in
    one_back value true h.kind bytes (text_byte h.kind + 1) it.rest it.scalar
    (kind_of_byte (records.Text h.kind true) (closing h.kind value (byte ∷ rest) h.spelled))
    (joined ∙ ap (λ b. (b + 1) ∷ rest) head ∙ ap (λ c. (text_byte h.kind + 1) ∷ c) tail)
    (begins_plain h.kind value (byte ∷ rest) true h.spelled) it.is_body it.is_text it.says
text_back (ListOf values) false bytes h = many_back values false bytes h
text_back (ListOf values) true bytes h = many_back values true bytes h
