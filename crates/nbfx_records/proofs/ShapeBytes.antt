-- What the bytes of attributes, arrays and whole records are, where no text and no value is judged.
use Rattle.std.proofs.Common.{◌≡◌, ℕ, ◌*◌, Bool, true, false, List, [], ◌∷◌, ◌++◌, length}
use Rattle.std.proofs.Common.{if◌then◌else◌, ◌==◌, Some, None, Option, sym, refl, ap, ◌∙◌}
use Rattle.unit_streams.proofs.{Parts.then_begun, Repeated.just_many, Spelled.just_then}
use Rattle.unit_streams.proofs.Spelled.{just_byte, just_bytes, just_given, just_refuse, just_seen}
use Rattle.unit_streams.specs.Parts.{a_byte, AreMany, Joined, Many, more, ReadsJust, refuse, seen}
use Rattle.unit_streams.specs.Parts.{some_bytes, stop, Turn, ◌>>=◌}
use Rattle.{multibyte_ints.specs.Integer.Spells, nbfx_records.proofs.ShapeFronts.reads_array_turn}
use Rattle.nbfx_values.specs.declared.content.ArrayKind.{ArrayKind}
use Rattle.nbfx_records.specs.declared.kinds.{NameForm.NameForm, PrefixForm.PrefixForm}
use Rattle.nbfx_records.specs.declared.kinds.{RecordKind.RecordKind, TextKind.TextKind}
use Rattle.nbfx_records.specs.declared.nodes.{NameRef.NameRef, NodePlace.NodePlace}
use Rattle.nbfx_records.specs.declared.nodes.NodePlace.TheVariants.{AfterRoot, BeforeRoot, Within}
use Rattle.nbfx_records.specs.declared.nodes.RecordFault.{RecordFault}
use Rattle.nbfx_records.specs.Kinds.{array_kind, width_of}
use Rattle.nbfx_records.specs.Shapes.{a_string, adds, an_integer, array_at, array_cells}
use Rattle.nbfx_records.specs.Shapes.{array_element, array_part, array_parts, array_shape}
use Rattle.nbfx_records.specs.Shapes.{array_turn, array_values, ArrayShape, attribute_at}
use Rattle.nbfx_records.specs.Shapes.{attributes, AttributeShape, begins_element, cells_of}
use Rattle.nbfx_records.specs.Shapes.{cells_shape, CellsShape, comments, content_at, declaration_at}
use Rattle.nbfx_records.specs.Shapes.{declares, element_at, element_of, ends_element, has_text}
use Rattle.nbfx_records.specs.Shapes.{list_at, misplaced, name_at, named_shape, NamedShape, one}
use Rattle.nbfx_records.specs.Shapes.{placed, prefix_at, record_at, repeats, scalar_at, ScalarShape}
use Rattle.nbfx_records.specs.Shapes.{several, Shape, shape_at, unless_misplaced, value_at}
use Rattle.nbfx_records.specs.Shapes.{value_of_kind, ValueShape}
use Rattle.nbfx_records.proofs.PartBytes.{IsRawString, just_as, just_integer, just_list, just_name}
use Rattle.nbfx_records.proofs.PartBytes.{just_prefix, just_scalar, just_string, just_then_as}
use Rattle.nbfx_records.proofs.PartBytes.{just_typed, ListIs, NameIs, PrefixIs, ScalarIs, Typed}
use Rattle.nbfx_records.specs.declared.kinds.TextKind.TheVariants as texts
use Rattle.nbfx_records.specs.declared.nodes.RecordFault.TheVariants as faults
use Rattle.nbfx_records.specs.declared.kinds.RecordKind.TheVariants as records

-- the value of an attribute
abbrev pub ValueIs : Option RecordKind → ValueShape → List ℕ → Type 0
ValueIs (Some (records.Text texts.StartList false)) value b = (list : Many ScalarShape Bool)
    × ListIs false list b × (several list.items ≡ value)
ValueIs (Some (records.Text kind false)) value b = (scalar : ScalarShape) × ScalarIs kind scalar b
    × (one scalar ≡ value)
ValueIs _ value b = ⊥

just_value_of : (kind : Option RecordKind) → ReadsJust (value_of_kind kind) (ValueIs kind)
just_value_of None = just_refuse faults.UnknownNode
just_value_of (Some (records.Text texts.StartList false)) = just_seen (λ list. several list.items)
    (λ fault. fault) (list_at false) (ListIs false) (just_list false)
just_value_of (Some (records.Text kind false)) = just_seen one (λ fault. fault) (scalar_at kind)
    (ScalarIs kind) (just_scalar kind)
just_value_of (Some _) = just_refuse faults.OutOfPlace

abbrev pub IsValue : ValueShape → List ℕ → Type 0
IsValue = Typed value_of_kind ValueIs

just_value : ReadsJust value_at IsValue
just_value = just_typed value_of_kind ValueIs just_value_of

-- a prefix, a name and a value
pub record AttributeIs (prefix_form : PrefixForm) (name_form : NameForm) (shape : AttributeShape)
    (bytes : List ℕ) : Type 0 where
  pub prefix : List ℕ
  pub name : NameRef
  pub value : ValueShape
  pub prefix_bytes : List ℕ
  pub name_bytes : List ℕ
  pub value_bytes : List ℕ
  pub is_prefix : PrefixIs prefix_form prefix prefix_bytes
  pub is_name : NameIs name_form name name_bytes
  pub is_value : IsValue value value_bytes
  pub joined : bytes ≡ prefix_bytes ++ (name_bytes ++ value_bytes)
  pub shape_is : attributes prefix name value ≡ shape

just_attribute : (prefix : PrefixForm) (name : NameForm) → ReadsJust (attribute_at prefix name)
    (AttributeIs prefix name)
just_attribute prefix name =
    just_then_as (prefix_at prefix) _ (PrefixIs prefix)
    (λ p. Joined (NameIs name) (λ n shape b. (value : ValueShape) × IsValue value b
    × (attributes p n value ≡ shape))) (AttributeIs prefix name)
    (just_prefix prefix)
    (λ p. just_then (name_at name) _ (NameIs name) (λ n shape b. (value : ValueShape)
    × IsValue value b × (attributes p n value ≡ shape)) (just_name name)
    (λ n. just_seen (attributes p n) (λ fault. fault) value_at IsValue just_value))
    (λ p shape front rest h j. record {
      prefix = p;
      name = j.part;
      value = j.next.0;
      prefix_bytes = front;
      name_bytes = j.front;
      value_bytes = j.rest;
      is_prefix = h;
      is_name = j.first;
      is_value = j.next.1;
      joined = ap (λ c. front ++ c) j.joined;
      shape_is = j.next.2;
    })
    (λ shape b a. record {
      part = a.prefix;
      front = a.prefix_bytes;
      rest = a.name_bytes ++ a.value_bytes;
      joined = a.joined;
      first = a.is_prefix;
      next = record {
        part = a.name;
        front = a.name_bytes;
        rest = a.value_bytes;
        joined = refl;
        first = a.is_name;
        next = (a.value, a.is_value, a.shape_is);
      };
    })

-- a prefix and a name
pub record NamedIs {A : Type 0} (make : List ℕ → NameRef → A) (prefix_form : PrefixForm)
    (name_form : NameForm) (shape : A) (bytes : List ℕ) : Type 0 where
  pub prefix : List ℕ
  pub name : NameRef
  pub prefix_bytes : List ℕ
  pub name_bytes : List ℕ
  pub is_prefix : PrefixIs prefix_form prefix prefix_bytes
  pub is_name : NameIs name_form name name_bytes
  pub joined : bytes ≡ prefix_bytes ++ name_bytes
  pub shape_is : make prefix name ≡ shape

just_named : {A : Type 0} (make : List ℕ → NameRef → A) (prefix : PrefixForm) (name : NameForm)
    → ReadsJust (prefix_at prefix >>= λ p bytes. seen (make p) (λ fault. fault)
    (name_at name bytes)) (NamedIs make prefix name)
just_named make prefix name =
    just_then_as (prefix_at prefix) _ (PrefixIs prefix)
    (λ p shape b. (n : NameRef) × NameIs name n b × (make p n ≡ shape)) (NamedIs make prefix name)
    (just_prefix prefix) (λ p. just_seen (make p) (λ fault. fault) (name_at name) (NameIs name)
    (just_name name))
    (λ p shape front rest h n. record {
      prefix = p;
      name = n.0;
      prefix_bytes = front;
      name_bytes = rest;
      is_prefix = h;
      is_name = n.1;
      joined = refl;
      shape_is = n.2;
    })
    (λ shape b a. record {
      part = a.prefix;
      front = a.prefix_bytes;
      rest = a.name_bytes;
      joined =
          a.joined;
      first = a.is_prefix;
      next = (a.name, a.is_name, a.shape_is);
    })

abbrev pub DeclarationIs : PrefixForm → NameForm → AttributeShape → List ℕ → Type 0
DeclarationIs = NamedIs declares

abbrev pub ElementIs : PrefixForm → NameForm → NamedShape → List ℕ → Type 0
ElementIs = NamedIs named_shape

-- a declaration or an attribute of an array's element, or the end of these
abbrev pub ArrayPartIs : Option RecordKind → Turn AttributeShape (Unit {0}) → List ℕ → Type 0
ArrayPartIs (Some (records.Attribute prefix name)) turn b = (shape : AttributeShape)
    × AttributeIs prefix name shape b × (more shape ≡ turn)
ArrayPartIs (Some (records.Declaration prefix uri)) turn b = (shape : AttributeShape)
    × DeclarationIs prefix uri shape b × (more shape ≡ turn)
ArrayPartIs (Some records.EndElement) turn b = (turn ≡ stop tt) × (b ≡ [])
ArrayPartIs _ turn b = ⊥

just_array_part : (kind : Option RecordKind) → ReadsJust (array_part kind) (ArrayPartIs kind)
just_array_part None = just_refuse faults.UnknownNode
just_array_part (Some (records.Attribute prefix name)) = just_seen more (λ fault. fault)
    (attribute_at prefix name) (AttributeIs prefix name) (just_attribute prefix name)
just_array_part (Some (records.Declaration prefix uri)) = just_seen more (λ fault. fault)
    (declaration_at prefix uri) (DeclarationIs prefix uri) (just_named declares prefix uri)
just_array_part (Some records.EndElement) = just_given (stop tt)
just_array_part (Some _) = just_refuse faults.BadArray

abbrev pub IsArrayTurn : Turn AttributeShape (Unit {0}) → List ℕ → Type 0
IsArrayTurn = Typed array_part ArrayPartIs

pub just_array_turn : ReadsJust array_turn IsArrayTurn
just_array_turn = just_typed array_part ArrayPartIs just_array_part

abbrev pub PartsAre : Many AttributeShape (Unit {0}) → List ℕ → Type 0
PartsAre parts b = AreMany IsArrayTurn parts.items parts.last b

just_parts : ReadsJust array_parts PartsAre
just_parts = just_many array_turn reads_array_turn (then_begun a_byte _ [] refl) IsArrayTurn
    just_array_turn

-- the element that an array repeats
abbrev pub ElementOf : Option RecordKind → NamedShape → List ℕ → Type 0
ElementOf (Some (records.Element prefix name)) it b = ElementIs prefix name it b
ElementOf _ it b = ⊥

just_element_of : (kind : Option RecordKind) → ReadsJust (element_of kind) (ElementOf kind)
just_element_of None = just_refuse faults.UnknownNode
just_element_of (Some (records.Element prefix name)) = just_named named_shape prefix name
just_element_of (Some _) = just_refuse faults.BadArray

abbrev pub IsArrayElement : NamedShape → List ℕ → Type 0
IsArrayElement = Typed element_of ElementOf

-- how many values, and their bytes
pub record CellsAre (kind : ArrayKind) (shape : CellsShape) (bytes : List ℕ) : Type 0 where
  pub count : ℕ
  pub count_bytes : List ℕ
  pub values : List ℕ
  pub is_count : Spells count count_bytes
  pub some : (count == 0) ≡ false
  pub size : length values ≡ count * width_of kind
  pub joined : bytes ≡ count_bytes ++ values
  pub shape_is : cells_shape kind count values ≡ shape

abbrev ValuesAre : ArrayKind → ℕ → List ℕ → List ℕ → Type 0
ValuesAre kind count s b = ((count == 0) ≡ false) × (b ≡ s) × (length b ≡ count * width_of kind)

just_array_values : (kind : ArrayKind) (count : ℕ) → ReadsJust (array_values kind count)
    (ValuesAre kind count)
just_array_values kind count = by (count == 0)
  where
    by : (none : Bool)
        → ReadsJust (if none then refuse faults.BadArray else some_bytes (count * width_of kind))
        (λ s b. (none ≡ false) × (b ≡ s) × (length b ≡ count * width_of kind))
    by true = just_as (refuse faults.BadArray) (λ s b. ⊥) (λ s b. (true ≡ false) × (b ≡ s)
        × (length b ≡ count * width_of kind)) (just_refuse faults.BadArray) (λ s b h. absurd h)
        (λ s b h. cc h.0)
    by false =
        just_as (some_bytes (count * width_of kind))
        (λ s b. (b ≡ s) × (length b ≡ count * width_of kind)) (λ s b. (false ≡ false) × (b ≡ s)
        × (length b ≡ count * width_of kind))
        (just_bytes (count * width_of kind)) (λ s b h. (refl, h.0, h.1)) (λ s b h. (h.1, h.2))

-- by the kind that comes before them
abbrev pub CellsOf : Option ArrayKind → CellsShape → List ℕ → Type 0
CellsOf None shape b = ⊥
CellsOf (Some kind) shape b = CellsAre kind shape b

just_cells_of : (kind : Option ArrayKind) → ReadsJust (cells_of kind) (CellsOf kind)
just_cells_of None = just_refuse faults.BadArray
just_cells_of (Some kind) =
    just_then_as an_integer _ Spells (λ count shape b. (s : List ℕ) × ValuesAre kind count s b
    × (cells_shape kind count s ≡ shape)) (CellsAre kind) just_integer
    (λ count. just_seen (cells_shape kind count) (λ fault. fault) (array_values kind count)
    (ValuesAre kind count) (just_array_values kind count))
    (λ count shape front rest h c. record {
      count = count;
      count_bytes = front;
      values = c.0;
      is_count = h;
      some = c.1.0;
      size = ap length (sym c.1.1) ∙ c.1.2;
      joined = ap (λ s. front ++ s) c.1.1;
      shape_is = c.2;
    })
    (λ shape b c. record {
      part = c.count;
      front = c.count_bytes;
      rest = c.values;
      joined =
          c.joined;
      first = c.is_count;
      next = (c.values, (c.some, refl, c.size), c.shape_is);
    })

pub record AreCellsOf (shape : CellsShape) (bytes : List ℕ) : Type 0 where
  pub byte : ℕ
  pub rest : List ℕ
  pub behind : CellsOf (array_kind byte) shape rest
  pub joined : bytes ≡ byte ∷ rest

just_cells : ReadsJust array_cells AreCellsOf
just_cells =
    just_then_as a_byte _ (λ x b. b ≡ x ∷ []) (λ byte. CellsOf (array_kind byte)) AreCellsOf
    just_byte (λ byte. just_cells_of (array_kind byte))
    (λ x shape front rest e h. record
    { byte = x; rest = rest; behind = h; joined = ap (λ c. c ++ rest) e })
    (λ shape b h. record {
      part = h.byte;
      front = h.byte ∷ [];
      rest = h.rest;
      joined = h.joined;
      first = refl;
      next = h.behind;
    })

-- what follows an array's type byte
pub record ArrayIs (shape : ArrayShape) (bytes : List ℕ) : Type 0 where
  pub it : NamedShape
  pub parts : Many AttributeShape (Unit {0})
  pub cells : CellsShape
  pub element_bytes : List ℕ
  pub part_bytes : List ℕ
  pub cell_bytes : List ℕ
  pub is_element : IsArrayElement it element_bytes
  pub are_parts : PartsAre parts part_bytes
  pub are_cells : AreCellsOf cells cell_bytes
  pub joined : bytes ≡ element_bytes ++ (part_bytes ++ cell_bytes)
  pub shape_is : array_shape it parts.items cells ≡ shape

abbrev CellsBehind : NamedShape → Many AttributeShape (Unit {0}) → ArrayShape → List ℕ → Type 0
CellsBehind it parts shape b = (cells : CellsShape) × AreCellsOf cells b
    × (array_shape it parts.items cells ≡ shape)

pub just_array : ReadsJust array_at ArrayIs
unfolding array_at
just_array =
    just_then_as array_element _ IsArrayElement (λ it. Joined PartsAre (CellsBehind it)) ArrayIs
    (just_typed element_of ElementOf just_element_of)
    (λ it. just_then array_parts _ PartsAre (CellsBehind it) just_parts
    (λ parts. just_seen (array_shape it parts.items) (λ fault. fault) array_cells AreCellsOf
    just_cells))
    (λ it shape front rest h j. record {
      it = it;
      parts = j.part;
      cells = j.next.0;
      element_bytes = front;
      part_bytes = j.front;
      cell_bytes = j.rest;
      is_element = h;
      are_parts = j.first;
      are_cells = j.next.1;
      joined = ap (λ c. front ++ c) j.joined;
      shape_is = j.next.2;
    })
    (λ shape b a. record {
      part = a.it;
      front = a.element_bytes;
      rest = a.part_bytes ++ a.cell_bytes;
      joined = a.joined;
      first = a.is_element;
      next = record {
        part = a.parts;
        front = a.part_bytes;
        rest = a.cell_bytes;
        joined = refl;
        first = a.are_parts;
        next = (a.cells, a.are_cells, a.shape_is);
      };
    })

-- what follows the type byte of a text
abbrev pub TextIs : TextKind → Bool → Shape → List ℕ → Type 0
TextIs texts.StartList ends shape b = (list : Many ScalarShape Bool) × ListIs true list b
    × (has_text (several list.items) list.last ≡ shape)
TextIs kind ends shape b = (scalar : ScalarShape) × ScalarIs kind scalar b
    × (has_text (one scalar) ends ≡ shape)

just_text : (kind : TextKind) (ends : Bool) → ReadsJust (content_at kind ends) (TextIs kind ends)
just_text texts.StartList ends = just_seen (λ list. has_text (several list.items) list.last)
    (λ fault. fault) (list_at true) (ListIs true) (just_list true)
just_text kind ends = just_seen (λ scalar. has_text (one scalar) ends) (λ fault. fault)
    (scalar_at kind) (ScalarIs kind) (just_scalar kind)

-- what follows the type byte of a record
abbrev pub RecordIs : RecordKind → Shape → List ℕ → Type 0
RecordIs records.EndElement shape b = (shape ≡ ends_element) × (b ≡ [])
RecordIs records.Comment shape b = (s : List ℕ) × IsRawString s b × (comments s ≡ shape)
RecordIs records.Array shape b = (a : ArrayShape) × ArrayIs a b × (repeats a ≡ shape)
RecordIs (records.Attribute prefix name) shape b = (a : AttributeShape) × AttributeIs prefix name a
    b × (adds a ≡ shape)
RecordIs (records.Declaration prefix uri) shape b = (a : AttributeShape) × DeclarationIs prefix uri
    a b × (adds a ≡ shape)
RecordIs (records.Element prefix name) shape b = (it : NamedShape) × ElementIs prefix name it b
    × (begins_element it.prefix it.name ≡ shape)
RecordIs (records.Text kind ends) shape b = TextIs kind ends shape b

just_record : (kind : RecordKind) → ReadsJust (record_at kind) (RecordIs kind)
unfolding record_at
just_record records.EndElement = just_given ends_element
just_record records.Comment = just_seen comments (λ fault. fault) a_string IsRawString just_string
just_record records.Array = just_seen repeats (λ fault. fault) array_at ArrayIs just_array
just_record (records.Attribute prefix name) = just_seen adds (λ fault. fault)
    (attribute_at prefix name) (AttributeIs prefix name) (just_attribute prefix name)
just_record (records.Declaration prefix uri) = just_seen adds (λ fault. fault)
    (declaration_at prefix uri) (DeclarationIs prefix uri) (just_named declares prefix uri)
just_record (records.Element prefix name) =
    just_seen (λ (it : NamedShape). begins_element it.prefix it.name) (λ fault. fault)
    (element_at prefix name) (ElementIs prefix name) (just_named named_shape prefix name)
just_record (records.Text kind ends) = just_text kind ends

abbrev UnlessIs : Option RecordFault → RecordKind → Shape → List ℕ → Type 0
UnlessIs fault kind shape b = (fault ≡ None) × RecordIs kind shape b

just_unless : (fault : Option RecordFault) (kind : RecordKind)
    → ReadsJust (unless_misplaced fault kind) (UnlessIs fault kind)
just_unless None kind = just_as (record_at kind) (RecordIs kind) (UnlessIs None kind)
    (just_record kind) (λ shape b h. (refl, h)) (λ shape b h. h.1)
just_unless (Some fault) kind = just_as (refuse fault) (λ shape b. ⊥) (UnlessIs (Some fault) kind)
    (just_refuse fault) (λ shape b h. absurd h) (λ shape b h. cc h.0)

-- where a record of the kind may come
abbrev pub PlacedIs : NodePlace → Option RecordKind → Shape → List ℕ → Type 0
PlacedIs place None shape b = ⊥
PlacedIs place (Some kind) shape b = (misplaced place kind ≡ None) × RecordIs kind shape b

just_placed : (place : NodePlace) (kind : Option RecordKind) → ReadsJust (placed place kind)
    (PlacedIs place kind)
just_placed AfterRoot None = just_refuse faults.TrailingBytes
just_placed AfterRoot (Some kind) = just_as (refuse faults.TrailingBytes) (λ shape b. ⊥)
    (PlacedIs AfterRoot (Some kind)) (just_refuse faults.TrailingBytes) (λ shape b h. absurd h)
    (λ shape b h. cc h.0)
just_placed BeforeRoot None = just_refuse faults.UnknownNode
just_placed BeforeRoot (Some kind) = just_unless (misplaced BeforeRoot kind) kind
just_placed (Within may deeper) None = just_refuse faults.UnknownNode
just_placed (Within may deeper) (Some kind) = just_unless (misplaced (Within may deeper) kind) kind

-- the record at the front of some bytes
abbrev pub IsShape : NodePlace → Shape → List ℕ → Type 0
IsShape place = Typed (placed place) (PlacedIs place)

pub just_shape : (place : NodePlace) → ReadsJust (shape_at place) (IsShape place)
unfolding shape_at
just_shape place = just_typed (placed place) (PlacedIs place) (just_placed place)
