-- Each part of a record is known by its own bytes.
use Rattle.std.proofs.Common.{◌≡◌, ℕ, ◌*◌, Bool, true, false, [], if◌then◌else◌, ◌==◌, Some, None}
use Rattle.std.proofs.Common.{Option, refl, ap}
use Rattle.unit_streams.proofs.Parts.{reads_byte, reads_bytes, reads_given, reads_judged}
use Rattle.unit_streams.proofs.Parts.{reads_refuse, reads_seen, reads_then, then_begun}
use Rattle.unit_streams.{proofs.Repeated.reads_many, specs.Front.begun, specs.Front.ReadsFront}
use Rattle.unit_streams.specs.Parts.{a_byte, judged, more, refuse, some_bytes}
use Rattle.multibyte_ints.{proofs.IntegerBytes.int_reads_front, specs.Integer.int_at}
use Rattle.nbfx_values.specs.declared.content.ArrayKind.{ArrayKind}
use Rattle.nbfx_records.specs.declared.kinds.Body.{Body, TheVariants.Named, TheVariants.Qualified}
use Rattle.nbfx_records.specs.declared.kinds.Body.TheVariants.{Counted, Ending, Fixed, Listed}
use Rattle.nbfx_records.specs.declared.kinds.{LengthForm.LengthForm, NameForm.NameForm}
use Rattle.nbfx_records.specs.declared.kinds.NameForm.TheVariants.{Identified, Inlined}
use Rattle.nbfx_records.specs.declared.kinds.{PrefixForm.PrefixForm, TextKind.TextKind}
use Rattle.nbfx_records.specs.declared.kinds.PrefixForm.TheVariants.{Lettered, Prefixed, Unprefixed}
use Rattle.nbfx_records.specs.{declared.kinds.RecordKind.RecordKind, Contents.contents}
use Rattle.nbfx_records.specs.declared.nodes.{NodePlace.NodePlace, RecordFault.RecordFault}
use Rattle.nbfx_records.specs.declared.nodes.NodePlace.TheVariants.{AfterRoot, BeforeRoot, Within}
use Rattle.nbfx_records.specs.Kinds.{array_kind, body_of, record_kind, width_of}
use Rattle.nbfx_records.specs.RecordAtFront.{node_at}
use Rattle.nbfx_records.specs.Shapes.{a_length, a_string, an_integer, array_at, array_cells}
use Rattle.nbfx_records.specs.Shapes.{array_element, array_part, array_parts, array_turn}
use Rattle.nbfx_records.specs.Shapes.{array_values, attribute_at, body_at, cells_of, content_at}
use Rattle.nbfx_records.specs.Shapes.{counted_bytes, declaration_at, element_at, element_of}
use Rattle.nbfx_records.specs.Shapes.{given_or, has_text, list_at, list_turn, name_at, one, placed}
use Rattle.nbfx_records.specs.Shapes.{prefix_at, record_at, said_length, scalar_at, shape_at}
use Rattle.nbfx_records.specs.Shapes.{turn_of, unless_misplaced, value_at, value_of_kind}
use Rattle.nbfx_records.specs.declared.kinds.TextKind.TheVariants as texts
use Rattle.nbfx_records.specs.declared.nodes.RecordFault.TheVariants as faults
use Rattle.nbfx_records.specs.declared.kinds.RecordKind.TheVariants as records

pub reads_integer : ReadsFront an_integer
reads_integer = reads_seen (λ n. n) (λ _. faults.BadInt) int_at int_reads_front

pub reads_string : ReadsFront a_string
reads_string = reads_then an_integer some_bytes reads_integer (λ n. reads_bytes n)

pub reads_prefix : (form : PrefixForm) → ReadsFront (prefix_at form)
reads_prefix Unprefixed = reads_given []
reads_prefix (Lettered n) = reads_given _
reads_prefix Prefixed = reads_string

pub reads_name : (form : NameForm) → ReadsFront (name_at form)
reads_name Inlined = reads_seen _ _ a_string reads_string
reads_name Identified = reads_seen _ _ an_integer reads_integer

pub reads_given_or : {A : Type 0} (fault : RecordFault) (o : Option A)
    → ReadsFront (given_or fault o)
reads_given_or fault None = reads_refuse fault
reads_given_or fault (Some a) = reads_given a

pub reads_length : (form : LengthForm) → ReadsFront (a_length form)
reads_length form = reads_then (some_bytes _) _ (reads_bytes _)
    (λ said. reads_given_or faults.BadInt (said_length form said))

pub reads_counted : (form : LengthForm) → ReadsFront (counted_bytes form)
reads_counted form = reads_then (a_length form) some_bytes (reads_length form) (λ n. reads_bytes n)

reads_body : (kind : TextKind) (body : Body) → ReadsFront (body_at kind body)
reads_body kind (Fixed n) = reads_seen _ _ (some_bytes n) (reads_bytes n)
reads_body kind (Counted form) = reads_seen _ _ (counted_bytes form) (reads_counted form)
reads_body kind Named = reads_seen _ _ an_integer reads_integer
reads_body kind Qualified = reads_then a_byte _ reads_byte
    (λ letter. reads_seen _ _ an_integer reads_integer)
reads_body kind Listed = reads_refuse _
reads_body kind Ending = reads_refuse _

pub reads_scalar : (kind : TextKind) → ReadsFront (scalar_at kind)
reads_scalar kind = reads_body kind (body_of kind)

pub reads_turn_of : (may_close : Bool) (kind : Option RecordKind)
    → ReadsFront (turn_of may_close kind)
reads_turn_of may_close None = reads_refuse _
reads_turn_of may_close (Some (records.Text texts.EndList false)) = reads_given _
reads_turn_of true (Some (records.Text texts.EndList true)) = reads_given _
reads_turn_of false (Some (records.Text texts.EndList true)) = reads_refuse _
reads_turn_of may_close (Some (records.Text kind false)) = reads_seen more (λ fault. fault)
    (scalar_at kind) (reads_scalar kind)
reads_turn_of may_close (Some _) = reads_refuse _

pub reads_list_turn : (may_close : Bool) → ReadsFront (list_turn may_close)
reads_list_turn may_close = reads_then a_byte _ reads_byte
    (λ byte. reads_turn_of may_close (record_kind byte))

pub reads_list : (may_close : Bool) → ReadsFront (list_at may_close)
reads_list may_close = reads_many (list_turn may_close) (reads_list_turn may_close)
    (then_begun a_byte _ [] refl)

pub reads_value_of_kind : (kind : Option RecordKind) → ReadsFront (value_of_kind kind)
reads_value_of_kind None = reads_refuse _
reads_value_of_kind (Some (records.Text texts.StartList false)) = reads_seen _ _ (list_at false)
    (reads_list false)
reads_value_of_kind (Some (records.Text kind false)) = reads_seen one (λ fault. fault)
    (scalar_at kind) (reads_scalar kind)
reads_value_of_kind (Some _) = reads_refuse _

pub reads_value : ReadsFront value_at
reads_value = reads_then a_byte _ reads_byte (λ byte. reads_value_of_kind (record_kind byte))

pub reads_attribute : (prefix : PrefixForm) (name : NameForm)
    → ReadsFront (attribute_at prefix name)
reads_attribute prefix name =
    reads_then (prefix_at prefix) _ (reads_prefix prefix)
    (λ p. reads_then (name_at name) _ (reads_name name) (λ n. reads_seen _ _ value_at reads_value))

pub reads_declaration : (prefix : PrefixForm) (uri : NameForm)
    → ReadsFront (declaration_at prefix uri)
reads_declaration prefix uri = reads_then (prefix_at prefix) _ (reads_prefix prefix)
    (λ p. reads_seen _ _ (name_at uri) (reads_name uri))

pub reads_array_part : (kind : Option RecordKind) → ReadsFront (array_part kind)
reads_array_part None = reads_refuse _
reads_array_part (Some (records.Attribute prefix name)) = reads_seen _ _ (attribute_at prefix name)
    (reads_attribute prefix name)
reads_array_part (Some (records.Declaration prefix uri)) = reads_seen _ _
    (declaration_at prefix uri) (reads_declaration prefix uri)
reads_array_part (Some records.EndElement) = reads_given _
reads_array_part (Some _) = reads_refuse _

pub reads_array_turn : ReadsFront array_turn
reads_array_turn = reads_then a_byte _ reads_byte (λ byte. reads_array_part (record_kind byte))

pub reads_array_parts : ReadsFront array_parts
reads_array_parts = reads_many array_turn reads_array_turn (then_begun a_byte _ [] refl)

reads_array_values : (kind : ArrayKind) (count : ℕ) → ReadsFront (array_values kind count)
reads_array_values kind count = by (count == 0) where
  by : (none : Bool)
      → ReadsFront (if none then refuse faults.BadArray else some_bytes (count * width_of kind))
  by true = reads_refuse _
  by false = reads_bytes _

pub reads_element : (prefix : PrefixForm) (name : NameForm) → ReadsFront (element_at prefix name)
reads_element prefix name = reads_then (prefix_at prefix) _ (reads_prefix prefix)
    (λ p. reads_seen _ _ (name_at name) (reads_name name))

pub reads_element_of : (kind : Option RecordKind) → ReadsFront (element_of kind)
reads_element_of None = reads_refuse _
reads_element_of (Some (records.Element prefix name)) = reads_element prefix name
reads_element_of (Some _) = reads_refuse _

reads_array_element : ReadsFront array_element
reads_array_element = reads_then a_byte _ reads_byte (λ byte. reads_element_of (record_kind byte))

reads_cells_of : (kind : Option ArrayKind) → ReadsFront (cells_of kind)
reads_cells_of None = reads_refuse _
reads_cells_of (Some kind) = reads_then an_integer _ reads_integer
    (λ count. reads_seen _ _ (array_values kind count) (reads_array_values kind count))

pub reads_array : ReadsFront array_at
unfolding array_at
reads_array =
    reads_then array_element _ reads_array_element
    (λ it. reads_then array_parts _ reads_array_parts
    (λ parts. reads_seen _ _ array_cells
    (reads_then a_byte _ reads_byte (λ byte. reads_cells_of (array_kind byte)))))

pub reads_text : (kind : TextKind) (ends : Bool) → ReadsFront (content_at kind ends)
reads_text texts.StartList ends = reads_seen _ _ (list_at true) (reads_list true)
reads_text kind ends = reads_seen (λ scalar. has_text (one scalar) ends) (λ fault. fault)
    (scalar_at kind) (reads_scalar kind)

pub reads_record : (kind : RecordKind) → ReadsFront (record_at kind)
unfolding record_at
reads_record records.EndElement = reads_given _
reads_record records.Comment = reads_seen _ _ a_string reads_string
reads_record records.Array = reads_seen _ _ array_at reads_array
reads_record (records.Attribute prefix name) = reads_seen _ _ (attribute_at prefix name)
    (reads_attribute prefix name)
reads_record (records.Declaration prefix uri) = reads_seen _ _ (declaration_at prefix uri)
    (reads_declaration prefix uri)
reads_record (records.Element prefix name) = reads_seen _ _ (element_at prefix name)
    (reads_element prefix name)
reads_record (records.Text kind ends) = reads_text kind ends

reads_unless : (fault : Option RecordFault) (kind : RecordKind)
    → ReadsFront (unless_misplaced fault kind)
reads_unless None kind = reads_record kind
reads_unless (Some fault) kind = reads_refuse fault

pub reads_placed : (place : NodePlace) (kind : Option RecordKind) → ReadsFront (placed place kind)
reads_placed AfterRoot kind = reads_refuse _
reads_placed BeforeRoot None = reads_refuse _
reads_placed BeforeRoot (Some kind) = reads_unless _ kind
reads_placed (Within may deeper) None = reads_refuse _
reads_placed (Within may deeper) (Some kind) = reads_unless _ kind

pub reads_shape : (place : NodePlace) → ReadsFront (shape_at place)
unfolding shape_at
reads_shape place = reads_then a_byte _ reads_byte (λ byte. reads_placed place (record_kind byte))

-- the record at the front of some bytes
pub node_fronts : (place : NodePlace) → ReadsFront (node_at place)
unfolding node_at
node_fronts place = reads_judged contents (shape_at place) (reads_shape place)

pub node_of_nothing : (place : NodePlace) → node_at place [] ≡ begun
unfolding node_at shape_at
node_of_nothing place = ap (judged contents) (then_begun a_byte _ [] refl)
