-- What a document says to the end that takes it, or the first fault.
use Rattle.std.specs.Prelude.{ℕ, Bool, List, [], ◌∷◌, Some, None, Option, Ok, Err, Result, codes}
use Rattle.std.specs.Prelude.{◌≡◌, IsTrue, slice_get, true, false, if◌then◌else◌, bytes_eq}
use Rattle.std.specs.List.{list_any}
use Rattle.nbfx_values.specs.declared.content.Item.{Item}
use Rattle.soap_envelope.specs.declared.{blocks.Block.Block, refusals.SoapFault.SoapFault}
use Rattle.soap_envelope.specs.{Body.body_items, Children.is_start, Parts.root_scope}
use Rattle.soap_envelope.specs.{Elements.block_element, View.View, View.view}
use Rattle.reliable_sequence.specs.declared.faults.RmFault.{RmFault, TheVariants.BadBlock}
use Rattle.reliable_sequence.specs.declared.faults.RmFault.TheVariants.{NoBlock, OtherSequence}
use Rattle.reliable_sequence.specs.declared.faults.RmFault.TheVariants.{View as NoView}
use Rattle.reliable_sequence.specs.declared.{parts.Data.Data, parts.Taken.Taken, ranges.Range.Range}
use Rattle.reliable_sequence.specs.declared.reading.{Acknowledged.Acknowledged, Numbered.Numbered, Places.Places, Span.Span}
use Rattle.reliable_sequence.specs.Blocks.{acknowledgement_in, sequence_in}
use Rattle.reliable_sequence.specs.{Names.is_block, Received.Received, Received.received}
use Rattle.reliable_sequence.specs.{Sent.acknowledged, Sent.Sent}

-- the standard's block of a name, if there is just one
abbrev pub unless_again : Bool → Block → Option Block
unless_again true b = None
unless_again false b = Some b

abbrev pub block_named : List ℕ → List Block → Option Block
block_named local [] = None
block_named local (b ∷ more) =
    if is_block local b then unless_again (list_any (is_block local) more) b
    else block_named local more

-- a result by another
abbrev pub then_by : {X Y : Type 0} → Result X RmFault → (X → Result Y RmFault) → Result Y RmFault
then_by (Err fault) more = Err fault
then_by (Ok x) more = more x

-- the places of the block of a name and of Body, and the content of Body
pub record Place : Type 0 where
  pub span : Span
  pub body_at : ℕ
  pub body : List Item

abbrev pub span_of : Block → Span
span_of b = record { from = b.from; to = b.to }

abbrev pub placed : View → Option Block → Result Place RmFault
placed v None = Err NoBlock
placed v (Some b) = Ok (record { span = span_of b; body_at = v.body_at; body = v.body })

abbrev pub placed_by : List ℕ → Result View SoapFault → Result Place RmFault
placed_by local (Err fault) = Err (NoView fault)
placed_by local (Ok v) = placed v (block_named local v.blocks)

abbrev pub place_of : List ℕ → List Item → Result Place RmFault
place_of local items = placed_by local (view items)

-- these are the places of the block of a name and of Body, where an element begins
pub record IsPlaceOf (local : List ℕ) (items : List Item) (p : Places) : Type 0 where
  pub starts : IsTrue (is_start (slice_get items p.body_at))
  pub place : place_of local items ≡ Ok (record {
    span = p.span;
    body_at = p.body_at;
    body = body_items p.version items (root_scope items) p.body_at;
  })

-- what a block says
abbrev pub said : {X : Type 0} → Result X ℕ → Result X RmFault
said (Ok x) = Ok x
said (Err item) = Err (BadBlock item)

abbrev pub sequence_at : List Item → Span → Result Numbered RmFault
sequence_at items span = said (sequence_in (block_element items span.from) span.to)

abbrev pub acknowledgement_at : List Item → Span → Result Acknowledged RmFault
acknowledgement_at items span = said (acknowledgement_in (block_element items span.from) span.to)

-- a value, where it is said of this sequence
abbrev pub if_same : {X : Type 0} → (identifier other : List ℕ) → X → Result X RmFault
if_same identifier other x = if bytes_eq other identifier then Ok x else Err OtherSequence

-- what is sent by a document
abbrev pub numbered_body : Numbered → List Item → Data
numbered_body n body = record { number = n.number; last = n.last; body = body }

abbrev pub data_in : List ℕ → List Item → Result Data RmFault
data_in identifier items =
    then_by (place_of (codes "Sequence") items)
    (λ p. then_by (sequence_at items p.span)
    (λ n. if_same identifier n.identifier (numbered_body n p.body)))

abbrev pub ranges_in : List ℕ → List Item → Result (List Range) RmFault
ranges_in identifier items =
    then_by (place_of (codes "SequenceAcknowledgement") items)
    (λ p. then_by (acknowledgement_at items p.span)
    (λ a. if_same identifier a.identifier a.ranges))

-- what taking a document answers, and what is kept then
abbrev pub received_from : List ℕ → Received → List Item → Result (Taken × Received) RmFault
received_from identifier r items = then_by (data_in identifier items) (received r)

abbrev pub acknowledged_from : List ℕ → Sent → List Item → Result Sent RmFault
acknowledged_from identifier s items = then_by (ranges_in identifier items) (acknowledged s)
