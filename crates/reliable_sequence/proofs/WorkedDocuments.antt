-- Worked cases: documents that are read or refused, and literal events over documents.
use Rattle.soap_envelope.specs.declared.versions.Addressing.TheVariants.{V10}
use Rattle.std.proofs.Common.{◌≡◌, ℕ, Bool, true, false, List, [], ◌∷◌, ◌++◌, map, Ok, Err}
use Rattle.std.proofs.Common.{codes, Result, refl}
use Rattle.nbfx_values.specs.declared.content.Item.{Item, TheVariants.Close}
use Rattle.nbfx_values.specs.declared.content.Item.TheVariants.{Comment, Start}
use Rattle.soap_envelope.specs.declared.refusals.SoapFault.{TheVariants.BadHeader}
use Rattle.soap_envelope.specs.{Making.ending, Making.middle, Making.opening, Making.words}
use Rattle.soap_envelope.proofs.OnLiterals.{envelopes_on_literals}
use Rattle.reliable_sequence.specs.declared.{parts.Data.Data, ranges.Range.Range}
use Rattle.reliable_sequence.specs.declared.events.Event.{Event, TheVariants.Ack, TheVariants.Data as Hand}
use Rattle.reliable_sequence.specs.declared.events.Event.TheVariants.{Deliver, Send, SendAck, Submit}
use Rattle.reliable_sequence.specs.declared.faults.RmFault.{RmFault, TheVariants.BadBlock}
use Rattle.reliable_sequence.specs.declared.faults.RmFault.TheVariants.{NoBlock, OtherSequence, View}
use Rattle.reliable_sequence.specs.Made.{acknowledgement_items, block_start, identifier_items, last_items}
use Rattle.reliable_sequence.specs.Made.{messaging_start, number_items}
use Rattle.reliable_sequence.specs.Made.{sequence_items}
use Rattle.reliable_sequence.specs.{Names.messaging, Ranges.range, Reading.data_in, Reading.ranges_in}
use Rattle.reliable_sequence.specs.Rehearsal.{counts_of, new_rehearsal, Rehearsal, rehearsal}

abbrev u : List ℕ
u = codes "u"

abbrev body : List Item
body = Start [] (codes "x") ∷ words (codes "hi") ∷ Close ∷ []

-- an envelope with these items in its Header
abbrev with_header : List Item → List Item
with_header items = opening V10 ++ (items ++ (middle ++ (body ++ ending)))

-- a block with these children
abbrev sequence_of : List Item → List Item
sequence_of children = block_start (codes "Sequence") ++ (children ++ Close ∷ [])

abbrev sent : ℕ → Bool → Data
sent number last = record { number = number; last = last; body = body }

abbrev DataRow : Type 0
DataRow = List Item × Result Data RmFault

abbrev AllData : List DataRow → Type 0
AllData rows =
    map (λ (r : DataRow). data_in u (with_header r.0)) rows ≡ map (λ (r : DataRow). r.1) rows

-- what is made, and what else means the same
data_read : AllData (
    (sequence_items u 1 false, Ok (sent 1 false))
    ∷ (sequence_items u 12 true, Ok (sent 12 true))
    ∷ (
      sequence_of (Comment [] ∷ (identifier_items u ++ (words (codes " ") ∷ (
          messaging_start (codes "MessageNumber") ∷ words (codes "1") ∷ words (codes "2") ∷ Close
          ∷ []
          )))),
      Ok (sent 12 false),
    )
    ∷ [])
unfolding envelopes_on_literals messaging
data_read = refl

-- what is refused: the block begins at item 4, and its first child at 6
data_refused : AllData (
    ([], Err NoBlock)
    ∷ (Start [] (codes "x") ∷ Close ∷ [], Err (View (BadHeader 4)))
    ∷ (acknowledgement_items u [], Err NoBlock)
    ∷ (sequence_items u 1 false ++ sequence_items u 1 false, Err NoBlock)
    ∷ (sequence_of [], Err (BadBlock 6))
    ∷ (sequence_of (identifier_items u), Err (BadBlock 9))
    ∷ (sequence_of (number_items 1), Err (BadBlock 6))
    ∷ (sequence_of (identifier_items u ++ number_items 0), Err (BadBlock 9))
    ∷ (sequence_of (identifier_items u ++ number_items 9223372036854775808), Err (BadBlock 9))
    ∷ (sequence_of (identifier_items u ++ (number_items 1 ++ number_items 1)), Err (BadBlock 12))
    ∷ (
      sequence_of (identifier_items u ++ (number_items 1 ++ (last_items true ++ last_items true))),
      Err (BadBlock 14),
    )
    ∷ (sequence_items (codes "v") 1 false, Err OtherSequence)
    ∷ [])
unfolding envelopes_on_literals messaging
data_refused = refl

abbrev RangesRow : Type 0
RangesRow = List Item × Result (List Range) RmFault

abbrev AllRanges : List RangesRow → Type 0
AllRanges rows =
    map (λ (r : RangesRow). ranges_in u (with_header r.0)) rows
    ≡ map (λ (r : RangesRow). r.1) rows

ranges_read : AllRanges (
    (acknowledgement_items u [], Ok [])
    ∷ (
      acknowledgement_items u (range 1 7 ∷ range 9 9 ∷ []),
      Ok (range 1 7 ∷ range 9 9 ∷ []),
    )
    -- ranges that touch, or fall, or end before they begin
    ∷ (acknowledgement_items u (range 1 7 ∷ range 8 9 ∷ []), Err (BadBlock 13))
    ∷ (acknowledgement_items u (range 8 9 ∷ range 1 6 ∷ []), Err (BadBlock 13))
    ∷ (acknowledgement_items u (range 2 1 ∷ []), Err (BadBlock 9))
    ∷ (acknowledgement_items u (range 0 1 ∷ []), Err (BadBlock 9))
    ∷ (acknowledgement_items (codes "v") [], Err OtherSequence)
    ∷ (sequence_items u 1 false, Err NoBlock)
    ∷ [])
unfolding envelopes_on_literals messaging
ranges_read = refl

-- a window, what happens, and what is seen then: what was delivered, and how many bodies were
-- submitted, delivered and acknowledged
abbrev text : List ℕ → List Item
text characters = words characters ∷ []

abbrev x : List Item
x = text (codes "x")

abbrev y : List Item
y = text (codes "y")

abbrev Row : Type 0
Row = (ℕ × List Event) × (List (List Item) × (ℕ × (ℕ × ℕ)))

abbrev seen : Rehearsal → List (List Item) × (ℕ × (ℕ × ℕ))
seen r =
    let c = counts_of r.kept in (r.delivered, (c.submitted, (c.delivered, c.acknowledged)))

abbrev AllSeen : List Row → Type 0
AllSeen rows =
    map (λ (r : Row). seen (rehearsal (new_rehearsal u r.0.0) r.0.1)) rows
    ≡ map (λ (r : Row). r.1) rows

rehearsals : AllSeen ((
  (
    32,
    Submit x false ∷ Submit y false ∷ Send 2 ∷ Send 1 ∷ Hand 0 ∷ Deliver ∷ SendAck ∷ Ack 0
        ∷ Hand 1 ∷ Hand 1 ∷ Deliver ∷ Deliver ∷ [],
  ),
  (x ∷ y ∷ [], (2, (2, 1))),
)
    ∷ (
      (
        1,
        Submit x false ∷ Submit y false ∷ Send 1 ∷ Hand 0 ∷ SendAck ∷ Ack 0
            ∷ Submit (text (codes "z")) false ∷ Send 2 ∷ Hand 1 ∷ Deliver ∷ Deliver ∷ [],
      ),
      (x ∷ [], (2, (1, 1))),
    )
    ∷ [])
unfolding envelopes_on_literals messaging
rehearsals = refl
