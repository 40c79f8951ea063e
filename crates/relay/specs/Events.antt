-- What the events of a stream say to a relay: that its session begins, in which mode and encoding,
-- and whether its last one was a Fault.
use Rattle.std.specs.Prelude.{Bool, true, false, ◌||◌, List, [], ◌∷◌, map}
use Rattle.nbfx_values.specs.declared.{content.Item.Item, session.Kind.Kind, session.Mode.Mode}
use Rattle.nbfx_values.specs.declared.session.{Kind.TheVariants.Session, Mode.TheVariants.Duplex}
use Rattle.nbfx_encoder.specs.declared.sender.Side.{Side}
use Rattle.nbfx_encoder.specs.declared.sender.Side.TheVariants.{Initiator, Receiver}
use Rattle.stream_reader.specs.Stream.{StreamEvent}
use Rattle.session_report.specs.{declared.reading.Event.Event, Saying.event_for}
use Rattle.session_report.specs.declared.reading.Event.TheVariants as heard

-- the events of a stream, as they are said
abbrev pub said : List StreamEvent → List Event
said events = map event_for events

-- The session that a relay writes begins behind this event of the other: as an initiator's behind
-- the front's preamble, and as a receiver's behind the back's Ack.
abbrev pub begins : Event → Side → Bool
begins (heard.Opened mode kind via) Initiator = true
begins heard.Accepted Receiver = true
begins event side = false

-- one of these events begins it
unfoldable pub has_begun : Side → List Event → Bool
has_begun side [] = false
has_begun side (event ∷ events) = begins event side || has_begun side events

-- the mode and the encoding that the first preamble names; those of a usual session where there is
-- none
unfoldable pub mode_in : List Event → Mode
mode_in [] = Duplex
mode_in (heard.Opened mode kind via ∷ events) = mode
mode_in (event ∷ events) = mode_in events

unfoldable pub kind_in : List Event → Kind
kind_in [] = Session
kind_in (heard.Opened mode kind via ∷ events) = kind
kind_in (event ∷ events) = kind_in events

-- the documents of envelopes
unfoldable pub documents_in : List Event → List (List Item)
documents_in [] = []
documents_in (heard.Message received ∷ events) = received.doc ∷ documents_in events
documents_in (event ∷ events) = documents_in events

-- an event is a Fault
abbrev pub is_fault : Event → Bool
is_fault (heard.PeerFault n text) = true
is_fault event = false

-- the last event is one, or else it was so before
unfoldable pub faulted_along : Bool → List Event → Bool
faulted_along faulted [] = faulted
faulted_along faulted (event ∷ events) = faulted_along (is_fault event) events
