-- A session under way, and what its steps answer. Public contracts cite none of this.
use Rattle.std.specs.Prelude.{◌≡◌, ℕ, List, ◌++◌, take, Some, Ok, Err, Result, ⊤}
use Rattle.unit_streams.specs.Judging.{Answer, completes, goes_on, offends}
use Rattle.string_tables.specs.StaticStrings.{Entry, IsStaticMap}
use Rattle.nbfx_values.specs.declared.{content.Item.Item, refusals.Offence.Offence}
use Rattle.nbfx_values.specs.declared.refusals.Reason.TheVariants.{SessionTooLong as IsLong}
use Rattle.nbfx_values.specs.declared.session.Kind.TheVariants.{Session as WithStrings}
use Rattle.nbfx_values.specs.{declared.session.Mode.TheVariants.Duplex, Documents.IsDocument}
use Rattle.nbfx_values.specs.Limits.{IsGood, Limits}
use Rattle.nbfx_encoder.specs.{declared.sender.SendState.TheVariants.Ready, Placing.Placed}
use Rattle.nbfx_encoder.specs.{declared.sender.Side.TheVariants.Initiator, Spelling.encoded}
use Rattle.{nbfx_encoder.specs.Envelopes.envelopes_from, stream_reader.specs.Judging.offence}
use Rattle.nbfx_encoder.specs.Sending.{kind_in, limits_in, mode_in, names_in, side_in, state_in}
use Rattle.stream_reader.specs.Stream.{any_initiators, Settings, StreamEvent}
use Rattle.receiver_machine.specs.declared.receiver.Receiver.{Receiver}
use Rattle.receiver_machine.specs.ReceiverState.{settings_of, StandsFor}
use Rattle.session_ends.specs.Sent.{AreDocuments, first_table}
use Rattle.session_generator.specs.declared.{ends.GenFault.GenFault, session.Session.Session}
use Rattle.session_generator.specs.declared.ends.GenFault.TheVariants.{Memory, SessionTooLong}
use Rattle.session_generator.specs.Generated.{opening}

-- how a receiver takes the bytes y behind p, by the stream's answer to them
abbrev pub IsReadSo : Answer StreamEvent Offence → List ℕ → List ℕ → Receiver → Result ⊤ GenFault
    → Type 0
IsReadSo goes_on p y r (Ok _) = StandsFor r (p ++ y)
IsReadSo (completes n e) p y r (Ok _) = StandsFor r (p ++ take n y)
IsReadSo (offends n o) p y r (Ok _) = ⊥
IsReadSo (offends n o) p y r (Err (SessionTooLong told)) = told ≡ o
IsReadSo _ p y r (Err (SessionTooLong told)) = ⊥
IsReadSo _ p y r (Err Memory) = ⊤

-- these documents were sent and read
pub record IsUnderWay (limits : Limits) (statics : List Entry) (done : List (List Item))
    (s : Session) : Type 0 where
  pub sent : Placed (List ℕ)
  pub all_fit : envelopes_from limits WithStrings Duplex (first_table statics) 0 done ≡ Ok sent
  pub are_documents : AreDocuments done
  pub names : names_in s.sender ≡ sent.1
  pub limits_are : limits_in s.sender ≡ limits
  pub kind_is : kind_in s.sender ≡ WithStrings
  pub mode_is : mode_in s.sender ≡ Duplex
  pub side_is : side_in s.sender ≡ Initiator
  pub state_is : state_in s.sender ≡ Ready
  pub settings_are : settings_of s.receiver ≡ any_initiators statics limits
  pub read : StandsFor s.receiver (opening ++ sent.0)

-- this holds wherever it is
abbrev pub WhereUnderWay : Session → (Limits → List Entry → List (List Item) → Type 0) → Type 0
WhereUnderWay s Holds = (limits : Limits) (statics : List Entry) (done : List (List Item))
    → IsGood limits → IsStaticMap statics → IsUnderWay limits statics done s
    → Holds limits statics done

-- the document may be sent, and fits
pub record CanSend (s : Session) (document : List Item) : Type 0 where
  pub is_document : IsDocument document
  pub ready : state_in s.sender ≡ Ready
  pub payload : Placed (List ℕ)
  pub fits : encoded (limits_in s.sender) (kind_in s.sender) (names_in s.sender) document
      ≡ Ok payload

-- the stream of these bytes is too long, whatever follows
abbrev pub IsRefused : Settings → List ℕ → Offence → Type 0
IsRefused x bytes o =
    (o.reason ≡ IsLong) × ((rest : List ℕ) → offence x (bytes ++ rest) ≡ Some o)

-- it is too long with these documents
pub record IsLongWith (limits : Limits) (statics : List Entry) (done : List (List Item))
    (o : Offence) : Type 0 where
  pub sent : Placed (List ℕ)
  pub all_fit : envelopes_from limits WithStrings Duplex (first_table statics) 0 done ≡ Ok sent
  pub refused : IsRefused (any_initiators statics limits) (opening ++ sent.0) o

abbrev pub Stops : Limits → List Entry → List (List Item) → GenFault → Type 0
Stops limits statics done (SessionTooLong o) = IsLongWith limits statics done o
Stops limits statics done Memory = ⊤
