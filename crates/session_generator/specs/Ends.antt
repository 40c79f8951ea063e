-- Both ends of the session that was generated, and why there are none.
use Rattle.std.specs.Prelude.{◌≡◌, ℕ, List, map, length, Some, None, Ok, ⊤}
use Rattle.{unit_streams.specs.Grammar.standing, nbfx_values.specs.Limits.Limits}
use Rattle.{string_tables.specs.StaticStrings.Entry, stream_reader.specs.Judging.offence}
use Rattle.nbfx_values.specs.declared.{content.Item.Item, refusals.Offence.Offence}
use Rattle.nbfx_values.specs.declared.refusals.Reason.TheVariants.{SessionTooLong as IsLong}
use Rattle.nbfx_values.specs.declared.session.{Kind.TheVariants.Session, Mode.TheVariants.Duplex}
use Rattle.nbfx_encoder.specs.{declared.sender.SendState.TheVariants.Closed, Placing.Placed}
use Rattle.nbfx_encoder.specs.declared.sender.Side.TheVariants.{Initiator}
use Rattle.nbfx_encoder.specs.Sending.{kind_in, limits_in, mode_in, names_in, side_in, state_in}
use Rattle.stream_reader.specs.Sessions.{Carried, conversation, IsSession}
use Rattle.stream_reader.specs.Stream.{any_initiators, stream, strings_in}
use Rattle.receiver_machine.specs.ReceiverState.{settings_of, StandsFor}
use Rattle.session_generator.specs.declared.ends.{Ends.Ends, GenFault.GenFault}
use Rattle.session_generator.specs.declared.ends.GenFault.TheVariants.{Memory, SessionTooLong}
use Rattle.session_generator.specs.Generated.{session_of, via}

-- One end has sent the session and ended it, the other has read all of it, and both have the same
-- strings. It is a session of just these documents. The sending end is an initiator's in duplex
-- mode, with session strings and the given quotas, and so is what the other reads.
pub record HaveSession (limits : Limits) (statics : List Entry) (documents : List (List Item))
    (ends : Ends) : Type 0 where
  pub session : Placed (List ℕ)
  pub session_is : session_of limits statics documents ≡ Ok session
  pub carried : List Carried
  pub documents_are : map (λ (one : Carried). one.items) carried ≡ documents
  pub is_session : IsSession (any_initiators statics limits)
      (conversation Duplex Session via carried) session.0
  pub unrefused : offence (any_initiators statics limits) session.0 ≡ None
  pub sends_within : limits_in ends.sender ≡ limits
  pub sends_strings : kind_in ends.sender ≡ Session
  pub sends_mode : mode_in ends.sender ≡ Duplex
  pub sends_side : side_in ends.sender ≡ Initiator
  pub closed : state_in ends.sender ≡ Closed
  pub sent : names_in ends.sender ≡ session.1
  pub settings : settings_of ends.receiver ≡ any_initiators statics limits
  pub read : StandsFor ends.receiver session.0
  pub same_strings : strings_in
      (standing (stream (any_initiators statics limits)) session.0).situation
      ≡ session.1.strings
  pub documents_read : ends.documents ≡ length documents
  pub bytes_read : ends.bytes ≡ length session.0

-- it is longer than the session quota
pub record IsTooLong (limits : Limits) (statics : List Entry) (documents : List (List Item))
    (o : Offence) : Type 0 where
  pub session : Placed (List ℕ)
  pub session_is : session_of limits statics documents ≡ Ok session
  pub offence_is : offence (any_initiators statics limits) session.0 ≡ Some o
  pub reason_is : o.reason ≡ IsLong

abbrev pub IsWhyNone : Limits → List Entry → List (List Item) → GenFault → Type 0
IsWhyNone limits statics documents (SessionTooLong o) = IsTooLong limits statics documents o
IsWhyNone limits statics documents Memory = ⊤

-- the receiver has the sender's strings
pub record AreLevel (ends : Ends) : Type 0 where
  pub bytes : List ℕ
  pub read : StandsFor ends.receiver bytes
  pub same_strings : strings_in
      (standing (stream (settings_of ends.receiver)) bytes).situation
      ≡ (names_in ends.sender).strings
