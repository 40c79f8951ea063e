-- A sending half: when it may send, and what it has sent.
use Rattle.std.specs.Prelude.{◌≡◌, ℕ, List, ◌++◌, Ok, Result, ⊤}
use Rattle.{string_tables.specs.StringTable.StringTable, nbfx_encoder.specs.Envelopes.envelope}
use Rattle.nbfx_values.specs.{declared.session.Kind.Kind, declared.session.Mode.Mode, Limits.Limits}
use Rattle.nbfx_values.specs.declared.session.Mode.TheVariants.{Simplex, Singleton}
use Rattle.nbfx_encoder.specs.declared.sender.{SendFault.SendFault, Side.Side}
use Rattle.nbfx_encoder.specs.declared.sender.SendFault.TheVariants.{Refused, WrongMoment}
use Rattle.nbfx_encoder.specs.declared.sender.{SendState.SendState, Sender.Sender}
use Rattle.nbfx_encoder.specs.declared.sender.SendState.TheVariants.{Closed, Ready, Spent}
use Rattle.nbfx_encoder.specs.declared.sender.Side.TheVariants.{Initiator, Receiver}
use Rattle.nbfx_encoder.specs.{EncoderState.kind_in as encoder_kind_in, Placing.Placed}
use Rattle.nbfx_encoder.specs.{EncoderState.limits_in as encoder_limits_in, Spelling.Unfit}
use Rattle.nbfx_encoder.specs.EncoderState.{names_in as encoder_names_in, Refuses}

-- what it is set to, where it is in its session, and what its identifiers name
unfoldable pub limits_in : Sender → Limits
limits_in s = encoder_limits_in s.encoder

unfoldable pub kind_in : Sender → Kind
kind_in s = encoder_kind_in s.encoder

unfoldable pub mode_in : Sender → Mode
mode_in s = s.mode

unfoldable pub side_in : Sender → Side
side_in s = s.side

unfoldable pub state_in : Sender → SendState
state_in s = s.state

unfoldable pub names_in : Sender → StringTable
names_in s = encoder_names_in s.encoder

-- a receiver sends no messages in a session of one-way ones
abbrev pub first_state : Mode → Side → SendState
first_state Simplex Receiver = Spent
first_state mode side = Ready

-- in singleton mode there is one message
abbrev pub behind_message : Mode → SendState
behind_message Singleton = Spent
behind_message mode = Ready

-- an initiator's message of singleton mode has to come
abbrev pub MayNotEnd : Mode → Side → SendState → Type 0
MayNotEnd mode side Closed = ⊤
MayNotEnd Singleton Initiator Ready = ⊤
MayNotEnd mode side state = ⊥

-- an envelope was appended, and the session's strings are those behind its payload
pub record Sends (answer : Result (Placed (List ℕ)) Unfit) (mode : Mode) (old new : List ℕ)
    (behind : StringTable) : Type 0 where
  pub payload : Placed (List ℕ)
  pub answer_is : answer ≡ Ok payload
  pub table : behind ≡ payload.1
  pub written : new ≡ old ++ envelope mode payload.0

-- a message was refused so, by a half in this state
abbrev pub RefusesMessage : Result (Placed (List ℕ)) Unfit → SendState → SendFault → Type 0
RefusesMessage answer Ready (WrongMoment state) = ⊥
RefusesMessage answer here (WrongMoment state) = state ≡ here
RefusesMessage answer Ready (Refused fault) = Refuses answer fault
RefusesMessage answer here (Refused fault) = ⊥

-- what a call leaves of what a half is set to
pub record KeepsSettings (old new : Sender) : Type 0 where
  pub limits : limits_in new ≡ limits_in old
  pub kind : kind_in new ≡ kind_in old
  pub mode : mode_in new ≡ mode_in old
  pub side : side_in new ≡ side_in old
  pub statics : (names_in new).statics ≡ (names_in old).statics
