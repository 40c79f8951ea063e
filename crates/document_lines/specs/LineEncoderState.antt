-- Where an encoder of whole lines of documents is, and what its parts answer.
use Rattle.std.specs.Prelude.{◌≡◌, ℕ, true, List, if◌then◌else◌, Some, None, Ok, Err}
use Rattle.std.specs.Prelude.{Option, Result, ⊤}
use Rattle.nbfx_values.specs.declared.session.Mode.{Mode}
use Rattle.nbfx_encoder.specs.{declared.sender.SendState.SendState, Refusals.told}
use Rattle.nbfx_encoder.specs.declared.sender.SendState.TheVariants.{Ready, Spent}
use Rattle.nbfx_encoder.specs.{Envelopes.envelope, Placing.Placed, Sending.state_in, Spelling.Unfit}
use Rattle.nbfx_encoder.specs.Sending.{behind_message, kind_in, limits_in, mode_in, names_in}
use Rattle.stream_loop.specs.declared.reading_end.FeedFault.{FeedFault}
use Rattle.stream_loop.specs.declared.reading_end.FeedFault.TheVariants.{Memory, Refused}
use Rattle.line_notation.specs.Between.{is_between, IsUnrefused}
use Rattle.document_lines.specs.declared.InputFault.{InputFault, TheVariants.Unfit as DoesNotFit}
use Rattle.document_lines.specs.declared.line_encoder.LineEncoder.{LineEncoder}
use Rattle.document_lines.specs.Input.{is_full, Settings, Situation}

-- where the sending half is: in singleton mode it has sent all it may behind one document
abbrev pub state_at : Settings → Situation → SendState
state_at x z = if is_full x z then Spent else Ready

-- an encoder of whole lines, set so, is in this situation, where no line was refused, and in
-- singleton mode no second document has begun
pub record IsAt (x : Settings) (z : Situation) (e : LineEncoder) : Type 0 where
  pub limits : limits_in e.sender ≡ x.limits
  pub kind : kind_in e.sender ≡ x.kind
  pub mode : e.mode ≡ x.mode
  pub sends : mode_in e.sender ≡ x.mode
  pub lines : e.lines ≡ z.lines
  pub table : names_in e.sender ≡ z.table
  pub documents : e.documents ≡ z.documents
  pub state : state_in e.sender ≡ state_at x z
  pub unrefused : IsUnrefused z.lines
  pub full : is_full x z ≡ true → is_between z.lines ≡ true

-- what a call that changes nothing but the room of the next envelope leaves
pub record KeepsAll (old new : LineEncoder) : Type 0 where
  pub lines : new.lines ≡ old.lines
  pub sender : new.sender ≡ old.sender
  pub mode : new.mode ≡ old.mode
  pub documents : new.documents ≡ old.documents

-- a document was written, of which this was the payload: its envelope, and the session's strings
-- then
pub record IsSent (payload : Result (Placed (List ℕ)) Unfit) (mode : Mode) (bytes : List ℕ)
    (new : LineEncoder) : Type 0 where
  pub placed : Placed (List ℕ)
  pub payload_is : payload ≡ Ok placed
  pub bytes_are : bytes ≡ envelope mode placed.0
  pub table : names_in new.sender ≡ placed.1
  pub state : state_in new.sender ≡ behind_message mode

-- what sending the document of this number is answered with, where a message may be sent
abbrev pub SendAnswers : Result (Placed (List ℕ)) Unfit → Mode → (number : ℕ) → LineEncoder
    → Result (Option (List ℕ)) (FeedFault InputFault) → Type 0
SendAnswers payload mode number new (Ok None) = ⊥
SendAnswers payload mode number new (Ok (Some bytes)) = IsSent payload mode bytes new
SendAnswers payload mode number new (Err (Refused fault)) =
    (why : Unfit) × (payload ≡ Err why) × (fault ≡ DoesNotFit number (told why))
SendAnswers payload mode number new (Err Memory) = ⊤

-- what it is set to
unfoldable pub settings_in : LineEncoder → Settings
settings_in e = record {
  limits = limits_in e.sender;
  kind = kind_in e.sender;
  mode = e.mode;
  statics = (names_in e.sender).statics;
}

-- it is in this situation, as it is set
abbrev pub IsIn : LineEncoder → Situation → Type 0
IsIn e z = IsAt (settings_in e) z e
