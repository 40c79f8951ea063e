-- What a server owes for the bytes of an initiator's stream: a fold over the stream's history,
-- which
-- carries the strings of the outgoing direction on.
use Rattle.std.specs.Prelude.{ℕ, List, [], ◌∷◌, Some, None, Ok, Err, Option, Result}
use Rattle.io_edges.specs.Faults.{one_more}
use Rattle.nbfx_values.specs.{Limits.Limits, QuotasOf.limits_of, declared.limits.Two.Two}
use Rattle.unit_streams.specs.Tellers.{report, Teller}
use Rattle.string_tables.specs.{StaticStrings.Entry, StringTable.StringTable}
use Rattle.nbfx_values.specs.declared.{content.Item.Item, refusals.Offence.Offence}
use Rattle.nbfx_values.specs.declared.session.Kind.{Kind, TheVariants.Session}
use Rattle.nbfx_values.specs.declared.session.Mode.{Mode, TheVariants.Simplex}
use Rattle.nmf_records.specs.{declared.frame.Frame.TheVariants.PreambleAck, Writing.frame_bytes_of}
use Rattle.nbfx_encoder.specs.declared.sender.{SendState.SendState, Side.TheVariants.Receiver}
use Rattle.nbfx_encoder.specs.declared.sender.SendState.TheVariants.{Ready, Spent}
use Rattle.nbfx_encoder.specs.{Envelopes.envelope, Placing.Placed, Spelling.encoded, Spelling.Unfit}
use Rattle.nbfx_encoder.specs.Sending.{behind_message, first_state}
use Rattle.stream_reader.specs.Stream.{initiators, Settings, stream, StreamEvent}
use Rattle.{stream_loop.specs.Answers.written_by, receiver_machine.specs.Owed.closing_bytes}
use Rattle.action_dispatch.specs.{declared.answers.Answer.Answer, Refusals.unfit_fault}
use Rattle.action_dispatch.specs.declared.answers.Answer.TheVariants.{Nothing, Reply}
use Rattle.action_dispatch.specs.Answers.{answered, Serves}
use Rattle.duplex_server.specs.declared.requests.Request.{Request, TheVariants.Received}
use Rattle.duplex_server.specs.declared.requests.Request.TheVariants.{Ended, Opened}
use Rattle.duplex_server.specs.Requests.{request_for}

-- how requests are answered: what the service says, the strings that both ends have, and the quotas
-- of what the initiator sends and of what is sent back
pub record Answering : Type 0 where
  pub serves : Serves
  pub statics : List Entry
  pub forward : Limits
  pub back : Limits

abbrev pub answering_within : Serves → List Entry → (forward back : Limits) → Answering
answering_within serves statics forward back =
    record { serves = serves; statics = statics; forward = forward; back = back }

abbrev pub answering : Serves → List Entry → Two → Answering
answering serves statics quotas =
    answering_within serves statics (limits_of quotas.forward) (limits_of quotas.back)

-- what the requests so far have left of the outgoing direction
pub record Replying : Type 0 where
  -- of the initiator's preamble
  pub mode : Mode
  pub kind : Kind
  -- whether an answer may be sent
  pub moment : SendState
  -- the strings that both ends have, and those that the answers have brought
  pub table : StringTable
  -- how many answers were sent
  pub answers : ℕ

abbrev pub no_strings : List Entry → StringTable
no_strings statics = record { statics = statics; strings = [] }

-- before the preamble no answer may be sent
abbrev pub start : List Entry → Replying
start statics = record {
  mode = Simplex;
  kind = Session;
  moment = Spent;
  table = no_strings statics;
  answers = 0;
}

-- behind the preamble
abbrev pub opened : List Entry → Mode → Kind → Replying → Replying
opened statics mode kind s = record s {
  mode = mode;
  kind = kind;
  moment = first_state mode Receiver;
  table = no_strings statics;
}

-- the first payload of two documents that fits, where one does
abbrev pub first_fitting : Result (Placed (List ℕ)) Unfit → Result (Placed (List ℕ)) Unfit
    → Option (Placed (List ℕ))
first_fitting (Ok payload) other = Some payload
first_fitting (Err why) (Ok payload) = Some payload
first_fitting (Err why) (Err other) = None

-- where an answer may be sent
abbrev pub when_ready : {A : Type 0} → SendState → Option A → Option A
when_ready Ready payload = payload
when_ready moment payload = None

-- the payload of an answer, or of the fault in place of one that doesn't fit
abbrev pub payload_of : Limits → Replying → Answer → Option (Placed (List ℕ))
payload_of limits s Nothing = None
payload_of limits s (Reply document relates version) = when_ready s.moment
    (first_fitting (encoded limits s.kind s.table document)
    (encoded limits s.kind s.table (unfit_fault version relates)))

abbrev pub told_reply : Mode → Option (Placed (List ℕ)) → List ℕ
told_reply mode None = []
told_reply mode (Some payload) = envelope mode payload.0

-- behind an answer
abbrev pub behind_reply : Option (Placed (List ℕ)) → Replying → Replying
behind_reply None s = s
behind_reply (Some payload) s = record s {
  moment = behind_message s.mode;
  table = payload.1;
  answers = one_more s.answers;
}

module _ (x : Answering) where
  -- the payload of the answer to a document
  abbrev pub reply_to : Replying → List Item → Option (Placed (List ℕ))
  reply_to s document = payload_of x.back s (answered x.serves document)

  -- what is owed for a request, and what it leaves
  abbrev pub owed_for : Replying → Request → List ℕ
  owed_for s (Opened mode kind) = frame_bytes_of PreambleAck []
  owed_for s (Received document) = told_reply s.mode (reply_to s document)
  owed_for s Ended = []

  abbrev pub behind : Replying → Request → Replying
  behind s (Opened mode kind) = opened x.statics mode kind s
  behind s (Received document) = behind_reply (reply_to s document) s
  behind s Ended = s

  -- what a server owes for requests
  abbrev pub replies : Teller Replying Request Offence
  replies = record {
    start = start x.statics;
    told = owed_for;
    next = behind;
    ends = λ s refusal. closing_bytes refusal;
  }

  -- an initiator's stream to the Via that is served alone, or to any
  abbrev pub requests_to : Option (List ℕ) → Settings
  requests_to endpoint =
      record { side = initiators endpoint; statics = x.statics; limits = x.forward }

  -- and for the bytes of an initiator's stream
  abbrev pub owed_by : Teller Replying StreamEvent Offence
  owed_by = written_by request_for replies

  abbrev pub owed : Option (List ℕ) → List ℕ → List ℕ
  owed endpoint bytes = report (stream (requests_to endpoint)) owed_by bytes

-- how many documents there are among requests, where so many were there before
abbrev pub messages_behind : Request → ℕ → ℕ
messages_behind (Received document) n = one_more n
messages_behind request n = n

unfoldable pub messages_along : ℕ → List Request → ℕ
messages_along n [] = n
messages_along n (request ∷ requests) = messages_along (messages_behind request n) requests
