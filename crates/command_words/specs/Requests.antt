-- What the values of options mean, and the words of a request.
use Rattle.std.specs.Prelude.{◌≡◌, ℕ, ◌*◌, ◌^◌, ◌<◌, ◌≤◌, false, max, List, ◌∷◌, length, IsTrue, Some}
use Rattle.std.specs.{Prelude.None, Prelude.decimal, Prelude.Option, List.list_all, List.list_any}
use Rattle.nbfx_values.specs.declared.session.{Encoding.Encoding, Kind.Kind, Mode.Mode}
use Rattle.nbfx_values.specs.{Limits.IsGood, Limits.Limits, Limits.usual_limits, Session.encoding_kind}
use Rattle.command_words.specs.declared.{action.Action.Action, task.Origin.Origin}
use Rattle.command_words.specs.declared.action.Action.TheVariants.{Build, Call, Check, Dump, Gen}
use Rattle.command_words.specs.declared.action.Action.TheVariants.{Pool, Rehearse, Relay, Replay, Serve}
use Rattle.command_words.specs.declared.option_name.OptionName.{OptionName}
use Rattle.command_words.specs.declared.option_name.OptionName.TheVariants.{Actions, Connect}
use Rattle.command_words.specs.declared.option_name.OptionName.TheVariants.{Connections, Content}
use Rattle.command_words.specs.declared.option_name.OptionName.TheVariants.{Count, Depth}
use Rattle.command_words.specs.declared.option_name.OptionName.TheVariants.{Dictionary, Endpoint}
use Rattle.command_words.specs.declared.option_name.OptionName.TheVariants.{Encoding as EncodingOption}
use Rattle.command_words.specs.declared.option_name.OptionName.TheVariants.{Id, Listen}
use Rattle.command_words.specs.declared.option_name.OptionName.TheVariants.{Mode as ModeOption}
use Rattle.command_words.specs.declared.option_name.OptionName.TheVariants.{Payload, Replies}
use Rattle.command_words.specs.declared.option_name.OptionName.TheVariants.{BackStatic, Sessions}
use Rattle.command_words.specs.declared.option_name.OptionName.TheVariants.{ReplyContent, ReplyDepth}
use Rattle.command_words.specs.declared.option_name.OptionName.TheVariants.{ReplyDictionary, ReplyPayload}
use Rattle.command_words.specs.declared.option_name.OptionName.TheVariants.{Second, Seed, Session}
use Rattle.command_words.specs.declared.option_name.OptionName.TheVariants.{Static, Via, Window}
use Rattle.command_words.specs.declared.task.Detail.{Detail, TheVariants.Summary, TheVariants.Whole}
use Rattle.command_words.specs.declared.task.Origin.TheVariants.{Initiator, Receiver}
use Rattle.command_words.specs.Commands.{options_of, word_of}
use Rattle.command_words.specs.Options.{Given, given_for, HaveValues, is_option, IsOnce}
use Rattle.command_words.specs.{Options.SpellOptions, Options.Text}
use Rattle.command_words.specs.Tasks.{Rehearsal, Relaying, Serving, Task}
use Rattle.command_words.specs.Tasks.{build, call, generate, Opening, pool, relay, replay, report, serve}
use Rattle.command_words.specs.Values.{is_blank, IsEncoding, IsMode, IsNumber, mode_name}

-- the limits of what the initiator sends, and of what the receiver does
pub record TwoLimits : Type 0 where
  pub forward : Limits
  pub back : Limits

-- what words ask of a command on sessions: what each is told, and what is to be done
pub record AskedOfSessions : Type 0 where
  -- the name of the file of the static strings
  pub statics : Text
  pub limits : TwoLimits
  pub task : Task

-- what words ask for: a task on sessions, or the history of a sequence
pub data Asked : Type 0 where
  of_sessions : AskedOfSessions → Asked
  rehearsal : Rehearsal → Asked

-- ---- what values mean

-- the value of each option, where it is given
abbrev pub Values : Type 0
Values = OptionName → Option Text

-- the values of the options of one direction's quotas
pub record QuotaValues : Type 0 where
  pub payload : Option Text
  pub depth : Option Text
  pub dictionary : Option Text
  pub content : Option Text
  pub session : Option Text

abbrev pub forward_values : Values → QuotaValues
forward_values value = record {
  payload = value Payload;
  depth = value Depth;
  dictionary = value Dictionary;
  content = value Content;
  session = value Session;
}

-- a session has one quota on its bytes, whichever end sends them
abbrev pub reply_values : Values → QuotaValues
reply_values value = record {
  payload = value ReplyPayload;
  depth = value ReplyDepth;
  dictionary = value ReplyDictionary;
  content = value ReplyContent;
  session = None;
}

-- the content where no value sets it: the usual one, but for a payload that is set four times as
-- much, and no less than for any
abbrev pub content_beside : Option Text → (usual payload : ℕ) → ℕ
content_beside None usual payload = usual
content_beside (Some text) usual payload = max usual_limits.content (4 * payload)

-- the limits that values set, where these are the usual ones
pub record AreLimits (given : QuotaValues) (usual limits : Limits) : Type 0 where
  pub payload : IsNumber given.payload usual.payload limits.payload
  pub depth : IsNumber given.depth usual.depth limits.depth
  pub dictionary : IsNumber given.dictionary usual.dictionary limits.dictionary
  pub content : IsNumber given.content (content_beside given.payload usual.content limits.payload)
      limits.content
  pub via : limits.via ≡ usual.via
  pub session : IsNumber given.session usual.session limits.session

-- the limits of both directions that values set; where none is given for replies, they have that of
-- the other direction
pub record AreTwo (value : Values) (limits : TwoLimits) : Type 0 where
  pub forward : AreLimits (forward_values value) usual_limits limits.forward
  pub back : AreLimits (reply_values value) limits.forward limits.back

-- and both are good
pub record AreGood (limits : TwoLimits) : Type 0 where
  pub forward : IsGood limits.forward
  pub back : IsGood limits.back

-- the stream is an initiator's, or a receiver's in the mode that a value names
abbrev pub IsOrigin : Option Text → Kind → Origin → Type 0
IsOrigin None kind origin = origin ≡ Initiator
IsOrigin (Some text) kind origin =
    (mode : Mode) × (text ≡ mode_name mode) × (origin ≡ Receiver mode kind)

-- the values ask for a stream to be read and reported; an initiator's is of the encoding that its
-- own records name, whatever the value says
pub record AskToReport (detail : Detail) (value : Values) (task : Task) : Type 0 where
  pub origin : Origin
  pub encoding : Encoding
  pub encoded : IsEncoding (value EncodingOption) encoding
  pub replies : IsOrigin (value Replies) (encoding_kind encoding) origin
  pub is : task ≡ report detail origin

-- the values say what a session is opened with
pub record IsOpening (value : Values) (opening : Opening) : Type 0 where
  pub via : value Via ≡ Some opening.via
  pub short : length opening.via ≤ usual_limits.via
  pub mode : IsMode (value ModeOption) opening.mode
  pub encoded : IsEncoding (value EncodingOption) opening.encoding

-- the values ask for documents to be written
pub record AskToBuild (value : Values) (task : Task) : Type 0 where
  pub opening : Opening
  pub opens : IsOpening value opening
  pub is : task ≡ build opening

-- what the values say sessions are served with
abbrev pub serving_in : Values → Serving
serving_in value = record { endpoint = value Endpoint; actions = value Actions }

-- the values ask for a stream to be answered
abbrev pub AskToReplay : Values → Task → Type 0
AskToReplay value task = task ≡ replay (serving_in value)

-- how many connections a server accepts at most
abbrev pub most_connections : ℕ
most_connections = 1000000

-- the values ask for connections to be answered
pub record AskToServe (value : Values) (task : Task) : Type 0 where
  pub listen : Text
  pub connections : ℕ
  pub place : value Listen ≡ Some listen
  pub number : IsNumber (value Connections) most_connections connections
  pub least : 1 ≤ connections
  pub most : connections ≤ most_connections
  pub is : task ≡ serve listen connections (serving_in value)

-- the values ask for a server to be called
pub record AskToCall (value : Values) (task : Task) : Type 0 where
  pub connect : Text
  pub opening : Opening
  pub place : value Connect ≡ Some connect
  pub opens : IsOpening value opening
  pub is : task ≡ call connect opening (value Second)

-- what the values say the sessions of peers are joined with
abbrev pub relaying_in : Values → (listen connect via : Text) → (connections : ℕ) → Relaying
relaying_in value listen connect via connections = record {
  listen = listen;
  connect = connect;
  via = via;
  back_statics = value BackStatic;
  connections = connections;
  endpoint = value Endpoint;
}

-- the values ask for sessions to be joined
pub record AskToRelay (value : Values) (task : Task) : Type 0 where
  pub listen : Text
  pub connect : Text
  pub via : Text
  pub connections : ℕ
  pub place : value Listen ≡ Some listen
  pub server : value Connect ≡ Some connect
  pub opened : value Via ≡ Some via
  pub short : length via ≤ usual_limits.via
  pub number : IsNumber (value Connections) most_connections connections
  pub least : 1 ≤ connections
  pub most : connections ≤ most_connections
  pub is : task ≡ relay (relaying_in value listen connect via connections)

-- how many connections are answered at once at most, and how many sessions of each
abbrev pub most_at_once : ℕ
most_at_once = 1024

abbrev pub most_in_turn : ℕ
most_in_turn = 1024

-- the values ask for connections to be answered at once
pub record AskToPool (value : Values) (task : Task) : Type 0 where
  pub listen : Text
  pub connections : ℕ
  pub sessions : ℕ
  pub place : value Listen ≡ Some listen
  pub number : IsNumber (value Connections) most_at_once connections
  pub least : 1 ≤ connections
  pub most : connections ≤ most_at_once
  pub turns : IsNumber (value Sessions) most_in_turn sessions
  pub least_turns : 1 ≤ sessions
  pub most_turns : sessions ≤ most_in_turn
  pub is : task ≡ pool listen connections sessions (serving_in value)

-- how many documents are made at most
abbrev pub most_documents : ℕ
most_documents = 1000000

-- the values ask for documents to be made
pub record AskToGenerate (value : Values) (task : Task) : Type 0 where
  pub seed : ℕ
  pub count : ℕ
  pub seeded : value Seed ≡ Some (decimal seed)
  pub small : seed < 2 ^ 64
  pub counted : value Count ≡ Some (decimal count)
  pub most : count ≤ most_documents
  pub is : task ≡ generate seed count

-- how far the numbers of a sequence may be ahead at most, and where no value says it
abbrev pub most_window : ℕ
most_window = 1024

abbrev pub usual_window : ℕ
usual_window = 32

-- the values ask for the history of a sequence
pub record AskToRehearse (value : Values) (asked : Rehearsal) : Type 0 where
  pub identified : value Id ≡ Some asked.id
  pub named : is_blank asked.id ≡ false
  pub number : IsNumber (value Window) usual_window asked.window
  pub least : 1 ≤ asked.window
  pub most : asked.window ≤ most_window

-- what the values ask of each command on sessions
abbrev pub AskForTask : Action → Values → Task → Type 0
AskForTask Check value task = AskToReport Summary value task
AskForTask Dump value task = AskToReport Whole value task
AskForTask Build value task = AskToBuild value task
AskForTask Replay value task = AskToReplay value task
AskForTask Serve value task = AskToServe value task
AskForTask Call value task = AskToCall value task
AskForTask Relay value task = AskToRelay value task
AskForTask Pool value task = AskToPool value task
AskForTask Gen value task = AskToGenerate value task
AskForTask Rehearse value task = ⊥

-- and what each is told
pub record AskForSessions (action : Action) (value : Values) (asked : AskedOfSessions)
    : Type 0 where
  pub named : value Static ≡ Some asked.statics
  pub numbers : AreTwo value asked.limits
  pub good : AreGood asked.limits
  pub task : AskForTask action value asked.task

-- what they ask for, beside the command
abbrev pub AskFor : Action → Values → Asked → Type 0
AskFor action value (of_sessions asked) = AskForSessions action value asked
AskFor action value (rehearsal asked) = (action ≡ Rehearse) × AskToRehearse value asked

-- ---- the words of a request

-- each option that is given is one of the command's
abbrev pub AreOptionsOf : Action → List Given → Type 0
AreOptionsOf action given =
    IsTrue (list_all (λ one. list_any (is_option one.0) (options_of action)) given)

-- the words are options of the command with their values, none of them twice and no value empty
pub record GiveOptions (action : Action) (words : List Text) (given : List Given) : Type 0 where
  pub spelled : SpellOptions words given
  pub known : AreOptionsOf action given
  pub once : IsOnce given
  pub full : HaveValues given

-- the program's name, a command, and then what it is to do
pub record IsRequest (words : List Text) (asked : Asked) : Type 0 where
  pub program : Text
  pub action : Action
  pub options : List Text
  pub given : List Given
  pub command : words ≡ program ∷ word_of action ∷ options
  pub gives : GiveOptions action options given
  pub meant : AskFor action (given_for given) asked
