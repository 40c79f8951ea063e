-- What was read of the peer's answers, and reported, by a reader that stops behind the Ack.
use Rattle.std.specs.Prelude.{◌≡◌, ℕ, List, [], ◌∷◌, ◌++◌, map, Some, None, Option, ⊤}
use Rattle.io_edges.specs.Views.{SinkView}
use Rattle.stream_reader.specs.Stream.{Settings, stream}
use Rattle.stream_reader.specs.StreamReaderState.{settings_of, StandsFor}
use Rattle.nbfx_values.specs.declared.refusals.Offence.{Offence}
use Rattle.stream_loop.specs.declared.{following.FollowEnding.FollowEnding, outbound.Outbound.Outbound}
use Rattle.stream_loop.specs.declared.resuming.ReadOn.{ReadOn}
use Rattle.client.specs.declared.answers.AckRead.{AckRead}
use Rattle.stream_loop.specs.declared.following.FollowEnding.TheVariants as endings
use Rattle.stream_loop.specs.declared.resuming.ReadOn.TheVariants as reads
use Rattle.stream_loop.specs.{Edges.Input, Followed.Follows, Resumed.HasComeTo}
use Rattle.stream_loop.specs.Writing.{Writes}
use Rattle.session_report.specs.declared.{reading.Event.Event, reporter.Outcome.Outcome}
use Rattle.session_report.specs.Saying.{event_for, said_by}
use Rattle.command_words.specs.declared.task.Detail.TheVariants.{Whole}
use Rattle.client.specs.Called.{Awaited, Read}
use Rattle.client.specs.declared.answers.{AnswerHandler.AnswerHandler, AnswerReader.AnswerReader}
use Rattle.client.specs.declared.answers.{Stage.Stage}
use Rattle.client.specs.declared.answers.Stage.TheVariants.{Acked, Opened, Unopened}
use Rattle.client.specs.declared.settings.CallSettings.{CallSettings}
use Rattle.client.specs.{Called.ack_along, Called.answers_to, Called.reached_along, Sent.sending_by}
use Rattle.session_report.specs.declared.reading.Event.TheVariants as said

-- the stream that is read
abbrev pub reads_by : CallSettings → Settings
reads_by s = answers_to (sending_by s [])

-- how the reading of a stream ended, unless the handler stopped it
abbrev pub ending_by : ReadOn Offence AckRead → Option (FollowEnding Offence)
ending_by (reads.Judged judged) = Some (endings.Judged judged)
ending_by reads.ReadFault = Some endings.ReadFault
ending_by reads.Memory = Some endings.Memory
ending_by (reads.Halted halt) = None

-- the stage that a call is in behind these events
abbrev pub IsAt : Stage → List Event → Type 0
IsAt Opened events = ack_along Awaited events ≡ Awaited
IsAt Acked events = ack_along Awaited events ≡ Read
IsAt Unopened events = ⊤

module _ (first : SinkView) where
  -- these events were handled and reported since the output was like the first
  pub record HasTold (events : List Event) (stage : Stage) (reached : Outcome) (report : Outbound)
      (now : SinkView) : Type 0 where
    pub stage_is : IsAt stage events
    pub reached_is : reached ≡ reached_along events
    pub reported : Writes (said_by Whole) report first events reached (λ s. ⊤) now

  abbrev pub HasReported : List Event → AnswerHandler → SinkView → Type 0
  HasReported events handler now =
      HasTold events handler.stage handler.reached handler.report now

  -- they were, and then the Ack, at which the reading was stopped
  pub record HasHalted (events : List Event) (at : Option Event) (handler : AnswerHandler)
      (now : SinkView) : Type 0 where
    pub awaited : handler.stage ≡ Opened
    pub at_is : at ≡ Some said.Accepted
    pub told : HasTold (events ++ said.Accepted ∷ []) Acked handler.reached handler.report now

module _ (y : Settings) (i : Input) (first : SinkView) where
  -- p was read of such a stream since source and output were like the first, and reported
  pub record HasComeSo (p : List ℕ) (r : AnswerReader) (i' : Input) (now : SinkView) : Type 0 where
    pub grammar : stream (settings_of r.end.reader) ≡ stream y
    pub come : HasComeTo (stream y) i i' (StandsFor r.end.reader) (λ paused since. HasReported first
        (map event_for paused ++ map event_for since) r.handler now) p r.buffer

  -- the stream was read to its end, at this stage
  abbrev pub IsFollowed : Stage → AnswerReader → Input → SinkView → FollowEnding Offence → Type 0
  IsFollowed stage r i' now ending = Follows (stream y) (λ events. HasTold first
      (map event_for events) stage r.handler.reached r.handler.report now) i i' ending
