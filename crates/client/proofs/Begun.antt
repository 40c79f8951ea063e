-- What is known of a call whose Ack was read, when its documents were sent and the peer's stream is
-- over.
use Rattle.std.proofs.Common.{◌≡◌, ℕ, List, [], Ok}
use Rattle.std.specs.Prelude.{⊤}
use Rattle.io_edges.specs.{Faults.CountsFaults, Puts.Puts, Views.SinkView}
use Rattle.nbfx_values.specs.declared.{content.Item.Item, refusals.Offence.Offence}
use Rattle.stream_loop.specs.declared.following.FollowEnding.{FollowEnding, TheVariants.ReadFault}
use Rattle.initiator_machine.specs.Opening.{opening_bytes}
use Rattle.stream_loop.specs.{Edges.Input, Writing.Writes, Writing.Wrote}
use Rattle.session_report.specs.declared.reading.Event.{Event}
use Rattle.session_report.specs.Saying.{said_by}
use Rattle.command_words.specs.declared.task.Detail.TheVariants.{Whole}
use Rattle.client.specs.declared.answers.{AnswerReader.AnswerReader, Stage.TheVariants.Acked}
use Rattle.client.specs.declared.{outcome.CallOutcome.CallOutcome, settings.CallSettings.CallSettings}
use Rattle.client.specs.{Answering.IsFollowed, Answering.reads_by, Beginning.HasBegun}
use Rattle.client.specs.Called.{closing_of, inbound_by, KnownCall}
use Rattle.client.specs.Sent.{sending_by, SendsAll}
use Rattle.client.proofs.LaneCalled.{knows_sent}

module _ (s : CallSettings) (via : List ℕ) (documents : List (List Item)) (i mid i' : Input)
    (sink begun sink' output told reported output' : SinkView) (reader last : AnswerReader)
    (ending : FollowEnding Offence) (called : CallOutcome)
    (has : HasBegun s via i mid sink begun output told reader)
    (followed : IsFollowed (reads_by s) i output Acked last i' reported ending)
    (counted : CountsFaults mid.faults i'.faults (ending ≡ ReadFault))
    (closed : (first : SinkView) (events : List Event)
    → Writes (said_by Whole) last.handler.report first events last.handler.reached (λ s. ⊤) reported
    → Wrote (said_by Whole) called.report (closing_of ending last.handler.reached) first events
    (λ s. ⊤) output')
    (inbound_is : called.inbound ≡ inbound_by ending last.handler.reached)
    (sends : (start : SinkView) (before : List ℕ) → Puts start begun before (Ok tt)
    → begun.held ≡ [] → SendsAll (sending_by s documents) before start called.outbound called.sent
    sink') where
  pub knows_behind : KnownCall (sending_by s documents) via i i' sink sink' output output' called
  knows_behind = knows_sent (sending_by s documents) via i i' sink sink' output reported output'
      called ending last.handler.reached last.handler.report closed inbound_is
      (rw has.uncounted at counted) followed
      (sends sink (opening_bytes s.mode s.encoding via) has.puts has.emptied)
