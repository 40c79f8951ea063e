-- What a writer of replies has written and gathered, and of which requests that is.
use Rattle.std.specs.Prelude.{◌≡◌, ℕ, Bool, List, [], Some, None, Option}
use Rattle.nbfx_values.specs.{Limits.Limits, QuotasOf.limits_of}
use Rattle.unit_streams.specs.Tellers.{state_behind}
use Rattle.nbfx_encoder.specs.declared.sender.{SendState.TheVariants.Spent, Sender.Sender}
use Rattle.nbfx_encoder.specs.Sending.{kind_in, limits_in, mode_in, names_in, state_in}
use Rattle.action_dispatch.specs.Answers.{Serves}
use Rattle.stream_loop.specs.declared.outbound.Outbound.TheVariants.{Done}
use Rattle.stream_loop.specs.{Parts.Part, PartsGiven.IsLittle, PartsGiven.WasGiven}
use Rattle.duplex_server.specs.declared.{replier.Replier.Replier, requests.Request.Request}
use Rattle.duplex_server.specs.declared.reply_writer.ReplyWriter.{ReplyWriter}
use Rattle.duplex_server.specs.ServerStream.{Answering, answering, behind, messages_along, owed_for}
use Rattle.duplex_server.specs.ServerStream.{replies, Replying, start}
use Rattle.io_edges.specs.Views.{SinkView}
use Rattle.stream_loop.specs.PartsDue as due

-- a sending half is where the outgoing direction is
pub record SendsAt (limits : Limits) (sender : Sender) (s : Replying) : Type 0 where
  pub limits_are : limits_in sender ≡ limits
  pub mode_is : mode_in sender ≡ s.mode
  pub kind_is : kind_in sender ≡ s.kind
  pub moment_is : state_in sender ≡ s.moment
  pub table_is : names_in sender ≡ s.table

-- there is none before the preamble
abbrev pub IsAt : Limits → Option Sender → Replying → Type 0
IsAt limits None s = s.moment ≡ Spent
IsAt limits (Some sender) s = SendsAt limits sender s

-- A writer was given these parts since the sink was like the first, and it is like this now.
-- While the writing goes on, the writer is where these leave the outgoing direction.
pub record StandsAt (first : SinkView) (parts : List Part) (s : Replying) (writer : ReplyWriter)
    (now : SinkView) : Type 0 where
  pub given : WasGiven first parts writer.parts now
  pub is_at : writer.parts.outbound ≡ Done → IsAt (limits_of writer.quotas) writer.sender s
  pub little : IsLittle writer.parts

-- What a job leaves of what a writer is set to and of the sink's direction. Once the writing has
-- ended it leaves the sink as it is.
pub record KeepsWriting {K : Type 0} (ended : K → Bool) (old new : ReplyWriter) (was now : K)
    : Type 0 where
  pub statics_are : new.statics.now ≡ old.statics.now
  pub quotas_are : new.quotas ≡ old.quotas
  pub same_end : ended now ≡ ended was
  pub stopped : (old.parts.outbound ≡ Done → ⊥)
      → (new.parts.outbound ≡ old.parts.outbound) × (now ≡ was)

-- ---- which parts are due for requests

abbrev pub answers_in : Replying → ℕ
answers_in s = s.answers

module _ (x : Answering) where
  -- the part that is due for a request
  abbrev pub IsDue : Replying → Request → Part → Type 0
  IsDue = due.IsDue (replies x) answers_in

  -- there is none, and nothing changes
  abbrev pub IsQuiet : Replying → Request → Type 0
  IsQuiet s request = (owed_for x s request ≡ []) × (behind x s request ≡ s)

  -- these parts are due for requests, in this order
  abbrev pub AreDue : Replying → List Request → List Part → Type 0
  AreDue = due.AreDue (replies x) answers_in

-- ---- what a replier has handled

-- how a replier answers
abbrev pub answering_of : {V : Type 0} → (V → Serves) → Replier V → Answering
answering_of served replier = answering (served replier.answerer.service.now)
    replier.writer.statics.now replier.quotas

module _ (x : Answering) where
  -- these requests were handled, and answered
  pub record HasHandled {V : Type 0} (first : SinkView) (requests : List Request) (replier :
      Replier V)
      (now : SinkView) : Type 0 where
    pub counted : replier.answerer.messages ≡ messages_along 0 requests
    pub parts : List Part
    pub due : AreDue x (start x.statics) requests parts
    pub stands : StandsAt first parts
        (state_behind (replies x) (start x.statics) requests) replier.writer now
