-- What is known of a call by which two lists are sent: it is the call of one list, which is a merge
-- of both.
use Rattle.std.specs.Prelude.{◌≡◌, ℕ, List, [], ◌++◌, length, take, Ok}
use Rattle.nbfx_values.specs.declared.content.Item.{Item}
use Rattle.session_ends.specs.Sent.{MayBeSent}
use Rattle.stream_loop.specs.declared.outbound.Outbound.{Outbound, TheVariants.Done}
use Rattle.io_edges.specs.{Puts.Puts, Views.SinkView}
use Rattle.two_lanes.specs.{declared.jobs.Lane.Lane, Merges.AreAll, Merges.merge}
use Rattle.client.specs.declared.answers.Stage.{Stage, TheVariants.Opened, TheVariants.Unopened}
use Rattle.client.specs.declared.lanes.LanesOutcome.{LanesOutcome}
use Rattle.client.specs.declared.outcome.{CallOutcome.CallOutcome, ClientOut.ClientOut}
use Rattle.client.specs.declared.settings.CallSettings.{CallSettings}
use Rattle.client.specs.{Sent.sending_by, Sent.SendsAll, Tags.sent_line}

-- the outcome, as that of a call of one list
abbrev pub outcome_of : LanesOutcome → CallOutcome
outcome_of o = record {
  sent = o.sent;
  inbound = o.inbound;
  outbound = o.outbound;
  report = o.report;
}

-- The documents of both lists were sent in an order of their own, in which those of each list come
-- in order, as one list is. The letters are those of the documents that were sent.
pub record CallsLanes (Calls : List (List Item) → CallOutcome → Type 0) (a b : List (List Item))
    (o : LanesOutcome) : Type 0 where
  pub order : List Lane
  pub all : AreAll a b order
  pub tags_are : o.tags.items ≡ take o.sent order
  pub calls : Calls (merge a b order) (outcome_of o)

-- So much is known of a call, by the documents of a merge of both lists in which each has its
-- letter, and by the line of those that were sent.
pub record CallsMerged (Calls : List (List Item) → (line : ℕ → List ℕ) → Type 0)
    (a b : List (List Item)) : Type 0 where
  pub order : List Lane
  pub all : AreAll a b order
  pub calls : Calls (merge a b order) (λ sent. sent_line (take sent order))

-- the stage behind an opening that was written so
abbrev pub stage_after : Outbound → Stage
stage_after Done = Opened
stage_after opened = Unopened

-- what was put of the documents of both lists behind other bytes, in which order, with the letters
-- of those that were put whole
pub record SendsLanes (s : CallSettings) (a b : List (List Item)) (sink sink' : SinkView)
    (tags : List Lane) (outbound : ClientOut) : Type 0 where
  pub order : List Lane
  pub all : AreAll a b order
  pub tags_are : MayBeSent s.mode (a ++ b) → tags ≡ take (length tags) order
  pub sends : MayBeSent s.mode (a ++ b) → (start : SinkView) (before : List ℕ)
      → Puts start sink before (Ok tt) → sink.held ≡ []
      → SendsAll (sending_by s (merge a b order)) before start outbound (length tags) sink'
