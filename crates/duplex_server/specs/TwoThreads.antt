-- What is known of two threads that serve a connection: the one asked for jobs, and the other did
-- them.
use Rattle.std.specs.Prelude.{◌≡◌, ◌⊎◌, ℕ, Bool, false, true, List, [], ◌∷◌, ◌++◌}
use Rattle.nbfx_values.specs.{declared.refusals.Offence.Offence, Limits.Limits}
use Rattle.string_tables.specs.StaticStrings.{Entry}
use Rattle.nbfx_values.specs.QuotasOf.{limits_of}
use Rattle.action_dispatch.specs.Answers.{Serves}
use Rattle.worker_thread.specs.{Crossing.log, declared.rule.Log.Log, Jobs.AreFirst, Jobs.IsEnded}
use Rattle.stream_loop.specs.declared.{following.FollowEnding.FollowEnding}
use Rattle.stream_loop.specs.declared.{outbound.Outbound.Outbound}
use Rattle.stream_loop.specs.declared.outbound.Outbound.TheVariants.{Done}
use Rattle.stream_loop.specs.{Parts.counting, PartsGiven.MayWait, Writing.Wrote}
use Rattle.duplex_server.specs.declared.{jobs.Job.Job, requests.Request.Request}
use Rattle.duplex_server.specs.declared.reply_thread.ReplyThread.{ReplyThread}
use Rattle.duplex_server.specs.Jobs.{AskFor, behind_jobs, is_last, parts_of}
use Rattle.duplex_server.specs.{ServerStream.messages_along, ServerStream.start, Replying.StandsAt}
use Rattle.duplex_server.specs.Serving.{closing_of}
use Rattle.io_edges.specs.Views.{SinkView}
use Rattle.duplex_server.specs.declared.jobs.Job.TheVariants as jobs

-- These requests asked for the jobs that were sent, the last of which says how the reading ended,
-- and there were so many documents.
pub record WereAsked (serves : Serves) (limits : Limits) (requests : List Request)
    (sent : List Job) (ending : FollowEnding Offence) (messages : ℕ) : Type 0 where
  pub asked : List Job
  pub sent_are : sent ≡ asked ++ jobs.Last ending ∷ []
  pub go_on : AreFirst is_last asked
  pub asks : AskFor serves limits requests asked
  pub counted : messages ≡ messages_along 0 requests

-- Jobs were done, up to the last one, since the sink was like the first; and it is like this now.
-- So many answers were put whole. Whether the sink's direction was ended before, and is now.
pub record HasReplied (statics : List Entry) (limits : Limits) (first : SinkView)
    (was_ended : Bool) (done : List Job) (outbound : Outbound) (answers : ℕ) (now : SinkView)
    (is_ended : Bool) : Type 0 where
  pub wrote : (asked : List Job) (ending : FollowEnding Offence) → AreFirst is_last asked
      → done ≡ asked ++ jobs.Last ending ∷ []
      → Wrote counting outbound (closing_of ending) first
      (parts_of statics limits (start statics) asked) (λ count. answers ≡ count) now
  pub same_end : outbound ≡ Done → is_ended ≡ was_ended
  pub back : done ≡ jobs.Back ∷ [] → (now ≡ first) × (is_ended ≡ was_ended)

-- the same by what a thread knows of the channel that has taken the last job
pub record HasTakenAll (statics : List Entry) (limits : Limits) (first : SinkView)
    (was_ended : Bool) (pass : Log Job) (outbound : Outbound) (answers : ℕ) (now : SinkView)
    (is_ended : Bool) : Type 0 where
  pub only_takes : pass ≡ log false true [] pass.taken
  pub all : IsEnded is_last pass.taken
  pub replied : HasReplied statics limits first was_ended pass.taken outbound answers now is_ended

-- The next job may be waited for: none was taken yet; or all that is due has left, or the writing
-- has ended and the sink's direction was ended.
abbrev pub NothingWaits : {R K : Type 0} → (K → SinkView) → (K → Bool) → ReplyThread R K → Type 0
NothingWaits view ended now = (now.begun ≡ false) ⊎ MayWait now.writer.parts.outbound
    now.writer.parts.gathered.items (view now.sink) (ended now.sink)

-- These jobs were done since a thread was like the first, and it is like this now: all that is due
-- for them is written or gathered; or the last of them was one that no other follows. Of sinks, by
-- what is seen of them.
pub record HasDone {R K : Type 0} (view : K → SinkView) (ended : K → Bool)
    (first : ReplyThread R K) (done : List Job) (now : ReplyThread R K) : Type 0 where
  pub statics_are : now.writer.statics.now ≡ first.writer.statics.now
  pub quotas_are : now.writer.quotas ≡ first.writer.quotas
  pub stands : AreFirst is_last done → StandsAt (view first.sink)
      (parts_of first.writer.statics.now (limits_of first.writer.quotas)
      (start first.writer.statics.now) done)
      (behind_jobs first.writer.statics.now (limits_of first.writer.quotas)
      (start first.writer.statics.now) done) now.writer (view now.sink)
  pub replied : HasReplied first.writer.statics.now (limits_of first.writer.quotas)
      (view first.sink) (ended first.sink) done now.writer.parts.outbound now.writer.parts.whole
      (view now.sink) (ended now.sink)
  pub untouched : done ≡ [] → (now.begun ≡ false) × (now.sink ≡ first.sink)
  pub unbegun : now.begun ≡ false → done ≡ []
