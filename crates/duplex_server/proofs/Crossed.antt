-- What is known of a connection whose requests were read on one thread and answered on another.
use Rattle.std.proofs.Common.{◌≡◌, ℕ, Bool, false, List, [], ◌∷◌, ◌++◌, map, Option, refl}
use Rattle.std.proofs.Common.{ap, ◌∙◌, Some, None}
use Rattle.io_edges.specs.Faults.{CountsFaults}
use Rattle.nbfx_values.specs.declared.refusals.Offence.{Offence}
use Rattle.nbfx_values.specs.Limits.{Limits}
use Rattle.string_tables.specs.StaticStrings.{Entry}
use Rattle.stream_reader.specs.Stream.{stream, StreamEvent}
use Rattle.stream_loop.specs.declared.{following.FollowEnding.FollowEnding}
use Rattle.stream_loop.specs.{Edges.Input, Followed.Follows, Followed.Leaves}
use Rattle.stream_loop.specs.{Followed.WasTaken, Parts.Part}
use Rattle.worker_thread.specs.Jobs.{AreFirst, IsEnded}
use Rattle.action_dispatch.specs.Answers.{Serves as Serving}
use Rattle.duplex_server.specs.declared.requests.Request.TheVariants.{Ended, Opened}
use Rattle.duplex_server.specs.declared.requests.Request.TheVariants.{Received}
use Rattle.duplex_server.specs.declared.{jobs.Job.Job, outcome.Outcome.Outcome}
use Rattle.duplex_server.specs.declared.requests.Request.{Request}
use Rattle.duplex_server.specs.Jobs.{AsksFor, behind_job, behind_jobs, is_last, part_for}
use Rattle.duplex_server.specs.Jobs.{parts_of}
use Rattle.duplex_server.specs.ServerStream.{Answering, replies, Replying, requests_to, start}
use Rattle.duplex_server.specs.{Requests.request_for, Serving.HasServed, Serving.inbound_of}
use Rattle.duplex_server.specs.{Carrying.ServesKept, TwoThreads.HasReplied, TwoThreads.WereAsked}
use Rattle.duplex_server.proofs.{Due.asked_due, Served.kept, Served.served}
use Rattle.stream_loop.proofs.PartsDue.{wrote_so}
use Rattle.duplex_server.specs.Replying.{answers_in}
use Rattle.io_edges.specs.Views.{SinkView}
use Rattle.duplex_server.specs.declared.jobs.Job.TheVariants as jobs
use Rattle.stream_loop.specs.declared.following.FollowEnding.TheVariants as endings

module _ (x : Answering) (first now : SinkView) (was_ended is_ended : Bool) (sent taken : List Job)
    (ending : FollowEnding Offence) (outcome : Outcome)
    (is : outcome.inbound ≡ inbound_of ending) (replied : HasReplied x.statics x.back first
    was_ended taken outcome.outbound outcome.answers now is_ended) (all : taken ≡ sent) where
  abbrev Asked : List StreamEvent → Type 0
  Asked events =
      WereAsked x.serves x.back (map request_for events) sent ending outcome.messages

  has_served : (events : List StreamEvent) → Asked events
      → HasServed x outcome first now events
  has_served events h =
      served x first now outcome ending is x refl events h.counted
      (wrote_so (replies x) answers_in refl first now (map request_for events)
      (parts_of x.statics x.back (start x.statics) h.asked)
      (asked_due x (start x.statics) (map request_for events) h.asked h.asks) outcome.answers _
      outcome.outbound (replied.wrote h.asked ending h.go_on (all ∙ h.sent_are)))

  pub serves_beside : (endpoint : Option (List ℕ)) (i0 i' : Input) (held held' : List ℕ)
      → ((i : Input) → WasTaken held i i0
      → Follows (stream (requests_to x endpoint)) Asked i i' ending)
      → ((i : Input) → WasTaken held i i0 → ending ≡ endings.Judged None
      → Leaves (stream (requests_to x endpoint)) i i' held')
      → CountsFaults i0.faults i'.faults (ending ≡ endings.ReadFault)
      → ServesKept x endpoint i0 i' held held' first now outcome
  serves_beside endpoint i0 i' held held' follows left counted =
      kept x first now outcome ending is endpoint i0 i' held held' Asked follows left
      has_served counted

-- ---- one job more

module _ (statics : List Entry) (limits : Limits) where
  pub parts_more : (s : Replying) (asked : List Job) (job : Job)
      → parts_of statics limits s (asked ++ job ∷ [])
      ≡ parts_of statics limits s asked
      ++ part_for statics limits (behind_jobs statics limits s asked) job ∷ []
  unfolding parts_of behind_jobs
  parts_more s [] job = refl
  parts_more s (one ∷ asked) job = ap (λ (l : List Part). part_for statics limits s one ∷ l)
      (parts_more (behind_job statics limits s one) asked job)

  pub behind_more : (s : Replying) (asked : List Job) (job : Job)
      → behind_jobs statics limits s (asked ++ job ∷ [])
      ≡ behind_job statics limits (behind_jobs statics limits s asked) job
  unfolding behind_jobs
  behind_more s [] job = refl
  behind_more s (one ∷ asked) job = behind_more (behind_job statics limits s one) asked job

-- no job before the last is one
pub first_before : (asked : List Job) (job : Job) → AreFirst is_last (asked ++ job ∷ [])
    → AreFirst is_last asked × (is_last job ≡ false)
unfolding AreFirst
first_before [] job first = (tt, first.0)
first_before (one ∷ asked) job first =
    let more = first_before asked job first.1 in ((first.0, more.0), more.1)

pub first_behind : (asked : List Job) (job : Job) → AreFirst is_last asked → is_last job ≡ false
    → AreFirst is_last (asked ++ job ∷ [])
unfolding AreFirst
first_behind [] job first goes_on = (goes_on, tt)
first_behind (one ∷ asked) job first goes_on = (first.0, first_behind asked job first.1 goes_on)

-- a job that is none of the last
pub goes_on : (job : Job) → ((ending : FollowEnding Offence) → job ≡ jobs.Last ending → ⊥)
    → (job ≡ jobs.Back → ⊥) → is_last job ≡ false
goes_on (jobs.Ack mode kind) last back = refl
goes_on (jobs.Answer document relates) last back = refl
goes_on (jobs.TooLarge relates) last back = refl
goes_on (jobs.Last ending) last back = absurd (last ending refl)
goes_on jobs.Back last back = absurd (back refl)

last_in : Option Job → Bool
last_in None = false
last_in (Some job) = is_last job

-- requests ask for no job that is the last one
pub asks_on : (serves : Serving) (limits : Limits) (request : Request) (job : Job)
    → AsksFor serves limits request (Some job) → is_last job ≡ false
unfolding last_in
asks_on serves limits (Opened mode kind) job is =
    ap last_in is
asks_on serves limits (Received document) (jobs.Ack mode kind) is = absurd is
asks_on serves limits (Received document) (jobs.Answer made relates) is = refl
asks_on serves limits (Received document) (jobs.TooLarge relates) is = refl
asks_on serves limits (Received document) (jobs.Last ending) is = absurd is
asks_on serves limits (Received document) jobs.Back is = absurd is
asks_on serves limits Ended job is = cc

tail_of : List Job → List Job
tail_of [] = []
tail_of (one ∷ asked) = asked

head_of : Job → List Job → Job
head_of other [] = other
head_of other (one ∷ asked) = one

-- the job at the end, and those before
pub ends_alike : (a b : List Job) (job other : Job) → a ++ job ∷ [] ≡ b ++ other ∷ []
    → (a ≡ b) × (job ≡ other)
unfolding head_of tail_of
ends_alike [] [] job other same = (refl, ap (head_of job) same)
ends_alike [] (one ∷ []) job other same = cc
ends_alike [] (one ∷ two ∷ b) job other same = cc
ends_alike (one ∷ []) [] job other same = cc
ends_alike (one ∷ two ∷ a) [] job other same = cc
ends_alike (one ∷ a) (two ∷ b) job other same =
    let more = ends_alike a b job other (ap tail_of same) in
    (ap (λ (p : Job × List Job). p.0 ∷ p.1) (λ i. (ap (head_of one) same i, more.0 i)), more.1)

pub nothing_before : (a : List Job) (job other : Job) → a ++ job ∷ [] ≡ other ∷ []
    → (a ≡ []) × (job ≡ other)
nothing_before a job other same = ends_alike a [] job other same

pub none_empty : (a : List Job) (job : Job) → a ++ job ∷ [] ≡ [] → ⊥
none_empty [] job same = cc
none_empty (one ∷ a) job same = cc

-- the one job that asks for nothing
pub back_alone : (sent : List Job) → sent ≡ jobs.Back ∷ [] → IsEnded is_last sent
unfolding AreFirst
back_alone sent is =
    record { before = []; last = jobs.Back; joined = is; first = tt; ended = refl }
