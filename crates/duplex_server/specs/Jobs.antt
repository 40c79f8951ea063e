-- What a writer of replies is asked for, what is due for it then, and which jobs requests ask for.
use Rattle.std.specs.Prelude.{◌≡◌, ℕ, Bool, true, false, ◌⊎◌, List, [], ◌∷◌, Some, None, Ok, Err}
use Rattle.std.specs.Prelude.{Option, Result}
use Rattle.string_tables.specs.{StaticStrings.Entry, StringTable.StringTable}
use Rattle.nbfx_values.specs.declared.{content.Item.Item, session.Kind.Kind, session.Mode.Mode}
use Rattle.nbfx_values.specs.Limits.{Limits}
use Rattle.least_payloads.specs.Least.{may_fit}
use Rattle.nmf_records.specs.{declared.frame.Frame.TheVariants.PreambleAck, Writing.frame_bytes_of}
use Rattle.nbfx_encoder.specs.{Envelopes.envelope, Placing.Placed, Spelling.encoded, Spelling.Unfit}
use Rattle.stream_loop.specs.Parts.{Part, part}
use Rattle.action_dispatch.specs.declared.answers.{Answer.Answer, Answer.TheVariants.Nothing}
use Rattle.action_dispatch.specs.{Answers.answered, Answers.Serves, Refusals.unfit_fault}
use Rattle.duplex_server.specs.declared.{jobs.Job.Job, jobs.Related.Related}
use Rattle.duplex_server.specs.declared.{requests.Request.Request}
use Rattle.duplex_server.specs.declared.requests.Request.TheVariants.{Opened, Received}
use Rattle.duplex_server.specs.ServerStream.{behind_reply, first_fitting, opened, Replying}
use Rattle.duplex_server.specs.ServerStream.{when_ready}
use Rattle.action_dispatch.specs.declared.answers.Answer.TheVariants as answers
use Rattle.duplex_server.specs.declared.jobs.Job.TheVariants as jobs

abbrev pub is_last : Job → Bool
is_last (jobs.Ack mode kind) = false
is_last (jobs.Answer document relates) = false
is_last (jobs.TooLarge relates) = false
is_last (jobs.Last ending) = true
is_last jobs.Back = true

-- ---- what is due for a job

abbrev pub if_fits : Result (Placed (List ℕ)) Unfit → Option (Placed (List ℕ))
if_fits (Ok payload) = Some payload
if_fits (Err why) = None

-- the payload of a document that was made, or of the fault in its place, where either fits
abbrev pub fitting : Limits → Kind → StringTable → Option (List Item) → Related
    → Option (Placed (List ℕ))
fitting limits kind table (Some document) relates = first_fitting (encoded limits kind table
    document)
    (encoded limits kind table (unfit_fault relates.version relates.items))
fitting limits kind table None relates =
    if_fits (encoded limits kind table (unfit_fault relates.version relates.items))

-- where an answer may be sent
abbrev pub reply_payload : Limits → Replying → Option (List Item) → Related
    → Option (Placed (List ℕ))
reply_payload limits s made relates =
    when_ready s.moment (fitting limits s.kind s.table made relates)

abbrev pub payload_for : Limits → Replying → Job → Option (Placed (List ℕ))
payload_for limits s (jobs.Ack mode kind) = None
payload_for limits s (jobs.Answer document relates) =
    reply_payload limits s (Some document) relates
payload_for limits s (jobs.TooLarge relates) = reply_payload limits s None relates
payload_for limits s (jobs.Last ending) = None
payload_for limits s jobs.Back = None

-- an envelope counts
abbrev pub reply_part : Mode → Option (Placed (List ℕ)) → Part
reply_part mode None = part [] false
reply_part mode (Some payload) = part (envelope mode payload.0) true

abbrev pub ack : Part
ack = part (frame_bytes_of PreambleAck []) false

module _ (statics : List Entry) (limits : Limits) where
  -- the part that is due for a job, and what it leaves
  abbrev pub part_for : Replying → Job → Part
  part_for s (jobs.Ack mode kind) = ack
  part_for s (jobs.Answer document relates) =
      reply_part s.mode (payload_for limits s (jobs.Answer document relates))
  part_for s (jobs.TooLarge relates) =
      reply_part s.mode (payload_for limits s (jobs.TooLarge relates))
  part_for s (jobs.Last ending) = part [] false
  part_for s jobs.Back = part [] false

  abbrev pub behind_job : Replying → Job → Replying
  behind_job s (jobs.Ack mode kind) = opened statics mode kind s
  behind_job s (jobs.Answer document relates) =
      behind_reply (payload_for limits s (jobs.Answer document relates)) s
  behind_job s (jobs.TooLarge relates) =
      behind_reply (payload_for limits s (jobs.TooLarge relates)) s
  behind_job s (jobs.Last ending) = s
  behind_job s jobs.Back = s

  -- the same of jobs, one after the other
  unfoldable pub parts_of : Replying → List Job → List Part
  parts_of s [] = []
  parts_of s (job ∷ more) = part_for s job ∷ parts_of (behind_job s job) more

  unfoldable pub behind_jobs : Replying → List Job → Replying
  behind_jobs s [] = s
  behind_jobs s (job ∷ more) = behind_jobs (behind_job s job) more

-- ---- which job a request asks for

-- by the answer
abbrev pub AsksAnswer : Limits → Answer → Option Job → Type 0
AsksAnswer limits answer (Some (jobs.Answer document relates)) =
    answer ≡ answers.Reply document relates.items relates.version
AsksAnswer limits answer (Some (jobs.TooLarge relates)) = (document : List Item)
    × (answer ≡ answers.Reply document relates.items relates.version) × (may_fit limits document ≡
    false)
AsksAnswer limits answer (Some job) = ⊥
AsksAnswer limits answer None = answer ≡ Nothing

module _ (serves : Serves) (limits : Limits) where
  abbrev pub AsksFor : Request → Option Job → Type 0
  AsksFor (Opened mode kind) job = job ≡ Some (jobs.Ack mode kind)
  AsksFor (Received document) job = AsksAnswer limits (answered serves document) job
  AsksFor request job = job ≡ None

  -- these requests ask for these jobs, in this order
  unfoldable pub AskFor : List Request → List Job → Type 0
  AskFor [] asked = asked ≡ []
  AskFor (request ∷ requests) asked = (AsksFor request None × AskFor requests asked)
      ⊎ ((job : Job) × (more : List Job) × (asked ≡ job ∷ more) × AsksFor request (Some job)
      × AskFor requests more)
