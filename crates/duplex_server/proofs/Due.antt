-- Which parts are due for requests, by the jobs that they ask for.
use Rattle.duplex_server.specs.declared.jobs.Related.{Related}
use Rattle.std.proofs.Common.{◌≡◌, ℕ, false, List, [], ◌∷◌, Some, None, Ok, Err}
use Rattle.std.proofs.Common.{Option, Result, sym, refl, ap, ◌∙◌, subst, inl, inr}
use Rattle.nbfx_values.specs.declared.{content.Item.Item, session.Mode.Mode}
use Rattle.least_payloads.specs.Least.{may_fit}
use Rattle.nbfx_encoder.proofs.Leasts.{large_is_unwritten}
use Rattle.nbfx_encoder.specs.{Placing.Placed, Spelling.encoded, Spelling.Unfit}
use Rattle.stream_loop.specs.Parts.{Part, part, with_part}
use Rattle.stream_loop.specs.PartsDue.{AreDue as AreDueBy}
use Rattle.action_dispatch.specs.{Answers.answered, Refusals.unfit_fault}
use Rattle.duplex_server.specs.declared.{jobs.Job.Job, requests.Request.Request}
use Rattle.duplex_server.specs.declared.requests.Request.TheVariants.{Ended, Opened}
use Rattle.duplex_server.specs.declared.requests.Request.TheVariants.{Received}
use Rattle.duplex_server.specs.Jobs.{AskFor, AsksAnswer, AsksFor, behind_job, if_fits}
use Rattle.duplex_server.specs.Jobs.{part_for, parts_of, reply_part}
use Rattle.duplex_server.specs.ServerStream.{Answering, behind, behind_reply, first_fitting}
use Rattle.duplex_server.specs.ServerStream.{owed_for}
use Rattle.duplex_server.specs.ServerStream.{payload_of, reply_to, Replying, told_reply}
use Rattle.duplex_server.specs.ServerStream.{when_ready}
use Rattle.duplex_server.specs.Replying.{answers_in, AreDue, IsDue, IsQuiet}
use Rattle.action_dispatch.specs.declared.answers.Answer.TheVariants as answers
use Rattle.duplex_server.specs.declared.jobs.Job.TheVariants as jobs

-- the part of a payload is what is told of it
pub part_told : (mode : Mode) (payload : Option (Placed (List ℕ)))
    → (reply_part mode payload).bytes ≡ told_reply mode payload
part_told mode None = refl
part_told mode (Some payload) = refl

pub part_counts : (mode : Mode) (payload : Option (Placed (List ℕ))) (s : Replying)
    → with_part s.answers (reply_part mode payload) ≡ (behind_reply payload s).answers
part_counts mode None s = refl
part_counts mode (Some payload) s = refl

-- a document that doesn't fit leaves the fault in its place
only_fault : (why : Unfit) (other : Result (Placed (List ℕ)) Unfit)
    → first_fitting (Err why) other ≡ if_fits other
only_fault why (Ok payload) = refl
only_fault why (Err other) = refl

module _ (x : Answering) where
  -- by what a request asks for
  abbrev DueBy : Replying → Request → Option Job → Type 0
  DueBy s request (Some job) = IsDue x s request (part_for x.statics x.back s job)
      × (behind_job x.statics x.back s job ≡ behind x s request)
  DueBy s request None = IsQuiet x s request

  -- a reply with the payload of this answer
  module _ (s : Replying) (document : List Item) (payload : Option (Placed (List ℕ)))
      (is : payload ≡ reply_to x s document) where
    reply_due : IsDue x s (Received document) (reply_part s.mode payload)
    reply_due = (
      part_told s.mode payload ∙ ap (told_reply s.mode) is,
      part_counts s.mode payload s ∙ ap (λ p. (behind_reply p s).answers) is,
    )

    reply_behind : behind_reply payload s ≡ behind x s (Received document)
    reply_behind = ap (λ p. behind_reply p s) is

  unmade : (s : Replying) (document : List Item) (relates : Related)
      → may_fit x.back document ≡ false
      → when_ready s.moment (if_fits (encoded x.back s.kind s.table (unfit_fault relates.version
      relates.items)))
      ≡ payload_of x.back s (answers.Reply document relates.items relates.version)
  unmade s document relates large =
      let no = large_is_unwritten x.back s.kind s.table document large in
      sym (ap (λ e. when_ready s.moment
      (first_fitting e (encoded x.back s.kind s.table (unfit_fault relates.version
      relates.items)))) no.1
      ∙ ap (when_ready s.moment)
      (only_fault no.0 (encoded x.back s.kind s.table (unfit_fault relates.version relates.items))))

  answer_due : (s : Replying) (document : List Item) (job : Option Job)
      → AsksAnswer x.back (answered x.serves document) job → DueBy s (Received document) job
  answer_due s document (Some (jobs.Answer made relates)) is =
      let same = sym (ap (payload_of x.back s) is) in (
        reply_due s document _ same,
        reply_behind s document _ same,
      )
  answer_due s document (Some (jobs.TooLarge relates)) is =
      let same = unmade s is.0 relates is.2 ∙ sym (ap (payload_of x.back s) is.1) in (
        reply_due s document _ same,
        reply_behind s document _ same,
      )
  answer_due s document (Some (jobs.Ack mode kind)) is = absurd is
  answer_due s document (Some (jobs.Last ending)) is = absurd is
  answer_due s document (Some jobs.Back) is = absurd is
  answer_due s document None is =
      let none = ap (payload_of x.back s) is in (
        ap (told_reply s.mode) none,
        ap (λ p. behind_reply p s) none,
      )

  pub asks_due : (s : Replying) (request : Request) (job : Option Job)
      → AsksFor x.serves x.back request job → DueBy s request job
  asks_due s (Opened mode kind) job is =
      subst (DueBy s (Opened mode kind)) (sym is) ((refl, refl), refl)
  asks_due s (Received document) job is = answer_due s document job is
  asks_due s Ended job is = subst (DueBy s Ended) (sym is) (refl, refl)

  -- the part that is due for a request, whatever it asks for
  pub part_due : (s : Replying) (request : Request) → (one : Part) × IsDue x s request one
  part_due s (Opened mode kind) = (part (owed_for x s (Opened mode kind)) false, (refl, refl))
  part_due s (Received document) =
      let payload = reply_to x s document in
      (reply_part s.mode payload, reply_due s document payload refl)
  part_due s Ended = (part [] false, (refl, refl))

  -- of the jobs that requests ask for
  pub asked_due : (s : Replying) (requests : List Request) (asked : List Job)
      → AskFor x.serves x.back requests asked
      → AreDue x s requests (parts_of x.statics x.back s asked)
  unfolding AskFor AreDueBy parts_of
  asked_due s [] asked none = ap (parts_of x.statics x.back s) none
  asked_due s (request ∷ requests) asked (inl h) =
      let quiet = asks_due s request None h.0 in
      inl (
        (quiet.0, ap answers_in quiet.1),
        subst (λ (z : Replying). AreDue x (behind x s request) requests
            (parts_of x.statics x.back z asked)) quiet.1
            (asked_due (behind x s request) requests asked h.1),
      )
  asked_due s (request ∷ requests) asked (inr h) =
      let due = asks_due s request (Some h.0) h.3 in
      inr (
        part_for x.statics x.back s h.0,
        parts_of x.statics x.back (behind_job x.statics x.back s h.0) h.1,
        ap (parts_of x.statics x.back s) h.2,
        due.0,
        subst (λ (z : Replying). AreDue x (behind x s request) requests
            (parts_of x.statics x.back z h.1)) (sym due.1)
            (asked_due (behind x s request) requests h.1 h.4),
      )
