-- What a writer on another thread was asked for, with one request more.
use Rattle.std.proofs.Common.{◌≡◌, List, [], ◌∷◌, ◌++◌, Some, None, sym, refl, ap}
use Rattle.std.proofs.Common.{◌∙◌, inl, inr, append_assoc, subst}
use Rattle.nbfx_values.specs.Limits.{Limits}
use Rattle.action_dispatch.specs.Answers.{Serves}
use Rattle.nbfx_values.specs.declared.refusals.Offence.{Offence}
use Rattle.stream_loop.specs.declared.following.FollowEnding.{FollowEnding}
use Rattle.worker_thread.specs.{declared.sender.JobSender.JobSender, Jobs.IsEnded, Sending.sent_by}
use Rattle.duplex_server.specs.declared.{answerer.Answerer.Answerer, jobs.Job.Job}
use Rattle.duplex_server.specs.declared.requests.Request.{Request}
use Rattle.duplex_server.specs.{Asking.HasAsked, Jobs.AskFor, Jobs.AsksFor, Jobs.is_last}
use Rattle.duplex_server.specs.TwoThreads.{WereAsked}
use Rattle.duplex_server.specs.ServerStream.{messages_behind}
use Rattle.duplex_server.proofs.{Crossed.asks_on, Crossed.first_behind, Handled.messages_more}
use Rattle.duplex_server.specs.declared.jobs.Job.TheVariants as jobs

module _ (serves : Serves) (limits : Limits) where
  ask_more : (requests : List Request) (asked : List Job) (request : Request) (job : Job)
      → AskFor serves limits requests asked → AsksFor serves limits request (Some job)
      → AskFor serves limits (requests ++ request ∷ []) (asked ++ job ∷ [])
  unfolding AskFor
  ask_more [] asked request job none asks =
      inr (job, [], ap (λ l. l ++ job ∷ []) none, asks, refl)
  ask_more (one ∷ requests) asked request job (inl h) asks =
      inl (h.0, ask_more requests asked request job h.1 asks)
  ask_more (one ∷ requests) asked request job (inr h) asks = inr (
    h.0,
    h.1 ++ job ∷ [],
    ap (λ l. l ++ job ∷ []) h.2,
    h.3,
    ask_more requests h.1 request job h.4 asks,
  )

  ask_nothing : (requests : List Request) (asked : List Job) (request : Request)
      → AskFor serves limits requests asked → AsksFor serves limits request None
      → AskFor serves limits (requests ++ request ∷ []) asked
  unfolding AskFor
  ask_nothing [] asked request none asks = inl (asks, none)
  ask_nothing (one ∷ requests) asked request (inl h) asks =
      inl (h.0, ask_nothing requests asked request h.1 asks)
  ask_nothing (one ∷ requests) asked request (inr h) asks =
      inr (h.0, h.1, h.2, h.3, ask_nothing requests h.1 request h.4 asks)

  module _ {V R : Type 0} (first now : JobSender R Job) (requests : List Request)
      (old new : Answerer V) (request : Request)
      (h : HasAsked serves limits first requests old now)
      (counts : new.messages ≡ messages_behind request old.messages) where
    -- which asks for a job
    pub asked_more : (job : Job) → AsksFor serves limits request (Some job)
        → (sent : JobSender R Job) → sent_by sent ≡ sent_by now ++ job ∷ [] → sent.to ≡ now.to
        → HasAsked serves limits first (requests ++ request ∷ []) new sent
    asked_more job asks sent is to = record {
      counted = counts ∙ ap (messages_behind request) h.counted
          ∙ sym (messages_more 0 requests request);
      asked = h.asked ++ job ∷ [];
      sent = is ∙ ap (λ l. l ++ job ∷ []) h.sent
          ∙ append_assoc (sent_by first) h.asked (job ∷ []);
      go_on = first_behind h.asked job h.go_on (asks_on serves limits request job asks);
      asks = ask_more requests h.asked request job h.asks asks;
      to = to ∙ h.to;
    }

    -- or for nothing
    pub asked_quietly : AsksFor serves limits request None
        → HasAsked serves limits first (requests ++ request ∷ []) new now
    asked_quietly asks = record {
      counted = counts ∙ ap (messages_behind request) h.counted
          ∙ sym (messages_more 0 requests request);
      asked = h.asked;
      sent = h.sent;
      go_on = h.go_on;
      asks = ask_nothing requests h.asked request h.asks asks;
      to = h.to;
    }

-- the last job says how the reading ended
module _ {V R : Type 0} (serves : Serves) (limits : Limits) (first now sent : JobSender R Job)
    (answerer : Answerer V) (ending : FollowEnding Offence) (unsent : sent_by first ≡ [])
    (is : sent_by sent ≡ sent_by now ++ jobs.Last ending ∷ []) where
  module _ (serves' : Serves) (limits' : Limits) (requests : List Request)
      (h : HasAsked serves' limits' first requests answerer now) where
    sent_are : sent_by sent ≡ h.asked ++ jobs.Last ending ∷ []
    sent_are = is ∙ ap (λ l. l ++ jobs.Last ending ∷ [])
        (h.sent ∙ ap (λ l. l ++ h.asked) unsent)

    pub were_asked : ◌≡◌ {A = Serves × Limits} (serves', limits') (serves, limits)
        → WereAsked serves limits requests (sent_by sent) ending answerer.messages
    were_asked same = record {
      asked = h.asked;
      sent_are = sent_are;
      go_on = h.go_on;
      asks = subst (λ (p : Serves × Limits). AskFor p.0 p.1 requests h.asked) same h.asks;
      counted = h.counted;
    }

    pub asked_to_end : IsEnded is_last (sent_by sent)
    asked_to_end = record {
      before = h.asked;
      last = jobs.Last ending;
      joined = sent_are;
      first = h.go_on;
      ended = refl;
    }
