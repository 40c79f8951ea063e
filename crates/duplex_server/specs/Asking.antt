-- What a writer on another thread was asked for.
use Rattle.std.specs.Prelude.{◌≡◌, List, ◌++◌}
use Rattle.nbfx_values.specs.Limits.{Limits}
use Rattle.action_dispatch.specs.Answers.{Serves}
use Rattle.worker_thread.specs.{declared.sender.JobSender.JobSender, Jobs.AreFirst, Sending.sent_by}
use Rattle.duplex_server.specs.declared.{answerer.Answerer.Answerer, jobs.Job.Job}
use Rattle.duplex_server.specs.declared.requests.Request.{Request}
use Rattle.duplex_server.specs.{Jobs.AskFor, Jobs.is_last, ServerStream.messages_along}

-- these requests were handled since a sender of jobs was like the first, and it is like this now
pub record HasAsked {V R : Type 0} (serves : Serves) (limits : Limits) (first : JobSender R Job)
    (requests : List Request) (answerer : Answerer V) (now : JobSender R Job) : Type 0 where
  pub counted : answerer.messages ≡ messages_along 0 requests
  pub asked : List Job
  pub sent : sent_by now ≡ sent_by first ++ asked
  pub go_on : AreFirst is_last asked
  pub asks : AskFor serves limits requests asked
  pub to : now.to ≡ first.to
