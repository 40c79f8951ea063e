-- What was sent to a worker.
use Rattle.std.specs.Prelude.{List}
use Rattle.crossbeam_channel.specs.Claims.{view}
use Rattle.worker_thread.specs.declared.sender.JobSender.{JobSender}

-- these jobs, in this order
abbrev pub sent_by : {R J : Type 0} → JobSender R J → List J
sent_by sender = (view sender.pass).sent
