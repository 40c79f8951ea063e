-- A request as what its words ask for.
use Rattle.nbfx_values.specs.{declared.limits.Two.Two, QuotasOf.limits_of}
use Rattle.command_words.specs.declared.request.{Request.Request, SessionRequest.SessionRequest}
use Rattle.command_words.specs.declared.request.Request.TheVariants.{Rehearse, Sessions}
use Rattle.command_words.specs.declared.{task.Rehearsal.Rehearsal as RehearsalTaken, task.Task.Task as TaskTaken}
use Rattle.command_words.specs.{declared.task.Opening.Opening as OpeningTaken, Requests.Asked, Requests.AskedOfSessions}
use Rattle.command_words.specs.{declared.task.Serving.Serving as ServingTaken, Values.text_behind}
use Rattle.command_words.specs.declared.task.Task.TheVariants.{Build, Call, Generate, Pool, Relay, Replay}
use Rattle.command_words.specs.declared.task.Relaying.{Relaying as RelayingTaken}
use Rattle.command_words.specs.declared.task.Task.TheVariants.{Report, Serve}
use Rattle.command_words.specs.Tasks.{build, call, generate, Opening, pool, relay, replay, report, serve}
use Rattle.command_words.specs.Tasks.{Rehearsal, Relaying, Serving, Task}
use Rattle.command_words.specs.Requests.{of_sessions, rehearsal, TwoLimits}

abbrev pub two_of : Two → TwoLimits
two_of quotas = record { forward = limits_of quotas.forward; back = limits_of quotas.back }

abbrev pub opening_of : OpeningTaken → Opening
opening_of opening = record {
  via = opening.via.now;
  mode = opening.mode;
  encoding = opening.encoding;
}

abbrev pub serving_of : ServingTaken → Serving
serving_of serving = record {
  endpoint = text_behind serving.endpoint;
  actions = text_behind serving.actions;
}

abbrev pub relaying_of : RelayingTaken → Relaying
relaying_of relaying = record {
  listen = relaying.listen.now;
  connect = relaying.connect.now;
  via = relaying.via.now;
  back_statics = text_behind relaying.back_statics;
  connections = relaying.connections;
  endpoint = text_behind relaying.endpoint;
}

abbrev pub task_of : TaskTaken → Task
task_of (Report detail origin) = report detail origin
task_of (Build opening) = build (opening_of opening)
task_of (Replay serving) = replay (serving_of serving)
task_of (Serve listen connections serving) =
    serve listen.now connections (serving_of serving)
task_of (Call connect opening second) =
    call connect.now (opening_of opening) (text_behind second)
task_of (Relay relaying) = relay (relaying_of relaying)
task_of (Pool listen connections sessions serving) =
    pool listen.now connections sessions (serving_of serving)
task_of (Generate seed count) = generate seed count

abbrev pub session_of : SessionRequest → AskedOfSessions
session_of request = record {
  statics = request.statics.now;
  limits = two_of request.quotas;
  task = task_of request.task;
}

abbrev pub rehearsal_of : RehearsalTaken → Rehearsal
rehearsal_of taken = record { id = taken.id.now; window = taken.window }

abbrev pub asked_of : Request → Asked
asked_of (Sessions request) = of_sessions (session_of request)
asked_of (Rehearse taken) = rehearsal (rehearsal_of taken)
