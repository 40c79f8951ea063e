-- What a receiver answers is what a reader of requests says.
use Rattle.std.proofs.Common.{◌≡◌, ℕ, Some, None, Ok, Err, Option, Result, refl, ap, ◌∙◌}
use Rattle.unit_streams.specs.Judging.{Answer, completes, goes_on, offends}
use Rattle.nbfx_values.specs.declared.refusals.Offence.{Offence}
use Rattle.stream_reader.specs.declared.reader.{ReadRefusal.ReadRefusal, StreamStep.StreamStep}
use Rattle.stream_reader.specs.{Calls.told_at_end, Saying.said, Saying.step_for}
use Rattle.stream_reader.specs.Stream.{accepted, ended, message, opened, peer_fault, StreamEvent}
use Rattle.stream_loop.specs.declared.reading_end.FeedFault.{FeedFault}
use Rattle.stream_loop.specs.Answers.{said as said_by_loop, said_at_end as ends_by_loop}
use Rattle.duplex_server.specs.declared.requests.Request.{Request}
use Rattle.duplex_server.specs.Requests.{request_for, request_in}
use Rattle.stream_loop.specs.declared.reading_end.FeedFault.TheVariants as faults
use Rattle.stream_reader.specs.declared.reader.ReadRefusal.TheVariants as refusals

-- an event's step brings its request
brings : (e : StreamEvent) → request_in (step_for e) ≡ Some (request_for e)
brings (opened mode kind via) = refl
brings accepted = refl
brings (message e) = refl
brings (ended n) = refl
brings (peer_fault n text) = refl

-- an answer of a receiver, as a reader of requests gives it
abbrev as_request : Result (ℕ × StreamStep) ReadRefusal
    → Result (ℕ × Option Request) (FeedFault Offence)
as_request (Ok step) = Ok (step.0, request_in step.1)
as_request (Err (refusals.Offence o)) = Err (faults.Refused o)
as_request (Err refusals.Memory) = Err faults.Memory

said_as : (len : ℕ) (a : Answer StreamEvent Offence)
    → as_request (said len a) ≡ said_by_loop request_for len a
said_as len goes_on = refl
said_as len (completes k e) = let same = brings e in ap (λ v. Ok (k, v)) same
said_as len (offends k o) = refl

pub step_said : (len : ℕ) (a : Answer StreamEvent Offence) (n : ℕ) (step : StreamStep)
    → ◌≡◌ {A = Result (ℕ × StreamStep) ReadRefusal} (Ok (n, step)) (said len a)
    → Ok (n, request_in step) ≡ said_by_loop request_for len a
step_said len a n step e = ap as_request e ∙ said_as len a

pub refusal_said : (len : ℕ) (a : Answer StreamEvent Offence) (o : Offence)
    → ◌≡◌ {A = Result (ℕ × StreamStep) ReadRefusal} (Err (refusals.Offence o)) (said len a)
    → Err (faults.Refused o) ≡ said_by_loop request_for len a
refusal_said len a o e = ap as_request e ∙ said_as len a

-- the end of the input
pub end_said : (v : Option Offence) → told_at_end v ≡ ends_by_loop v
end_said None = refl
end_said (Some o) = refl
