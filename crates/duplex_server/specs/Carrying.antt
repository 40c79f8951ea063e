-- What is carried from one session of a connection to the next.
use Rattle.std.specs.Prelude.{◌≡◌, ℕ, Bool, false, true, ◌↔◌, List, [], ◌++◌, IfOk}
use Rattle.std.specs.Prelude.{IsErr, Ok, Option, Result}
use Rattle.io_edges.specs.{declared.Failed.Failed, Faults.CountsFaults, Faults.CountsOne}
use Rattle.io_edges.specs.Flow.{Told}
use Rattle.stream_reader.specs.Stream.{stream}
use Rattle.stream_loop.specs.{Edges.Input, Followed.EndsWith, Followed.WasTaken}
use Rattle.duplex_server.specs.declared.outcome.{Inbound.TheVariants.Ended, Outcome.Outcome}
use Rattle.duplex_server.specs.{ServerStream.Answering, ServerStream.requests_to, Serving.Serves}
use Rattle.io_edges.specs.Views.{SinkView}

-- What a call leaves that takes bytes where none are carried: of the source, and of what is
-- carried. It says whether any are.
pub record FillsCarry (i i' : Input) (carried carried' : List ℕ) (answer : Result Bool Failed)
    : Type 0 where
  pub taken : List ℕ
  pub joined : carried' ≡ carried ++ taken
  pub kept : (carried ≡ [] → ⊥) → (taken ≡ []) × (i' ≡ i) × (answer ≡ Ok true)
  pub some : IfOk answer (λ some. (some ≡ false) ↔ (carried' ≡ []))
  pub moved : Told i.left i'.left (λ l l'. l ≡ taken ++ l')
  pub took : Told i.taken i'.taken (λ t t'. t' ≡ t ++ taken)
  pub over : answer ≡ Ok false → Told i.left i'.left (λ l l'. l ≡ [])
  pub counted : CountsFaults i.faults i'.faults (IsErr answer)
  pub empty : CountsOne i.empty_takes i'.empty_takes (answer ≡ Ok false)

-- What is left where a session has ended with an End record, of an input that was like i before its
-- first byte: what is carried now and what follows that are all that stands behind the session,
-- which is the shortest prefix that ends so.
pub record GoesBehind (x : Answering) (endpoint : Option (List ℕ)) (i i' : Input)
    (carried : List ℕ) : Type 0 where
  pub session : List ℕ
  pub ended : EndsWith (stream (requests_to x endpoint)) session
  pub stream : Told i.left i'.left (λ all rest. all ≡ session ++ carried ++ rest)
  pub took : Told i.taken i'.taken (λ t t'. t' ≡ t ++ session ++ carried)

-- What is known of a session that was served on a connection that had carried bytes when it began:
-- by any input from which these could have been taken before.
pub record ServesKept (x : Answering) (endpoint : Option (List ℕ)) (now now' : Input)
    (carried carried' : List ℕ) (first last : SinkView) (outcome : Outcome) : Type 0 where
  pub serves : (i : Input) → WasTaken carried i now → Serves x endpoint i now' first last outcome
  pub behind : (i : Input) → WasTaken carried i now → outcome.inbound ≡ Ended
      → GoesBehind x endpoint i now' carried'
