-- What was read and written where the sessions of a connection are served in turn.
use Rattle.std.specs.Prelude.{◌≡◌, ℕ, ◌<◌, ◌⊎◌, List, [], ◌∷◌, ◌++◌, drop, length, Some}
use Rattle.std.specs.Prelude.{None, Option}
use Rattle.std.specs.Option.{option_map}
use Rattle.io_edges.specs.{Faults.Rose, Flow.GrowsByPrefix, Flow.Told}
use Rattle.nbfx_values.specs.declared.refusals.Offence.{Offence}
use Rattle.stream_reader.specs.Stream.{stream}
use Rattle.stream_loop.specs.{declared.outbound.Outbound.TheVariants.Done, Edges.Input}
use Rattle.stream_loop.specs.Followed.{EndsWith}
use Rattle.duplex_server.specs.declared.outcome.{Inbound.TheVariants.Ended, Outcome.Outcome}
use Rattle.duplex_server.specs.declared.outcome.Inbound.TheVariants.{Offended}
use Rattle.duplex_server.specs.{ServerStream.Answering, ServerStream.requests_to, Serving.Serves}
use Rattle.io_edges.specs.Views.{SinkView}
use Rattle.session_pool.specs.declared.turns.{Turns.Turns, TurnsEnd.TurnsEnd}
use Rattle.session_pool.specs.declared.turns.TurnsEnd.TheVariants as ends

-- a session ended with an End record, and all that is owed for it was written
pub record IsWell (outcome : Outcome) : Type 0 where
  pub inbound : outcome.inbound ≡ Ended
  pub outbound : outcome.outbound ≡ Done

-- An input as it was before the first byte behind a session, by how it was before the session's
-- first one: what it is now but for the session's bytes.
abbrev pub behind_session : (session : List ℕ) → (i now : Input) → Input
behind_session session i now = record {
  left = option_map (drop (length session)) i.left;
  taken = option_map (λ taken. taken ++ session) i.taken;
  faults = now.faults;
  empty_takes = now.empty_takes;
}

-- the input gives these bytes first
abbrev pub Begins : (bytes : List ℕ) → Input → Type 0
Begins bytes i = (all : List ℕ) → i.left ≡ Some all → (rest : List ℕ) × (all ≡ bytes ++ rest)

-- the input tells that it gives nothing more
abbrev pub TellsEnd : Input → Type 0
TellsEnd i = i.left ≡ Some []

-- no more sessions were served, and nothing more was put; of an input that was so behind the last
-- of them some bytes may have been taken
pub record Rests (served : List Outcome) (next i' : Input) (later sink' : SinkView)
    (outcomes : List Outcome) : Type 0 where
  pub joined : outcomes ≡ served
  pub same : sink' ≡ later
  pub carried : List ℕ
  pub stream : Told next.left i'.left (λ all rest. all ≡ carried ++ rest)
  pub took : Told next.taken i'.taken (λ t t'. t' ≡ t ++ carried)

module _ (x : Answering) (endpoint : Option (List ℕ)) where
  -- These sessions were served well, one behind the other, each of the bytes that the one before
  -- left, from an input and a sink that were so before the first one. They were so behind the last.
  unfoldable pub InTurn : Input → SinkView → List Outcome → Input → SinkView → Type 0
  InTurn i sink [] i' sink' = (i' ≡ i) × (sink' ≡ sink)
  InTurn i sink (outcome ∷ outcomes) i' sink' = (session : List ℕ) × (mid : Input)
      × (later : SinkView) × IsWell outcome × Serves x endpoint i mid sink later outcome
      × EndsWith (stream (requests_to x endpoint)) session × Begins session i
      × InTurn (behind_session session i mid) later outcomes i' sink'

  -- one more session was served, which isn't well
  pub record Stops (served : List Outcome) (next i' : Input) (later sink' : SinkView)
      (outcomes : List Outcome) : Type 0 where
    pub last : Outcome
    pub joined : outcomes ≡ served ++ last ∷ []
    pub unwell : IsWell last → ⊥
    pub some : TellsEnd next → ⊥
    pub serves : Serves x endpoint next i' later sink' last

  -- why no more sessions were served: nothing stands behind those; there are as many as may be; one
  -- more isn't well; a read between two sessions failed; or there was no memory to begin with
  abbrev pub Ends : TurnsEnd → (most : ℕ) → (served : List Outcome) → (next i' : Input)
      → (later sink' : SinkView) → (outcomes : List Outcome) → Type 0
  Ends ends.Done most served next i' later sink' outcomes = (length served < most)
      × Rests served next i' later sink' outcomes × Told next.left i'.left (λ all rest. all ≡ [])
  Ends ends.Most most served next i' later sink' outcomes =
      (length served ≡ most) × Rests served next i' later sink' outcomes
  Ends ends.Stopped most served next i' later sink' outcomes =
      (length served < most) × Stops served next i' later sink' outcomes
  Ends ends.ReadFault most served next i' later sink' outcomes = (length served < most)
      × Rests served next i' later sink' outcomes × Rose next.faults i'.faults
  Ends ends.Memory most served next i' later sink' outcomes =
      (served ≡ []) × Rests served next i' later sink' outcomes × (i' ≡ next)

  -- what is known of the sessions of a connection that were served, at most so many: those that are
  -- well, in turn, and why no more are
  pub record ServesTurns (most : ℕ) (i i' : Input) (sink sink' : SinkView) (turns : Turns) : Type 0
    where
      pub served : List Outcome
      pub next : Input
      pub later : SinkView
      pub in_turn : InTurn i sink served next later
      pub ended : Ends turns.end most served next i' later sink' turns.outcomes

-- ---- what is written

-- what is owed is written behind what was held; where there was no session nothing is
abbrev pub WritesAll : (owed held : List ℕ) → List Outcome → (w w' : List ℕ) → Type 0
WritesAll owed held [] w w' = w' ≡ w
WritesAll owed held (outcome ∷ outcomes) w w' = w' ≡ w ++ held ++ owed

-- the last of them, where there is one
unfoldable pub last_of : List Outcome → Option Outcome
last_of [] = None
last_of (one ∷ []) = Some one
last_of (one ∷ other ∷ outcomes) = last_of (other ∷ outcomes)

-- all was served, or the last session was refused, and that is answered too
abbrev pub AreAnswered : Turns → Type 0
AreAnswered turns = (turns.end ≡ ends.Done) ⊎ (turns.end ≡ ends.Most) ⊎ ((last : Outcome)
    × (offence : Offence) × (turns.end ≡ ends.Stopped) × (last_of turns.outcomes ≡ Some last)
    × (last.inbound ≡ Offended offence) × (last.outbound ≡ Done))

-- what is owed is written, or else first bytes of it
pub record WritesTurns (owed held w w' : List ℕ) (turns : Turns) : Type 0 where
  pub whole : AreAnswered turns → WritesAll owed held turns.outcomes w w'
  pub front : GrowsByPrefix w w' (held ++ owed)
