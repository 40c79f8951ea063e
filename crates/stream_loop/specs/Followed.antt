-- What was read of a stream that is followed to its end, and which of its events were handled.
use Rattle.std.specs.Prelude.{◌≡◌, ℕ, ◌<◌, ◌≤◌, true, ◌⊎◌, List, [], ◌++◌, length, map, take, None, Option}
use Rattle.io_edges.specs.{Faults.one_more, Flow.Told}
use Rattle.unit_streams.specs.{Going.IsPending, Grammar.Grammar}
use Rattle.unit_streams.specs.Judging.{ending_at, events, events_of, history, is_over_at}
use Rattle.stream_loop.specs.{declared.following.FollowEnding.FollowEnding, Edges.Input}
use Rattle.stream_loop.specs.declared.following.FollowEnding.TheVariants.{Judged, Memory, ReadFault}

-- These events were handled by the values that they are said with, by a relation of two lists:
-- those handled before the last pause, and the others.
pub record AreHandled {E V : Type 0} (event_for : E → V) (Handled : List V → List V → Type 0)
    (events : List E) : Type 0 where
  pub paused : List E
  pub since : List E
  pub joined : events ≡ paused ++ since
  pub handled : Handled (map event_for paused) (map event_for since)

module _ {Z U E R : Type 0} (g : Grammar Z U E R) where
  -- these events and this judgement are the history of the bytes
  abbrev pub IsWhole : (handled : List E) (judged : Option R) → List ℕ → Type 0
  IsWhole handled judged bytes = history g bytes ≡ record { events = handled; offence = judged }

  -- these are the first events of the bytes
  pub record AreFirst (handled : List E) (bytes : List ℕ) : Type 0 where
    pub others : List E
    pub joined : events g bytes ≡ handled ++ others

  -- the stream ends with these bytes, and with no shorter ones
  pub record EndsWith (bytes : List ℕ) : Type 0 where
    pub over : is_over_at g bytes ≡ true
    pub first : (n : ℕ) → n < length bytes → IsPending g (take n bytes)

  -- these bytes were read of a stream that ended well: it ends with them, or with the input
  abbrev pub EndsWell : (read : List ℕ) → (AtEnd : Type 0) → Type 0
  EndsWell read AtEnd = EndsWith read
      ⊎ (IsPending g read × (ending_at g read ≡ None) × AtEnd)

  module _ (Handled : List E → Type 0) (i i' : Input) where
    -- What was read and handled of a stream that is judged: bytes, and all their events. Either the
    -- bytes may go on, and one take gave nothing, after all of them; or they decide it however they
    -- go on, and no take gave nothing.
    pub record Decides (judged : Option R) : Type 0 where
      pub bytes : List ℕ
      pub events : List E
      pub handled : Handled events
      pub whole : IsWhole events judged bytes
      pub settled : (IsPending g bytes × (i'.empty_takes ≡ one_more i.empty_takes))
          ⊎ (((more : List ℕ) → IsWhole events judged (bytes ++ more))
          × (i'.empty_takes ≡ i.empty_takes))
      pub stream : Told i.left i'.left (λ all rest. (all ≡ bytes ++ rest)
          × ((rest ≡ []) ⊎ ((more : List ℕ) → IsWhole events judged (bytes ++ more))))
      pub took : Told i.taken i'.taken (λ t t'. t' ≡ t ++ bytes)

    -- What was read and handled where reading failed: bytes of which no prefix is refused or ends
    -- the stream, and their events. No take gave nothing.
    pub record Breaks : Type 0 where
      pub bytes : List ℕ
      pub pending : IsPending g bytes
      pub handled : Handled (events_of g bytes)
      pub stream : Told i.left i'.left (λ all rest. all ≡ bytes ++ rest)
      pub took : Told i.taken i'.taken (λ t t'. t' ≡ t ++ bytes)
      pub no_empty_take : i'.empty_takes ≡ i.empty_takes

    -- What was read and handled where memory ran out: bytes of which no prefix is refused or ends
    -- the stream, and at most one piece after them; and first events of these, however they go on.
    -- No take gave nothing.
    pub record Starves : Type 0 where
      pub before : List ℕ
      pub piece : List ℕ
      pub pending : IsPending g before
      pub short : length piece ≤ 65536
      pub events : List E
      pub handled : Handled events
      pub first : (more : List ℕ) → AreFirst events ((before ++ piece) ++ more)
      pub stream : Told i.left i'.left (λ all rest. all ≡ before ++ piece ++ rest)
      pub took : Told i.taken i'.taken (λ t t'. t' ≡ t ++ before ++ piece)
      pub no_empty_take : i'.empty_takes ≡ i.empty_takes

    -- what was read and handled, however that ended
    abbrev pub Follows : FollowEnding R → Type 0
    Follows (Judged judged) = Decides judged
    Follows ReadFault = Breaks
    Follows Memory = Starves

-- What is left where a stream that came from an input has ended well, and these bytes are held:
-- what was taken of the input and wasn't read.
pub record Leaves {Z U E R : Type 0} (g : Grammar Z U E R) (i i' : Input) (held : List ℕ) : Type 0
  where
    pub read : List ℕ
    pub ended : EndsWell g read ((held ≡ []) × Told i.left i'.left (λ all rest. rest ≡ []))
    pub stream : Told i.left i'.left (λ all rest. all ≡ read ++ held ++ rest)
    pub took : Told i.taken i'.taken (λ t t'. t' ≡ t ++ read ++ held)

-- an input from which these bytes were taken before it was like this
pub record WasTaken (held : List ℕ) (i now : Input) : Type 0 where
  pub stream : Told i.left now.left (λ all rest. all ≡ held ++ rest)
  pub took : Told i.taken now.taken (λ t t'. t' ≡ t ++ held)
  pub faults : now.faults ≡ i.faults
  pub empty_takes : now.empty_takes ≡ i.empty_takes
