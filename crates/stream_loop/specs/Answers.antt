-- How a reading end says what the grammar of its stream answers, what a reporter writes that sees
-- events as they are said, and what the loop asks of a grammar.
use Rattle.std.specs.Prelude.{◌≡◌, ℕ, ◌≤◌, Bool, List, [], length, Some, None, Ok, Err, Option}
use Rattle.std.specs.Prelude.{Result, ⊤}
use Rattle.unit_streams.specs.{Going.IsPending, Grammar.Grammar, Tellers.Closes, Tellers.Teller}
use Rattle.unit_streams.specs.Judging.{Answer, completes, goes_on, offends, refusal_at}
use Rattle.stream_loop.specs.declared.reading_end.FeedFault.{FeedFault}
use Rattle.stream_loop.specs.declared.reading_end.FeedFault.TheVariants.{Memory, Refused}

-- an answer to a piece of so many bytes, by the values that events are said with
abbrev pub said : {E V R : Type 0} → (E → V) → ℕ → Answer E R → Result (ℕ × Option V) (FeedFault R)
said event_for len goes_on = Ok (len, None)
said event_for len (completes n event) = Ok (n, Some (event_for event))
said event_for len (offends n r) = Err (Refused r)

-- it is said so, or there was no memory to say it
abbrev pub Says : {E V R : Type 0} → (E → V) → ℕ → Answer E R
    → Result (ℕ × Option V) (FeedFault R) → Type 0
Says event_for len answer (Err Memory) = ⊤
Says event_for len answer result = result ≡ said event_for len answer

-- what the end of the input is answered with
abbrev pub said_at_end : {R : Type 0} → Option R → Result ⊤ R
said_at_end None = Ok tt
said_at_end (Some r) = Err r

-- what is written of events, by what is written of the values that they are said with
abbrev pub written_by : {S E V R : Type 0} → (E → V) → Teller S V R → Teller S E R
written_by event_for rules = record {
  start = rules.start;
  told = λ s event. rules.told s (event_for event);
  next = λ s event. rules.next s (event_for event);
  ends = rules.ends;
}

-- A grammar's streams can be read to their end: they are closed by the events that end them, one of
-- no bytes isn't refused, and none goes on after so many bytes.
pub record EndsWithin {Z U E R : Type 0} (g : Grammar Z U E R) (ends : E → Bool) (most : ℕ)
    : Type 0 where
  pub closes : Closes g ends
  pub first : refusal_at g [] ≡ None
  pub within : (p : List ℕ) → IsPending g p → length p ≤ most
