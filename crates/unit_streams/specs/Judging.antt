-- What each prefix of a stream completes and what refuses it; the history of a stream, which is its
-- events and then its offence; the answer to a piece of one.
use Rattle.std.specs.Prelude.{ℕ, suc, List, [], ◌∷◌, ◌++◌, length, Bool, Option, Some, None}
use Rattle.std.specs.Option.{option_or, option_to_list}
use Rattle.unit_streams.specs.Front.{wrong_of}
use Rattle.unit_streams.specs.Grammar.{Grammar, Standing, next_unit, standing}

-- what the last whole unit gave, where nothing is begun behind it
abbrev pub given_at : {A : Type 0} → List ℕ → Option A → Option A
given_at [] given = given
given_at (byte ∷ rest) given = None

module _ {Z U E R : Type 0} (g : Grammar Z U E R) where
  -- the event that a prefix which stands so completes: its last byte is the last unit's
  abbrev pub event_of : Standing Z E R → Option E
  event_of s = given_at s.begun s.event

  -- what refuses a prefix of n bytes that stands so: what its last unit says, else the unit that is
  -- begun, else its length
  abbrev pub refusal_of : Standing Z E R → ℕ → Option R
  refusal_of s n =
      option_or (given_at s.begun s.refusal)
      (option_or (wrong_of (next_unit g s)) (g.at_length s.situation s.from n))

  -- the event that the prefix p completes
  unfoldable pub event_at : List ℕ → Option E
  event_at p = event_of (standing g p)

  -- what refuses the prefix p
  unfoldable pub refusal_at : List ℕ → Option R
  refusal_at p = refusal_of (standing g p) (length p)

  -- nothing behind the prefix p is judged
  unfoldable pub is_over_at : List ℕ → Bool
  is_over_at p = g.is_over (standing g p).situation

  -- what it means that the input ends at p
  unfoldable pub ending_at : List ℕ → Option R
  ending_at p = g.at_end (standing g p).situation (standing g p).from (length p)

-- events in order, and then what refuses the stream, if something does
pub record History (E R : Type 0) : Type 0 where
  pub events : List E
  pub offence : Option R

-- without events
abbrev pub only : {E R : Type 0} → Option R → History E R
only offence = record { events = []; offence = offence }

-- with these events before the others
abbrev pub led_by : {E R : Type 0} → List E → History E R → History E R
led_by before history = record { events = before ++ history.events; offence = history.offence }

-- refused, or else the other
abbrev pub unless_refused : {E R : Type 0} → Option R → History E R → History E R
unless_refused (Some r) history = only (Some r)
unless_refused None history = history

module _ {Z U E R : Type 0} (g : Grammar Z U E R) where
  -- what comes behind the prefix p as y goes on: the events of longer prefixes, up to the shortest
  -- that is refused, and that refusal, or the end's
  unfoldable pub history_from : List ℕ → List ℕ → History E R
  history_from p [] = only (option_or (refusal_at g p) (ending_at g p))
  history_from p (b ∷ y) =
      unless_refused (refusal_at g p)
      (led_by (option_to_list (event_at g (p ++ b ∷ []))) (history_from (p ++ b ∷ []) y))

  -- the history of a stream
  unfoldable pub history : List ℕ → History E R
  history stream = history_from [] stream

  -- its events
  unfoldable pub events : List ℕ → List E
  events stream = (history stream).events

  -- its offence: what refuses the shortest prefix that is refused, else the end
  unfoldable pub offence : List ℕ → Option R
  offence stream = (history stream).offence

  -- the events of the prefixes longer than p, whether refused or not, as y goes on
  unfoldable pub events_in : List ℕ → List ℕ → List E
  events_in p [] = []
  events_in p (b ∷ y) = option_to_list (event_at g (p ++ b ∷ [])) ++ events_in (p ++ b ∷ []) y

  -- the events of all prefixes of the bytes so far
  unfoldable pub events_of : List ℕ → List E
  events_of bytes = events_in [] bytes

-- what a piece brings
pub data Answer (E R : Type 0) : Type 0 where
  -- nothing is decided, and all of it is used
  goes_on : Answer E R
  -- so many of its bytes complete an event
  completes : ℕ → E → Answer E R
  -- so many of its bytes show a refusal
  offends : ℕ → R → Answer E R

-- a refusal behind n bytes, or else the other
abbrev pub unless_offended : {E R : Type 0} → ℕ → Option R → Answer E R → Answer E R
unless_offended n (Some r) other = offends n r
unless_offended n None other = other

-- an event behind n bytes, or else the other
abbrev pub unless_completed : {E R : Type 0} → ℕ → Option E → Answer E R → Answer E R
unless_completed n (Some e) other = completes n e
unless_completed n None other = other

-- how many of so many bytes are used
abbrev pub used : {E R : Type 0} → ℕ → Answer E R → ℕ
used len goes_on = len
used len (completes n e) = n
used len (offends n r) = n

module _ {Z U E R : Type 0} (g : Grammar Z U E R) where
  -- the first decision as y goes on behind the prefix p, the last n bytes of which are the piece's:
  -- an event at its last byte, else a refusal
  unfoldable pub answer_from : List ℕ → ℕ → List ℕ → Answer E R
  answer_from p n [] = unless_offended n (refusal_at g p) goes_on
  answer_from p n (b ∷ y) =
      unless_offended n (refusal_at g p)
      (unless_completed (suc n) (event_at g (p ++ b ∷ [])) (answer_from (p ++ b ∷ []) (suc n) y))

  -- the answer to the piece y behind p
  unfoldable pub answer : List ℕ → List ℕ → Answer E R
  answer p y = answer_from p 0 y
