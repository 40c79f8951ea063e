-- What a decoder stands for, and what it shows. Of a payload's bytes it keeps those of the unit
-- that isn't whole.
use Rattle.std.specs.Prelude.{◌≡◌, ℕ, ◌+◌, ◌<◌, ◌≤◌, List, [], ◌++◌, length, take, Some, None, Ok}
use Rattle.std.specs.Prelude.{Err, Option, Result, ⊤}
use Rattle.unit_streams.specs.{Going.IsGoing, Going.IsPending, Grammar.standing}
use Rattle.unit_streams.specs.Judging.{answer, ending_at, goes_on, offends, refusal_at}
use Rattle.string_tables.specs.SessionStrings.{used_cost}
use Rattle.nbfx_values.specs.{declared.content.Item.Item, QuotasOf.limits_of}
use Rattle.nbfx_values.specs.Measures.{capped, content_of}
use Rattle.session_dictionary.specs.Strings.{LimitedStrings}
use Rattle.nbfx_decoder.specs.declared.{decoder.Decoder.Decoder, faults.DecodeFault.DecodeFault}
use Rattle.nbfx_decoder.specs.declared.faults.DecodeFault.TheVariants.{Memory, Payload}
use Rattle.nbfx_decoder.specs.Payload.{payload, refusal, Settings, Situation, unit_in}
use Rattle.nbfx_decoder.specs.Units.{AwaitsBytes, HasStrings, IsAt}

-- what the decoder is set to
unfoldable pub settings_of : Decoder → Settings
settings_of d =
    record { statics = d.units.statics.now; kind = d.units.kind; limits = limits_of d.units.quotas }

-- the fault that it answers from now on
unfoldable pub failure_of : Decoder → Option DecodeFault
failure_of d = d.failure

-- how many bytes of the payload it has taken
unfoldable pub taken_of : Decoder → ℕ
taken_of d = d.units.from + length d.begun

-- how many bytes of the payload it holds
unfoldable pub held_of : Decoder → ℕ
held_of d = length d.begun

-- the content of the items that it holds
unfoldable pub content_held_of : Decoder → ℕ
content_held_of d = capped (content_of d.units.document)

-- where its payload stands, behind payloads that left these strings
abbrev pub situation_of : Settings → List (List ℕ) → List ℕ → Situation
situation_of x strings p = (standing (payload x strings) p).situation

abbrev pub from_of : Settings → List (List ℕ) → List ℕ → ℕ
from_of x strings p = (standing (payload x strings) p).from

abbrev pub begun_of : Settings → List (List ℕ) → List ℕ → List ℕ
begun_of x strings p = (standing (payload x strings) p).begun

-- it has come as far as p, whose last unit isn't refused
pub record Reached (d : Decoder) (x : Settings) (strings : List (List ℕ)) (p : List ℕ)
    : Type 0 where
  pub at : IsAt d.units x (situation_of x strings p) (from_of x strings p)
  pub begun : d.begun ≡ begun_of x strings p
  -- of the unit that has begun so many bytes are wanted at least
  pub waits : 0 < length d.begun
      → AwaitsBytes (unit_in x (situation_of x strings p) (from_of x strings p)) d.begun d.wants
  pub going : IsGoing (payload x strings) (standing (payload x strings) p)
  pub unfailed : d.failure ≡ None

-- it stands for these bytes of a payload: none of the first of them is refused, they are no more
-- than a payload may have, and the strings before it cost no more than they may
pub record StandsSo (d : Decoder) (x : Settings) (strings : List (List ℕ)) (p : List ℕ)
    : Type 0 where
  pub reached : Reached d x strings p
  pub pending : IsPending (payload x strings) p
  pub within : length p ≤ x.limits.payload
  pub before : used_cost strings ≤ x.limits.dictionary

-- the strings before the payload, and its bytes so far
unfoldable pub StandsFor : Decoder → List (List ℕ) → List ℕ → Type 0
StandsFor d strings p = StandsSo d (settings_of d) strings p

-- this holds wherever it stands
abbrev pub WhereItStands : Decoder → (List (List ℕ) → List ℕ → Type 0) → Type 0
WhereItStands d Holds = (strings : List (List ℕ)) (p : List ℕ) → StandsFor d strings p
    → Holds strings p

-- where the unit begins that a fault is placed at; for want of memory it is the one that comes next
abbrev pub IsPlacedAt : ℕ → DecodeFault → ℕ → Type 0
IsPlacedAt next (Payload at reason shown_by) n = n ≡ at
IsPlacedAt next Memory n = n ≡ next

-- what a decoder shows that has failed: the fault, and behind the bytes p of the payload its
-- strings alone
pub record Failed (d : Decoder) (x : Settings) (fault : DecodeFault) (strings : List (List ℕ))
    (p : List ℕ) : Type 0 where
  pub failure : d.failure ≡ Some fault
  pub place : IsPlacedAt (from_of x strings p) fault d.units.from
  pub strings_are : HasStrings d.units x (situation_of x strings p).strings d.units.from
  pub no_bytes : d.begun ≡ []
  pub no_items : d.units.document ≡ []

unfoldable pub FailedBehind : Decoder → DecodeFault → List (List ℕ) → List ℕ → Type 0
FailedBehind d fault strings p = Failed d (settings_of d) fault strings p

-- this holds wherever it has failed
abbrev pub WhereItFailed : Decoder → (DecodeFault → List (List ℕ) → List ℕ → Type 0) → Type 0
WhereItFailed d Holds = (fault : DecodeFault) (strings : List (List ℕ)) (p : List ℕ)
    → FailedBehind d fault strings p → Holds fault strings p

-- the table that stands there
abbrev pub table_at : Decoder → List (List ℕ) → List ℕ → LimitedStrings
table_at d strings p = record {
  strings = (situation_of (settings_of d) strings p).strings;
  limit = (settings_of d).limits.dictionary;
}

-- so many bytes of the payload show the fault
abbrev pub ShownBy : DecodeFault → ℕ → Type 0
ShownBy (Payload at reason shown_by) n = shown_by ≡ n
ShownBy Memory n = ⊤

-- it has failed with some bytes of y, behind p; none of fewer is refused
pub record FailedWithin (d : Decoder) (fault : DecodeFault) (strings : List (List ℕ)) (p y : List ℕ)
    : Type 0 where
  pub count : ℕ
  pub within : count ≤ length y
  pub before : (i : ℕ) → i < count
      → refusal_at (payload (settings_of d) strings) (p ++ take i y) ≡ None
  pub shown : ShownBy fault (length p + count)
  -- for want of memory they aren't refused either, and others of y come behind them
  pub wanted : fault ≡ Memory → (count < length y)
      × (refusal_at (payload (settings_of d) strings) (p ++ take count y) ≡ None)
  pub behind : FailedBehind d fault strings (p ++ take count y)

-- what the bytes y are answered with behind p; for want of memory nothing is said of them
abbrev pub FeedAnswers : Settings → List (List ℕ) → List ℕ → List ℕ → Result (Unit {0}) DecodeFault
    → Type 0
FeedAnswers x strings p y (Ok done) = answer (payload x strings) p y ≡ goes_on
FeedAnswers x strings p y (Err (Payload at reason shown_by)) =
    (n : ℕ) × (answer (payload x strings) p y ≡ offends n (refusal at reason))
    × (shown_by ≡ length p + n)
FeedAnswers x strings p y (Err Memory) = ⊤

-- what the end of the payload p is answered with: its items, where it is whole
abbrev pub FinishAnswers : Settings → List (List ℕ) → List ℕ → Result (List Item) DecodeFault
    → Type 0
FinishAnswers x strings p (Ok doc) = (ending_at (payload x strings) p ≡ None)
    × (doc ≡ (situation_of x strings p).items)
FinishAnswers x strings p (Err (Payload at reason shown_by)) =
    (ending_at (payload x strings) p ≡ Some (refusal at reason)) × (shown_by ≡ length p)
FinishAnswers x strings p (Err Memory) = ⊥
