-- The sending end of a sequence.
use Rattle.std.specs.Prelude.{◌≡◌, ℕ, zero, suc, ◌+◌, ◌-◌, ◌^◌, ◌==◌, ◌<◌, ◌≤◌, Bool, false, ◌&&◌, List, [], ◌∷◌}
use Rattle.std.specs.Prelude.{◌++◌, length, is_none, nat_le, nat_lt, if◌then◌else◌, Some}
use Rattle.std.specs.Prelude.{drop, None, Option, Ok, Err, Result, option_map}
use Rattle.nbfx_values.specs.declared.content.Item.{Item}
use Rattle.reliable_sequence.specs.declared.{ranges.Range.Range, parts.Data.Data}
use Rattle.reliable_sequence.specs.declared.faults.RmFault.{RmFault, TheVariants.InvalidAck}
use Rattle.reliable_sequence.specs.declared.faults.SubmitFault.{SubmitFault, TheVariants.Closed}
use Rattle.reliable_sequence.specs.declared.faults.SubmitFault.TheVariants.{WindowFull}
use Rattle.reliable_sequence.specs.Ranges.{first_above}
use Rattle.reliable_sequence.specs.Received.{place_of}
use Rattle.reliable_sequence.specs.Slots.{body_at, free_count, freed, leading_free, Slots}

pub record Sent : Type 0 where
  -- how many submitted numbers may stand behind those that are acknowledged without a gap
  pub window : ℕ
  -- how many those are
  pub front : ℕ
  -- the bodies that aren't acknowledged, each at the place of its number: the number behind the
  -- front comes first
  pub unacknowledged : Slots
  -- whether the last body of the sequence was submitted
  pub closed : Bool

-- no more places than the window has stand behind a front, which is the longest
pub record IsWithinWindow (window front : ℕ) (unacknowledged : Slots) : Type 0 where
  pub few : front + length unacknowledged < 2 ^ 64
  pub within : length unacknowledged ≤ window
  pub longest : leading_free unacknowledged ≡ 0

abbrev pub nothing_sent : ℕ → Sent
nothing_sent window = record { window = window; front = 0; unacknowledged = []; closed = false }

-- how many bodies were submitted
abbrev pub submitted_count : Sent → ℕ
submitted_count s = s.front + length s.unacknowledged

abbrev pub sent_with : Sent → List Item → Bool → Sent
sent_with s body last = record {
  window = s.window;
  front = s.front;
  unacknowledged = s.unacknowledged ++ Some body ∷ [];
  closed = last;
}

-- what submitting a body answers, its number among it, and what is sent then
abbrev pub submitted : Sent → List Item → Bool → Result (ℕ × Sent) SubmitFault
submitted s body last =
    if s.closed then Err Closed
    else if length s.unacknowledged == s.window
    then Err (WindowFull (length s.unacknowledged))
    else Ok (submitted_count s + 1, sent_with s body last)

-- what is sent under a number that isn't acknowledged
abbrev pub data_with : Sent → ℕ → List Item → Data
data_with s number body = record {
  number = number;
  last = s.closed && number == submitted_count s;
  body = body;
}

-- the body of a number that isn't acknowledged
abbrev pub body_of : Sent → ℕ → Option (List Item)
body_of s number =
    if nat_le number s.front then None
    else body_at s.unacknowledged (place_of s.front number)

abbrev pub data_of : Sent → ℕ → Option Data
data_of s number = option_map (data_with s number) (body_of s number)

-- whether a number is acknowledged
abbrev pub is_acknowledged : Sent → ℕ → Bool
is_acknowledged s number =
    nat_lt 0 number && (nat_le number (submitted_count s) && is_none (body_of s number))

-- the places without the bodies of a range, where so many numbers stand in front of them
abbrev pub without : ℕ → Slots → Range → Slots
without front slots r = freed slots (place_of front r.lower) (r.upper - front)

-- without those of each of some ranges
abbrev pub without_all : ℕ → Slots → List Range → Slots
without_all front slots [] = slots
without_all front slots (r ∷ more) = without_all front (without front slots r) more

-- what is sent, where these places are left: the front goes up to the first that isn't free
abbrev pub sent_with_slots : Sent → Slots → Sent
sent_with_slots s slots = record {
  window = s.window;
  front = s.front + leading_free slots;
  unacknowledged = drop (leading_free slots) slots;
  closed = s.closed;
}

abbrev pub sent_without : Sent → List Range → Sent
sent_without s ranges = sent_with_slots s (without_all s.front s.unacknowledged ranges)

-- what is sent once these ranges are acknowledged, or the upper end of the first that goes beyond
-- what was submitted
abbrev pub acknowledged_unless : Option ℕ → List Range → Sent → Result Sent RmFault
acknowledged_unless None ranges s = Ok (sent_without s ranges)
acknowledged_unless (Some upper) ranges s = Err (InvalidAck upper)

abbrev pub acknowledged : Sent → List Range → Result Sent RmFault
acknowledged s ranges = acknowledged_unless (first_above (submitted_count s) ranges) ranges s

-- how many numbers are acknowledged
abbrev pub acknowledged_count : Sent → ℕ
acknowledged_count s = s.front + free_count s.unacknowledged

-- how many of the numbers up to this one are acknowledged
abbrev pub acknowledged_among : Sent → ℕ → ℕ
acknowledged_among s zero = 0
acknowledged_among s (suc n) =
    if is_acknowledged s (suc n) then acknowledged_among s n + 1 else acknowledged_among s n
