-- What holds of each world: what it delivers, holds and counts as acknowledged is what was submitted.
use Rattle.std.specs.Prelude.{◌≡◌, ℕ, ◌+◌, ◌-◌, ◌^◌, ◌<◌, ◌≤◌, ◌⊎◌, Bool, true, List, length, take}
use Rattle.std.specs.Prelude.{slice_get, Some, None}
use Rattle.nbfx_values.specs.declared.content.Item.{Item}
use Rattle.reliable_sequence.specs.declared.{ranges.Range.Range, parts.Data.Data}
use Rattle.reliable_sequence.specs.PlainWorld.{World}
use Rattle.reliable_sequence.specs.Ranges.{Below, is_in, rise_from}
use Rattle.reliable_sequence.specs.Received.{newest, Received}
use Rattle.reliable_sequence.specs.Rehearsal.{IsBody}
use Rattle.reliable_sequence.specs.Sent.{Sent, submitted_count}
use Rattle.reliable_sequence.specs.Slots.{body_at, leading_free, Slots}

-- a number is held
pub record IsHeld (delivered : ℕ) (held : Slots) (number : ℕ) : Type 0 where
  pub place : ℕ
  pub body : List Item
  pub is : number ≡ delivered + place + 1
  pub found : body_at held place ≡ Some body

-- a number was delivered or is held
abbrev pub Has : Received → ℕ → Type 0
Has r number = (number ≤ r.delivered) ⊎ IsHeld r.delivered r.held number

-- what is sent is a body that was submitted under its number
pub record IsSubmitted (bodies : List (List Item)) (closed : Bool) (d : Data) : Type 0 where
  pub counted : 1 ≤ d.number
  pub body : slice_get bodies (d.number - 1) ≡ Some d.body
  pub last : d.last ≡ true → (closed ≡ true) × (d.number ≡ length bodies)

-- the numbers in ranges were received, and none is above the newest
pub record AreReceived (r : Received) (ranges : List Range) : Type 0 where
  pub each : (number : ℕ) → is_in ranges number ≡ true → Has r number
  pub below : Below (newest r) ranges

-- the sending end keeps the bodies that were submitted, but those whose numbers were received
pub record Keeps (bodies : List (List Item)) (s : Sent) (WasReceived : ℕ → Type 0) : Type 0 where
  pub counted : submitted_count s ≡ length bodies
  pub kept : (place : ℕ) (body : List Item) → body_at s.unacknowledged place ≡ Some body
      → slice_get bodies (s.front + place) ≡ Some body
  pub passed : (number : ℕ) → number ≤ s.front → WasReceived number
  pub freed : (place : ℕ) → place < length s.unacknowledged
      → body_at s.unacknowledged place ≡ None → WasReceived (s.front + place + 1)
  pub tight : leading_free s.unacknowledged ≡ 0

-- the receiving end has delivered the first of them, and holds others under their numbers
pub record Holds (bodies : List (List Item)) (closed : Bool) (r : Received)
    (delivered : List (List Item)) : Type 0 where
  pub in_order : delivered ≡ take r.delivered bodies
  pub held : (place : ℕ) (body : List Item) → body_at r.held place ≡ Some body
      → slice_get bodies (r.delivered + place) ≡ Some body
  pub few : newest r ≤ length bodies
  pub near : length r.held ≤ r.window
  pub last : (number : ℕ) → r.last ≡ Some number → (closed ≡ true) × (number ≡ length bodies)

pub record IsFaithful (w : World) : Type 0 where
  pub keeps : Keeps w.bodies w.sender (Has w.receiver)
  pub holds : Holds w.bodies w.sender.closed w.receiver w.delivered
  pub data_sent : (at : ℕ) (d : Data) → slice_get w.data_sent at ≡ Some d
      → IsSubmitted w.bodies w.sender.closed d
  pub ranges_sent : (at : ℕ) (ranges : List Range) → slice_get w.ranges_sent at ≡ Some ranges
      → AreReceived w.receiver ranges

-- bodies that may stand in documents, under numbers that may, and ranges that rise
pub record IsSound (w : World) : Type 0 where
  pub faithful : IsFaithful w
  pub bodies : (at : ℕ) (body : List Item) → slice_get w.bodies at ≡ Some body → IsBody body
  pub few : length w.bodies < 2 ^ 63
  pub rising : (at : ℕ) (ranges : List Range) → slice_get w.ranges_sent at ≡ Some ranges
      → rise_from 1 ranges ≡ true
