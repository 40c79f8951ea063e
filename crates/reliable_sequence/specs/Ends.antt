-- The ends of a sequence over documents.
use Rattle.std.specs.Prelude.{◌≡◌, ℕ, List, Some}
use Rattle.nbfx_values.specs.declared.content.Item.{Item}
use Rattle.soap_envelope.specs.Making.{IsContent}
use Rattle.reliable_sequence.specs.{Received.Received, Sent.Sent, Slots.body_at, Slots.Slots}

pub record ReceivingEnd : Type 0 where
  pub identifier : List ℕ
  pub received : Received

pub record SendingEnd : Type 0 where
  pub identifier : List ℕ
  pub sent : Sent

-- each body may stand inside an element
abbrev pub AreContents : Slots → Type 0
AreContents slots =
    (place : ℕ) (body : List Item) → body_at slots place ≡ Some body → IsContent body
