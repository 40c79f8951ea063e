-- Which parts are due for events, by what is told of them and by how many parts count then.
use Rattle.std.specs.Prelude.{◌≡◌, ℕ, ◌⊎◌, List, [], ◌∷◌}
use Rattle.{unit_streams.specs.Tellers.Teller, stream_loop.specs.Parts.Part}
use Rattle.stream_loop.specs.Parts.{with_part}

-- a teller whose states say how many parts count
module _ {S E R : Type 0} (t : Teller S E R) (count : S → ℕ) where
  -- the part that is due for an event
  abbrev pub IsDue : S → E → Part → Type 0
  IsDue s event part = (part.bytes ≡ t.told s event)
      × (with_part (count s) part ≡ count (t.next s event))

  -- there is none
  abbrev pub IsQuiet : S → E → Type 0
  IsQuiet s event = (t.told s event ≡ []) × (count (t.next s event) ≡ count s)

  -- these parts are due for events, in this order
  unfoldable pub AreDue : S → List E → List Part → Type 0
  AreDue s [] parts = parts ≡ []
  AreDue s (event ∷ events) parts =
      (IsQuiet s event × AreDue (t.next s event) events parts)
      ⊎ ((one : Part) × (more : List Part) × (parts ≡ one ∷ more) × IsDue s event one
      × AreDue (t.next s event) events more)
