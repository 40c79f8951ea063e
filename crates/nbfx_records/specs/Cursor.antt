-- What is told of a part of a record that is read from an offset on: what stands there, whatever
-- follows the bytes, or how many are wanted.
use Rattle.std.specs.Prelude.{◌≡◌, ℕ, ◌+◌, ◌<◌, ◌≤◌, List, ◌++◌, length, drop, Ok, Err, Result, ⊤}
use Rattle.unit_streams.specs.Front.{begun, Front, whole, wrong}
use Rattle.unit_streams.specs.Parts.{further, Reader}
use Rattle.nbfx_records.specs.declared.cursor.Stop.{Stop, TheVariants.Fault, TheVariants.More}
use Rattle.nbfx_records.specs.declared.nodes.RecordFault.{RecordFault}

-- what a reader says of the bytes from an offset on, its lengths counted from their beginning
abbrev pub read_from : {A : Type 0} → ℕ → Reader A RecordFault → List ℕ → Front A RecordFault
read_from at reader bytes = further at (reader (drop at bytes))

-- a whole part up to an offset
pub record IsWhole {A : Type 0} (reader : Reader A RecordFault) (bytes : List ℕ) (at : ℕ) (a : A)
    (to : ℕ) : Type 0 where
  pub after : at ≤ to
  pub within : to ≤ length bytes
  pub stands : (more : List ℕ) → read_from at reader (bytes ++ more) ≡ whole a to

-- so many bytes show what is wrong with it
pub record IsWrong {A : Type 0} (reader : Reader A RecordFault) (bytes : List ℕ) (at : ℕ)
    (fault : RecordFault) (shown_by : ℕ) : Type 0 where
  pub stands : (more : List ℕ) → read_from at reader (bytes ++ more) ≡ wrong fault shown_by

-- it has begun, and fewer than so many bytes decide nothing
pub record Waits {A : Type 0} (reader : Reader A RecordFault) (bytes : List ℕ)
    (at wants : ℕ) : Type 0 where
  pub above : length bytes < wants
  pub begins : (more : List ℕ) → length (bytes ++ more) < wants
      → read_from at reader (bytes ++ more) ≡ begun

-- why it isn't whole
abbrev pub Why : {A : Type 0} → Reader A RecordFault → List ℕ → ℕ → Stop → Type 0
Why reader bytes at (Fault fault shown_by) = IsWrong reader bytes at fault shown_by
Why reader bytes at (More wants) = Waits reader bytes at wants

-- and how many bytes it asks for then
abbrev pub AsksAt : (List ℕ → ℕ → Type 0) → List ℕ → ℕ → Stop → Type 0
AsksAt asked bytes at (Fault fault shown_by) = ⊤
AsksAt asked bytes at (More wants) = (m : ℕ) × (wants ≡ at + m) × asked (drop at bytes) m

pub record Stops {A : Type 0} (reader : Reader A RecordFault) (asked : List ℕ → ℕ → Type 0)
    (bytes : List ℕ) (at : ℕ) (stop : Stop) : Type 0 where
  pub why : Why reader bytes at stop
  pub asks : AsksAt asked bytes at stop

-- what it is, of which see is what the reader has, or why it isn't whole
abbrev pub PartTold : {X A : Type 0} → (X → A) → Reader A RecordFault → (List ℕ → ℕ → Type 0)
    → List ℕ → ℕ → Result (X × ℕ) Stop → Type 0
PartTold see reader asked bytes at (Ok read) = IsWhole reader bytes at (see read.0) read.1
PartTold see reader asked bytes at (Err stop) = Stops reader asked bytes at stop

-- where it wants more bytes
abbrev pub OnMore : {T : Type 0} → Result T Stop → Type 0 → Type 0
OnMore (Err (More wants)) P = P
OnMore _ P = ⊤

-- what a part's function returns
pub record Tells {X A : Type 0} (see : X → A) (reader : Reader A RecordFault)
    (asked : List ℕ → ℕ → Type 0) (bytes : List ℕ) (at : ℕ)
    (result : Result (X × ℕ) Stop) : Type 0 where
  pub told : PartTold see reader asked bytes at result
