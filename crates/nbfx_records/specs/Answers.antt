-- What is answered to bytes at whose front a record is read.
use Rattle.std.specs.Prelude.{◌≡◌, ℕ, ◌+◌, ◌<◌, ◌≤◌, List, [], ◌++◌, length, IsTrue, Ok, Err}
use Rattle.std.specs.Prelude.{Result, ⊤}
use Rattle.unit_streams.specs.Front.{begun, whole, wrong}
use Rattle.nbfx_records.specs.declared.{cursor.Stop.Stop, reader.NodeStep.NodeStep}
use Rattle.nbfx_records.specs.declared.nodes.{NodeFault.NodeFault, NodePlace.NodePlace}
use Rattle.nbfx_records.specs.declared.nodes.NodeFault.TheVariants.{Memory, Record}
use Rattle.nbfx_records.specs.declared.reader.NodeStep.TheVariants.{Done, More}
use Rattle.nbfx_records.specs.{RecordAtFront.node_at, Valid.is_valid_node}
use Rattle.nbfx_records.specs.declared.cursor.Stop.TheVariants as stops
use Rattle.nbfx_records.specs.Asked as asked

-- Fewer than so many bytes in all decide nothing, however they go on: so many are asked for where
-- the bytes end, which is up to the end of a text, of bytes or of an array's values where their
-- number is known.
pub record WaitsFor (place : NodePlace) (bytes : List ℕ) (wants : ℕ) : Type 0 where
  pub more : length bytes < wants
  pub begins : (next : List ℕ) → length (bytes ++ next) < wants
      → node_at place (bytes ++ next) ≡ begun
  pub asks : asked.shape_at place bytes wants

-- why no record is whole by its structure
abbrev pub StopsBy : NodePlace → List ℕ → Stop → Type 0
StopsBy place bytes (stops.More wants) = WaitsFor place bytes wants
StopsBy place bytes (stops.Fault fault shown_by) = node_at place bytes ≡ wrong fault shown_by

-- What a piece is answered with behind the bytes p of a record that has begun: the record that its
-- first so many bytes make whole, that it makes none whole, or why none begins so.
abbrev pub FeedAnswers : NodePlace → List ℕ → List ℕ → Result (ℕ × NodeStep) NodeFault → Type 0
FeedAnswers place p piece (Ok (used, Done node)) = (0 < used) × (used ≤ length piece)
    × (node_at place (p ++ piece) ≡ whole node (length p + used))
FeedAnswers place p piece (Ok (used, More)) =
    (used ≡ length piece) × (node_at place (p ++ piece) ≡ begun)
FeedAnswers place p piece (Err (Record fault)) =
    (shown_by : ℕ) × (node_at place (p ++ piece) ≡ wrong fault shown_by)
FeedAnswers place p piece (Err Memory) = ⊤

-- which bytes are left then of a record that has begun
abbrev pub IsLeft : List ℕ → List ℕ → List ℕ → Result (ℕ × NodeStep) NodeFault → Type 0
IsLeft p piece left (Ok (used, Done node)) = left ≡ []
IsLeft p piece left (Ok (used, More)) = left ≡ p ++ piece
IsLeft p piece left (Err why) = ⊤

-- a node that is read is one whose values records can hold
abbrev pub StepIsValid : NodeStep → Type 0
StepIsValid (Done node) = IsTrue (is_valid_node node)
StepIsValid More = ⊤
