-- A sink that gathers what is put to it.
use Rattle.std.specs.Prelude.{ℕ, true, List, ◌++◌}
use Rattle.io_edges.specs.Views.{SinkView}

-- the sink beneath, how many bytes its room has, and those that stand there
pub record Gathering (K : Type 0) : Type 0 where
  pub sink : K
  pub room : ℕ
  pub gathered : List ℕ

-- what is seen of it, by what is seen of the sink beneath: the bytes in the room are held
abbrev pub with_room : (gathered : List ℕ) → SinkView → SinkView
with_room gathered sink = record sink {
  held = sink.held ++ gathered;
  may_hold = true;
}
