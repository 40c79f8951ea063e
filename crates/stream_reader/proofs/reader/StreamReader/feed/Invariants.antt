use Rattle.std.proofs.Common.{◌≡◌, ℕ, ◌+◌, ◌-◌, ◌≤◌, false, List}
use Rattle.unit_streams.specs.Judging.{is_over_at}
use Rattle.stream_reader.{specs.Stream.stream, proofs.FeedSteps.Along}
use Rattle.stream_reader.specs.StreamReaderState.{settings_of, StandsFor}
use Rattle.stream_reader.proofs.reader.StreamReader.feed.Given as goal

abbrev pub invariant-loop-used : goal.invariant-loop-used
invariant-loop-used l = record {
  within : l.used ≤ l.room;
  settings : settings_of l.self ≡ settings_of l.initial.self;
  taken : l.self.taken ≡ l.initial.self.taken + l.used;
  along : (p : List ℕ) → StandsFor l.initial.self p
      → is_over_at (stream (settings_of l.initial.self)) p ≡ false
      → Along l.self (settings_of l.initial.self) p l.piece l.used;
}

abbrev pub decreases-loop-used : goal.decreases-loop-used
decreases-loop-used l = l.room - l.used
