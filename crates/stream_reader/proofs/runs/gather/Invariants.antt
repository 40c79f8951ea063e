use Rattle.std.proofs.Common.{◌≡◌, ◌-◌, ◌≤◌, length, take}
use Rattle.stream_reader.specs.Runs.{IsRun}
use Rattle.stream_reader.proofs.runs.gather.Given as goal

abbrev pub invariant-loop-used : goal.invariant-loop-used
invariant-loop-used l = record {
  used : l.used ≤ length l.bytes;
  filled : l.filled ≤ length l.room;
  room : length l.room ≡ length l.initial.room;
  run : IsRun (take l.used l.bytes) (take l.filled l.room);
}

abbrev pub decreases-loop-used : goal.decreases-loop-used
decreases-loop-used l = length l.bytes - l.used
