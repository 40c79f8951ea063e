use Rattle.std.proofs.Common.{◌≡◌, take}
use Rattle.stream_loop.specs.Parts.{ends_within}
use Rattle.stream_loop.proofs.part_writer.ends_within.Given as goal

abbrev pub invariant-loop-end : goal.invariant-loop-end
invariant-loop-end l = l.count ≡ ends_within l.put (take l.end-index l.ends) l.before
