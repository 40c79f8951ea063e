use Rattle.std.proofs.Common.{◌≡◌, drop, option_map}
use Rattle.reliable_sequence.specs.Reading.{block_named, span_of}
use Rattle.reliable_sequence.proofs.reading.block_named.Given as goal

abbrev pub invariant-loop-i : goal.invariant-loop-i
invariant-loop-i l =
    option_map span_of (block_named l.local (drop l.i l.blocks))
    ≡ option_map span_of (block_named l.local l.blocks)
