use Rattle.std.proofs.Common.{◌≡◌, ◌≤◌, ◌*◌, flat_map, take}
use Rattle.line_notation.specs.Quoted.{quoted_byte}
use Rattle.line_notation.proofs.puts.spell.Given as goal

abbrev pub invariant-loop-byte : goal.invariant-loop-byte
invariant-loop-byte l = record {
  within : l.end ≤ 3 * l.byte-index;
  spelled : take l.end l.piece ≡ flat_map quoted_byte (take l.byte-index l.bytes);
}
