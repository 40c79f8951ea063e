use Rattle.std.proofs.Common.{◌≡◌, take}
use Rattle.line_notation.specs.Parts.{has_no_capitals}
use Rattle.line_notation.proofs.digits.has_no_capitals.Given as goal

abbrev pub invariant-loop-byte : goal.invariant-loop-byte
invariant-loop-byte l = l.none ≡ has_no_capitals (take l.byte-index l.word)
