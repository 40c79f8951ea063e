use Rattle.std.{proofs.Common.◌≡◌, proofs.Common.take, specs.List.list_all}
use Rattle.line_notation.specs.Quoted.{is_plain}
use Rattle.line_notation.proofs.puts.each_is_plain.Given as goal

abbrev pub invariant-loop-byte : goal.invariant-loop-byte
invariant-loop-byte l = l.plain ≡ list_all is_plain (take l.byte-index l.bytes)
