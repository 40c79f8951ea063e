use Rattle.{std.proofs.Common.length, hex.specs.Hex.encode_lower}
use Rattle.line_notation.proofs.PutsFacts.{HavePut}
use Rattle.line_notation.proofs.puts.put_digits.Given as goal

abbrev pub invariant-loop-rest : goal.invariant-loop-rest
invariant-loop-rest g l =
    HavePut encode_lower l.bytes l.rest (g.K.Sink.view l.fn.sink) (g.K.Sink.view l.sink)

abbrev pub decreases-loop-rest : goal.decreases-loop-rest
decreases-loop-rest g l = length l.rest
