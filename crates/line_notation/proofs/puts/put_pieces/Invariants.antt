use Rattle.std.proofs.Common.{length, flat_map}
use Rattle.line_notation.{specs.Quoted.quoted_byte, proofs.PutsFacts.HavePut}
use Rattle.line_notation.proofs.puts.put_pieces.Given as goal

abbrev pub invariant-loop-rest : goal.invariant-loop-rest
invariant-loop-rest g l =
    HavePut (flat_map quoted_byte) l.bytes l.rest (g.K.Sink.view l.fn.sink) (g.K.Sink.view l.sink)

abbrev pub decreases-loop-rest : goal.decreases-loop-rest
decreases-loop-rest g l = length l.rest
