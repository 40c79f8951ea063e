use Rattle.std.proofs.lemmas.Result.{err_from_is_err_and}
use Rattle.line_notation.proofs.PutsFacts.{HavePut-more, HavePut-cut, HavePut-none}
use Rattle.line_notation.proofs.PutsFacts.{encode_lower-joins}
use Rattle.line_notation.proofs.puts.put_digits.Goals as goal

pub returns-in_err-put_chunk : goal.returns-in_err-put_chunk
returns-in_err-put_chunk g c =
    let p = err_from_is_err_and c.from_residual.result c.from_residual.ensures.1 in
    rw (p.1, p.2) (HavePut-cut c.min.result encode_lower-joins c.loop-rest.invariant
    (rw c.split_at.ensures.front at c.in_err-put_chunk.ensures))

pub loop-rest-preserved : goal.loop-rest-preserved
loop-rest-preserved g c =
    rw c.split_at.ensures.back (HavePut-more c.min.result encode_lower-joins c.loop-rest.invariant
    (rw c.split_at.ensures.front at c.in_ok-put_chunk.ensures))

pub loop-rest-init : goal.loop-rest-init
loop-rest-init g c = HavePut-none _ _ encode_lower-joins
