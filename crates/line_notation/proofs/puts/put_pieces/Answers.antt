use Rattle.std.proofs.lemmas.Result.{err_from_is_err_and}
use Rattle.line_notation.{specs.Quoted.quoted_byte, proofs.QuotedFacts.front-shown}
use Rattle.line_notation.proofs.PutsFacts.{flat_map-joins, HavePut-cut, HavePut-more}
use Rattle.line_notation.proofs.puts.put_pieces.Goals as goal

pub returns-in_err-put_piece : goal.returns-in_err-put_piece
returns-in_err-put_piece g c =
    let p = err_from_is_err_and c.from_residual.result c.from_residual.ensures.1 in
    rw (p.1, p.2)
    (HavePut-cut c.min.result (flat_map-joins quoted_byte) c.loop-rest.invariant
    (rw c.split_at.ensures.front at c.in_err-put_piece.ensures))

pub loop-rest-preserved-then-plain-lt-PIECE : goal.loop-rest-preserved-then-plain-lt-PIECE
loop-rest-preserved-then-plain-lt-PIECE g c =
    rw c.split_at.ensures.back
    (HavePut-more c.min.result (flat_map-joins quoted_byte) c.loop-rest.invariant
    (rw c.split_at.ensures.front at c.in_ok-put_piece.ensures))

pub returns-in_err-put_bytes : goal.returns-in_err-put_bytes
returns-in_err-put_bytes g c =
    let p = err_from_is_err_and c.from_residual-in_err-put_bytes.result
    c.from_residual-in_err-put_bytes.ensures.1 in
    let shown = front-shown c.loop-rest.rest.now c.plain_count-plain.result
    c.plain_count-plain.ensures in
    rw (p.1, p.2)
    (HavePut-cut c.plain_count-plain.result (flat_map-joins quoted_byte) c.loop-rest.invariant
    (rw (c.split_at-else-plain-lt-PIECE.ensures.front, ← shown) at c.in_err-put_bytes.ensures))

pub loop-rest-preserved : goal.loop-rest-preserved
loop-rest-preserved g c =
    let shown = front-shown c.loop-rest.rest.now c.plain_count-plain.result
    c.plain_count-plain.ensures in
    rw c.split_at-else-plain-lt-PIECE.ensures.back
    (HavePut-more c.plain_count-plain.result (flat_map-joins quoted_byte) c.loop-rest.invariant
    (rw (c.split_at-else-plain-lt-PIECE.ensures.front, ← shown) at c.in_ok-put_bytes.ensures))
