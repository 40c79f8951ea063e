use Rattle.std.proofs.{Common.[], lemmas.Result.err_from_is_err_and}
use Rattle.io_edges.proofs.Putting.{beside_no_room, Puts-cut, Puts-then}
use Rattle.io_edges.proofs.gathering_sink.gather_anew.Goals as goal

pub returns-in_err-put_gathered-clause-adds : goal.returns-in_err-put_gathered-clause-adds
returns-in_err-put_gathered-clause-adds g c =
    let p = err_from_is_err_and c.from_residual.result c.from_residual.ensures.1 in
    rw (p.1, p.2, c.in_err-put_gathered.ensures.emptied)
    (Puts-cut {a = []} c.args.bytes.now c.in_err-put_gathered.ensures.puts)

pub returns-clause-adds : goal.returns-clause-adds
returns-clause-adds g c =
    rw c.in_ok-put_gathered.ensures.emptied
    (Puts-then {a = []} {b = c.args.bytes.now} c.put.result c.in_ok-put_gathered.ensures.puts
    (beside_no_room c.put.ensures.puts))
