use Rattle.std.proofs.{Common.take, lemmas.Result.err_from_is_err_and}
use Rattle.io_edges.proofs.Putting.{none_of, some_behind}
use Rattle.io_edges.proofs.gathering_sink.gather_some.Goals as goal

pub returns-in_err-put_gathered-clause-adds : goal.returns-in_err-put_gathered-clause-adds
returns-in_err-put_gathered-clause-adds g c =
    let p = err_from_is_err_and c.from_residual.result c.from_residual.ensures.1 in
    rw (p.1, p.2, c.in_err-put_gathered.ensures.emptied)
    (none_of c.in_err-put_gathered.ensures.puts)

pub returns-clause-adds : goal.returns-clause-adds
returns-clause-adds g c =
    rw c.in_ok-put_gathered.ensures.emptied
    (some_behind (g.K.Sink.view c.args.sink.now) (take c.args.used.now c.args.room.now)
    c.put_some.result
    c.in_ok-put_gathered.ensures.puts c.put_some.ensures.puts)
