use Rattle.stream_loop.proofs.Written.{cut_starved, done_well}
use Rattle.stream_loop.proofs.outbound.run_out.Goals as goal

pub returns-in-Done-clause-cut : goal.returns-in-Done-clause-cut
returns-in-Done-clause-cut g c = λ next.
    let f = c.flush.ensures.flushed in
    let old = g.K.Sink.view c.args.sink.now in
    let new = g.K.Sink.view c.flush.new.sink in
    cut_starved next old new (done_well f.0 _ _ old new f.2 c.in-Done.is f.1)
    c.flush.ensures.emptied
