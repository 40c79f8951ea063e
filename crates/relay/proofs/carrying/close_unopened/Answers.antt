use Rattle.std.proofs.Common.{[]}
use Rattle.stream_loop.proofs.Parts.{given_none}
use Rattle.relay.proofs.Closing.{carries_unopened, none_whole}
use Rattle.relay.proofs.carrying.close_unopened.Goals as goal

pub returns-clause-carries : goal.returns-clause-carries
returns-clause-carries g c = λ x events unbegun.
    let first = g.K.Sink.view c.args.sink.now in
    let m = c.close.new.self in
    let wrote = c.close.ensures.closed first [] (given_none first c.new-parts.result
    c.new-parts.ensures.fresh) in
    rw c.end.ensures.kept (carries_unopened first (g.K.Sink.view c.close.new.sink) m.outbound
    c.args.last.now _ wrote c.written_by.ensures x events unbegun)

pub returns-clause-none : goal.returns-clause-none
returns-clause-none g c =
    let first = g.K.Sink.view c.args.sink.now in
    none_whole c.close.new.self.outbound c.args.last.now first c.close.new.self.whole
    (g.K.Sink.view c.close.new.sink)
    (c.close.ensures.closed first [] (given_none first c.new-parts.result
    c.new-parts.ensures.fresh))
