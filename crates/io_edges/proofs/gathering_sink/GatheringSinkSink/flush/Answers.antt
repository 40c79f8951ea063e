use Rattle.std.proofs.Common.{[]}
use Rattle.io_edges.proofs.Putting.{beside_no_room, Puts-then}
use Rattle.io_edges.proofs.gathering_sink.GatheringSinkSink.flush.Goals as goal

pub returns-clause-adds : goal.returns-clause-adds
returns-clause-adds g c =
    rw (← c.self.view_is, c.in_ok-put_gathered.ensures.emptied)
    (Puts-then {a = []} {b = []} c.flush.result
    (rw c.deref.ensures.value at c.in_ok-put_gathered.ensures.puts)
    (beside_no_room c.flush.ensures.puts))
