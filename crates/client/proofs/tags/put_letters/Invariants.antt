use Rattle.std.proofs.Common.{Ok, take}
use Rattle.io_edges.specs.Puts.{Puts}
use Rattle.client.specs.Tags.{letters}
use Rattle.client.proofs.tags.put_letters.Given as goal

abbrev pub invariant-loop-lane : goal.invariant-loop-lane
invariant-loop-lane g l = Puts (g.K.Sink.view l.fn.output) (g.K.Sink.view l.output)
    (letters (take l.lane-index l.tags)) (Ok tt)
