use Rattle.std.proofs.Common.{arith}
use Rattle.stream_loop.proofs.part_writer.PartWriter.relieve.Goals as goal

pub returns-then-size-ge-MOST_GATHERED-clause-given :
    goal.returns-then-size-ge-MOST_GATHERED-clause-given
returns-then-size-ge-MOST_GATHERED-clause-given g c = λ first parts h.
    c.put_gathered.ensures.given first parts h

pub returns-then-size-ge-MOST_GATHERED-clause-little :
    goal.returns-then-size-ge-MOST_GATHERED-clause-little
returns-then-size-ge-MOST_GATHERED-clause-little g c =
    rw c.put_gathered.ensures.emptied (omega arith)

pub returns-else-size-ge-MOST_GATHERED-clause-given :
    goal.returns-else-size-ge-MOST_GATHERED-clause-given
returns-else-size-ge-MOST_GATHERED-clause-given g c = λ first parts h. h
