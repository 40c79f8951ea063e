use Rattle.std.proofs.Common.{◌^◌, ◌<◌, arith, sym, subst}
use Rattle.reliable_sequence.specs.Made.{AreSmall}
use Rattle.reliable_sequence.specs.Ranges.{begun_at}
use Rattle.reliable_sequence.specs.Received.{newest, received_ranges}
use Rattle.reliable_sequence.proofs.incoming.Incoming.ranges.Goals as goal
use Rattle.reliable_sequence.proofs.{MadeFacts.small-ranges, NumberFacts.runs-below, RangeLaws.rising}

pub returns-clause-small : goal.returns-clause-small
returns-clause-small c =
    let r = c.args.self.now in
    let small : newest r < 2 ^ 64 = let e = c.newest-newest.ensures in omega arith in
    subst AreSmall (sym c.in_ok-ranges.ensures)
    (small-ranges (newest r) 1 (received_ranges r)
    (runs-below r.held (begun_at r.delivered) r.delivered (newest r) (omega arith)) (rising r)
    small)
