use Rattle.{std.proofs.Common.ap, std.proofs.Common.arith, unit_streams.proofs.Peeling.extent}
use Rattle.nmf_records.proofs.Short.{begun_short, decided_short}
use Rattle.nmf_records.proofs.laws.record_lengths.Goals as goal

pub returns-clause-begun : goal.returns-clause-begun
returns-clause-begun c limits expect bytes e = omega (arith, begun_short limits expect bytes e)

pub returns-clause-whole : goal.returns-clause-whole
returns-clause-whole c limits expect bytes read n e = omega
    (arith, ap extent e, decided_short limits expect bytes)

pub returns-clause-wrong : goal.returns-clause-wrong
returns-clause-wrong c limits expect bytes fault n e = omega
    (arith, ap extent e, decided_short limits expect bytes)
