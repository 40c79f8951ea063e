use Rattle.{std.proofs.Common.arith, nmf_records.proofs.Heads.int_within}
use Rattle.nmf_records.proofs.head.envelope_at.Goals as goal

pub overflow_add-result : goal.overflow_add-result
overflow_add-result c =
    let within = int_within _ _ _ c.in-Done.ensures.0 in
    let few = c.type_inv.bytes in
    omega (arith, within, few)
