use Rattle.std.proofs.Common.{List}
use Rattle.nbfx_values.specs.{declared.content.Item.Item, QuotasOf.limits_of}
use Rattle.session_generator.{specs.UnderWay.IsUnderWay, proofs.Looping.AreSentBefore}
use Rattle.session_generator.proofs.generating.generate.Given as goal

abbrev pub invariant-loop-number : goal.invariant-loop-number
invariant-loop-number l = (done : List (List Item))
    × AreSentBefore l.fn.seed l.fn.count l.state l.number done
    × IsUnderWay (limits_of l.fn.quotas) l.statics done l.session
