use Rattle.std.proofs.Common.{◌∙◌, ◌<◌, ◌-◌, ap, arith, drop, length}
use Rattle.soap_envelope.proofs.BindingFacts.{keep-step}
use Rattle.soap_envelope.proofs.bindings.Bindings.keep.Goals as goal

pub loop-self-preserved : goal.loop-self-preserved
loop-self-preserved c =
    let ds = c.loop-self.self in
    let more : c.args.count < length ds = omega (arith, c.loop-self-test.true, c.len.ensures) in
    ap (λ s. drop (length s - c.args.count) s) c.pop.ensures
    ∙ keep-step ds c.args.count more
    ∙ c.loop-self.invariant
