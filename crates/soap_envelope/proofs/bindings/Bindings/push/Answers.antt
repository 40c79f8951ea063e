use Rattle.std.proofs.Common.{◌≡◌, ◌+◌, ◌≤◌, length, ap, ◌∙◌, arith}
use Rattle.{std.proofs.lemmas.List.length_push, soap_envelope.specs.Bindings.few}
use Rattle.soap_envelope.proofs.BindingFacts.{kept-few, kept-none}
use Rattle.soap_envelope.proofs.bindings.Bindings.push.Goals as goal

pub invariant_of-self-2 : goal.invariant_of-self-2
invariant_of-self-2 c =
    let bound = c.self.inside.bound in
    let places = c.self.inside.places in
    let before : length bound.items + 1 ≤ few =
    omega (arith, c.if-len-ge-FEW.false, c.len.ensures, bound.ok.0) in
    let count : length c.push.new.self.items ≡ length bound.items + 1 =
    ap length c.in_ok-push.ensures.items ∙ length_push bound.items _ in
    kept-few c.push.new.self places (omega (arith, before, count))
    (λ q. kept-none bound places q (omega (arith, before)) c.self.invariant)
