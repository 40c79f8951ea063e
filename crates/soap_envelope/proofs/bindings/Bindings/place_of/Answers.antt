use Rattle.std.proofs.Common.{◌≡◌, ◌∙◌, ◌≤◌, ◌-◌, None, Some, ap, arith, drop, length, map, reverse}
use Rattle.std.proofs.Common.{sym, take}
use Rattle.soap_envelope.specs.Bindings.{bound_as, declarations, few, last_beyond, last_of}
use Rattle.soap_envelope.proofs.BindingFacts.{beyond-none, beyond-some, declarations-length}
use Rattle.soap_envelope.proofs.BindingFacts.{declarations-take}
use Rattle.soap_envelope.proofs.bindings.Bindings.place_of.Goals as goal

pub returns-in-Some : goal.returns-in-Some
returns-in-Some c =
    let q = c.args.prefix.now in
    let ds = declarations c.self.inside.bound in
    let at : last_beyond q ds ≡ Some c.in-Some.at.now =
    sym (c.self.invariant.found q) ∙ sym c.in-Some.ensures.value in
    sym (ap (last_of q) (sym c.self.view_is) ∙ beyond-some q ds c.in-Some.at.now at)

pub returns-in-None : goal.returns-in-None
returns-in-None c =
    let q = c.args.prefix.now in
    let bound = c.self.inside.bound in
    let ds = declarations bound in
    let none : last_beyond q ds ≡ None =
    sym (c.self.invariant.found q) ∙ sym c.in-None.ensures.value in
    let many : few ≤ length ds =
    omega (arith, declarations-length bound.items, c.if-len-le-FEW.false, c.len.ensures, bound.ok.0)
    in
    c.last_among-in-None.ensures
    ∙ ap (λ xs. last_of q (map bound_as (reverse (take few xs)))) c.deref.ensures.value
    ∙ ap (last_of q) (declarations-take few bound.items)
    ∙ ap (λ n. last_of q (drop (n - few) ds)) (sym (declarations-length bound.items))
    ∙ sym (beyond-none q ds many none)
    ∙ ap (last_of q) c.self.view_is
