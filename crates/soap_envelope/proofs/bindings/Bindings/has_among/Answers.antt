use Rattle.std.proofs.Common.{◌≡◌, ◌-◌, length, nat_le, Some, None, sym, ap, ◌∙◌, arith}
use Rattle.soap_envelope.specs.Bindings.{last_of}
use Rattle.soap_envelope.proofs.BindingFacts.{is_near, last-near, last-within}
use Rattle.soap_envelope.proofs.bindings.Bindings.has_among.Goals as goal

pub overflow_sub-result : goal.overflow_sub-result
overflow_sub-result c =
    let ds = c.args.self.now in
    let place : last_of c.args.prefix.now ds ≡ Some c.in-Some.at =
    sym c.place_of.ensures ∙ c.in-Some.is in
    omega (arith, last-within c.args.prefix.now ds c.in-Some.at place, c.len.ensures)

pub returns-in-Some : goal.returns-in-Some
returns-in-Some c =
    let ds = c.args.self.now in
    let count = c.args.count in
    let place : last_of c.args.prefix.now ds ≡ Some c.in-Some.at =
    sym c.place_of.ensures ∙ c.in-Some.is in
    ap (λ n. nat_le (n - c.in-Some.at) count) c.len.ensures
    ∙ ap (is_near count (length ds)) (sym place)
    ∙ last-near c.args.prefix.now ds count c.requires

pub returns-in-None : goal.returns-in-None
returns-in-None c =
    let ds = c.args.self.now in
    let count = c.args.count in
    let place : last_of c.args.prefix.now ds ≡ None = sym c.place_of.ensures ∙ c.in-None.is in
    ap (is_near count (length ds)) (sym place)
    ∙ last-near c.args.prefix.now ds count c.requires
