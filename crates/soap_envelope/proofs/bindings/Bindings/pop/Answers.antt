use Rattle.std.proofs.Common.{◌≡◌, ◌≤◌, [], ◌∷◌, ◌++◌, length, sym, ap, ◌∙◌, arith}
use Rattle.{std.proofs.lemmas.List.length_push, soap_envelope.specs.Bindings.few}
use Rattle.soap_envelope.proofs.BindingFacts.{declarations-length, kept-less, kept-there}
use Rattle.soap_envelope.proofs.bindings.Bindings.pop.Goals as goal

pub put_back-requires : goal.put_back-requires
put_back-requires c =
    let bound = c.self.inside.bound in
    let items : bound.items ≡ c.pop.new.self.items ++ c.in-Some.last ∷ [] =
    c.in-Some.ensures.items in
    let count : length c.args.self.now ≡ length bound.items =
    ap length (sym c.self.view_is) ∙ declarations-length bound.items in
    let more = ap length items ∙ length_push c.pop.new.self.items c.in-Some.last in
    let many : few ≤ length c.pop.new.self.items = omega (arith, c.requires, count, more) in
    kept-there bound c.pop.new.self c.self.inside.places c.in-Some.last items many c.self.invariant

pub invariant_of-self : goal.invariant_of-self
invariant_of-self c =
    let bound = c.self.inside.bound in
    let items : bound.items ≡ c.pop.new.self.items ++ c.in-Some.last ∷ [] =
    c.in-Some.ensures.items in
    let count : length c.args.self.now ≡ length bound.items =
    ap length (sym c.self.view_is) ∙ declarations-length bound.items in
    let more = ap length items ∙ length_push c.pop.new.self.items c.in-Some.last in
    let many : few ≤ length c.pop.new.self.items = omega (arith, c.requires, count, more) in
    kept-less bound c.pop.new.self c.self.inside.places c.put_back.new.places c.in-Some.last items
    many c.self.invariant (λ q. c.put_back.ensures q)
