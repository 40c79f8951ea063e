use Rattle.std.proofs.Common.{◌≡◌, Some, None, sym, ap, ◌∙◌, arith}
use Rattle.soap_envelope.specs.{Bindings.declarations, Bindings.last_of, Scopes.uri_in}
use Rattle.soap_envelope.proofs.BindingFacts.{declarations-length, last-none, last-uri, last-within}
use Rattle.soap_envelope.proofs.bindings.Bindings.uri_among.Goals as goal

pub index-requires : goal.index-requires
index-requires c =
    let q = c.args.prefix.now in
    let bound = c.self.inside.bound in
    let place : last_of q (declarations bound) ≡ Some c.in-Some.at =
    ap (last_of q) c.self.view_is ∙ sym c.place_of.ensures ∙ c.in-Some.is in
    omega (
      arith,
      last-within q (declarations bound) c.in-Some.at place,
      declarations-length bound.items,
      bound.ok.0,
    )

pub returns-in-Some : goal.returns-in-Some
returns-in-Some c =
    let q = c.args.prefix.now in
    let bound = c.self.inside.bound in
    let one = c.index.result.now in
    let place : last_of q (declarations bound) ≡ Some c.in-Some.at =
    ap (last_of q) c.self.view_is ∙ sym c.place_of.ensures ∙ c.in-Some.is in
    sym (ap (λ ds. uri_in ds q) (sym c.self.view_is)
    ∙ last-uri q bound.items c.in-Some.at one place
    ∙ ap (λ b. Some b.uri.now) (sym c.index.ensures))

pub returns-in-None : goal.returns-in-None
returns-in-None c =
    let none : last_of c.args.prefix.now c.args.self.now ≡ None =
    sym c.place_of.ensures ∙ c.in-None.is in
    sym (last-none c.args.prefix.now c.args.self.now none)
