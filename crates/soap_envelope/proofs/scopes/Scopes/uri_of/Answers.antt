use Rattle.std.proofs.Common.{reverse, sym, ap, ◌∙◌}
use Rattle.{std.specs.Option.option_or, soap_envelope.proofs.ScopeFacts.scope-uri}
use Rattle.soap_envelope.specs.Scopes.{undeclared_uri, uri_of}
use Rattle.soap_envelope.proofs.scopes.Scopes.uri_of.Goals as goal

pub returns-in-Some : goal.returns-in-Some
returns-in-Some c =
    let q = c.args.prefix.now in
    let marks = reverse c.self.inside.marks.items in
    ap (λ o. option_or o (undeclared_uri q)) c.in-Some.ensures
    ∙ sym (scope-uri marks c.self.inside.bound q c.self.invariant)
    ∙ ap (λ s. uri_of s q) c.self.view_is

pub returns-in-None : goal.returns-in-None
returns-in-None c =
    let q = c.args.prefix.now in
    let marks = reverse c.self.inside.marks.items in
    c.undeclared_uri.ensures
    ∙ ap (λ o. option_or o (undeclared_uri q)) c.in-None.ensures
    ∙ sym (scope-uri marks c.self.inside.bound q c.self.invariant)
    ∙ ap (λ s. uri_of s q) c.self.view_is
