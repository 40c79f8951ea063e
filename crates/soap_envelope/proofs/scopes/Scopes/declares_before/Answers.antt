use Rattle.std.proofs.Common.{reverse, take, is_some, ap, ◌∙◌}
use Rattle.soap_envelope.specs.{Bindings.innermost, Scopes.uri_in}
use Rattle.soap_envelope.proofs.ScopeFacts.{innermost-take, innermost-within}
use Rattle.soap_envelope.proofs.scopes.Scopes.declares_before.Goals as goal

pub has_among-requires : goal.has_among-requires
has_among-requires c =
    let marks = reverse c.self.inside.marks.items in
    innermost-within marks c.self.inside.bound c.args.count (rw c.self.view_is c.requires)

pub returns : goal.returns
returns c =
    let marks = reverse c.self.inside.marks.items in
    c.has_among.ensures
    ∙ ap (λ ds. is_some (uri_in ds c.args.prefix.now))
    (innermost-take marks c.self.inside.bound c.args.count (rw c.self.view_is c.requires)
    ∙ ap (λ s. take c.args.count (innermost s)) c.self.view_is)
