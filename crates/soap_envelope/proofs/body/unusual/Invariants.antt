-- Those of the declarations so far that not every reply has.
use Rattle.std.proofs.Common.{◌≡◌, map}
use Rattle.soap_envelope.specs.{Body.unusual, Layers.layer_of, Scopes.declaration}
use Rattle.soap_envelope.proofs.body.unusual.Given as goal

abbrev pub invariant-loop-prefix : goal.invariant-loop-prefix
invariant-loop-prefix l = layer_of l.needs
    ≡ unusual l.version (map (λ entry. declaration entry.0.now entry.1.now) l.yielded)
