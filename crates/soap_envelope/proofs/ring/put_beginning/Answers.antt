-- What a child needs that declares nothing.
use Rattle.std.proofs.Common.{◌≡◌, ◌++◌, [], ◌∷◌, OnOk, ap, append_assoc, map, refl, subst, sym, take}
use Rattle.std.proofs.Common.{◌∙◌}
use Rattle.soap_envelope.specs.{Body.xmlns_of, Layers.needs_of, Scopes.declared}
use Rattle.soap_envelope.proofs.FitFacts.{all-missing}
use Rattle.soap_envelope.proofs.ring.put_beginning.Goals as goal

pub returns-then-declares_nothing : goal.returns-then-declares_nothing
returns-then-declares_nothing c =
    let needs = needs_of c.args.needs.now in
    let ring = c.args.ring.now.items in
    let item = c.args.item in
    let all =
    all-missing needs (declared (take c.args.left ring))
    (c.if-declares_nothing.ensures refl c.args.left) in
    subst (λ items. OnOk c.put_declarations.result (c.put_declarations.new.ring.items ≡ items))
    (ap (λ items. items ++ map xmlns_of needs) c.in_ok-put_last.ensures
    ∙ append_assoc ring (item ∷ []) (map xmlns_of needs)
    ∙ ap (λ ds. ring ++ item ∷ map xmlns_of ds) (sym all)) c.put_declarations.ensures
