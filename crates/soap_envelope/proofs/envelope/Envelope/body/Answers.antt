use Rattle.std.proofs.Common.{◌≡◌, List, IfSome, Option, sym, subst}
use Rattle.std.proofs.lemmas.Result.{IfOk-weaker}
use Rattle.nbfx_values.specs.{declared.content.Item.Item, QuotasOf.limits_of}
use Rattle.soap_envelope.specs.{Body.body_items, Fitting.fitting}
use Rattle.soap_envelope.specs.{Making.IsContent, Parts.root_scope}
use Rattle.soap_envelope.proofs.{Contents.body-content, FitFacts.fitting-all}
use Rattle.soap_envelope.proofs.envelope.Envelope.body.Goals as goal

pub returns-clause-content : goal.returns-clause-content
returns-clause-content c =
    let items = c.self.inside.items.now in
    let at = c.self.inside.body in
    let version = c.self.inside.version in
    let limits = limits_of c.args.quotas.now in
    let content = fitting-all IsContent limits (body_items version items (root_scope items) at)
    (body-content version items at c.self.invariant.document c.self.invariant.starts) in
    IfOk-weaker c.body_items.result
    (λ body. body ≡ fitting limits (body_items version items (root_scope items) at))
    (λ body. IfSome body IsContent)
    (λ body same. subst (λ (b : Option (List Item)). IfSome b IsContent) (sym same) content)
    c.body_items.ensures
