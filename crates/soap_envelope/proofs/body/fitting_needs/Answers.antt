use Rattle.std.proofs.Common.{◌≡◌, ◌+◌, Some, drop, map, sym, ap, ◌∙◌, true}
use Rattle.nbfx_values.specs.QuotasOf.{limits_of}
use Rattle.least_payloads.specs.Least.{may_fit}
use Rattle.soap_envelope.specs.Body.{behind_head, needed, self_standing, xmlns_of}
use Rattle.soap_envelope.specs.{Layers.kept, Parts.root_scope}
use Rattle.soap_envelope.specs.Scopes.{declared, within}
use Rattle.soap_envelope.proofs.Turning.{declared-again}
use Rattle.soap_envelope.proofs.body.fitting_needs.Goals as goal

pub returns : goal.returns
returns c =
    let items = c.args.items.now in
    let limits = limits_of c.args.quotas.now in
    let content = c.behind_head-content.result.now in
    let behind = behind_head (drop (c.args.at + 1) items) in
    let is : content ≡ behind = c.behind_head-content.ensures ∙ ap behind_head c.behind.ensures in
    let needs = needed c.args.version (within items c.args.at (root_scope items)) in
    let found : map kept c.in_ok-needs.needs.items ≡ needs = c.in_ok-needs.ensures in
    let again : declared c.in_ok-declarations.declarations ≡ needs =
    ap declared
    (c.in_ok-declarations.ensures ∙ ap (λ l. map xmlns_of (map kept l)) c.as_slice-2.ensures.value)
    ∙ declared-again (map kept c.in_ok-needs.needs.items)
    ∙ found in
    let counted : map kept c.as_slice.result.now ≡ needs =
    ap (map kept) c.as_slice.ensures.value ∙ found in
    let fit : may_fit limits (self_standing (map kept c.as_slice.result.now) (Some 0) content)
    ≡ true =
    sym c.in_ok-body_may_fit.ensures ∙ c.if-not-branch.false in
    let fits : may_fit limits (self_standing needs (Some 0) behind) ≡ true =
    rw (counted, is) at fit in
    (ap (λ ds. self_standing ds (Some 0) behind) again, fits)
