use Rattle.std.proofs.Common.{◌≡◌, ◌+◌, [], Some, drop, take, sym, subst, ap, ◌∙◌}
use Rattle.nbfx_values.specs.QuotasOf.{limits_of}
use Rattle.soap_envelope.specs.Body.{behind_head, body_items, needed, self_standing}
use Rattle.soap_envelope.specs.{Making.IsContent, Parts.root_scope, Scopes.declared, Scopes.within}
use Rattle.soap_envelope.proofs.Contents.{body-content}
use Rattle.soap_envelope.proofs.FitFacts.{needs-none, needs-some}
use Rattle.soap_envelope.proofs.taking.take_body.Goals as goal

pub returns-then-needs_nothing-clause-content : goal.returns-then-needs_nothing-clause-content
returns-then-needs_nothing-clause-content c =
    let doc = c.args.doc in
    let version = c.args.version in
    let at = c.args.at in
    let first = c.content_places-first.result.0 in
    let end = c.content_places-first.result.1 in
    let seen : c.as_slice.result.now ≡ doc = c.as_slice.ensures ∙ c.items.ensures.same in
    let seen_again : c.as_slice-2.result.now ≡ doc =
    c.as_slice-2.ensures ∙ c.items-2.ensures.same in
    let none : needed version (within doc at (root_scope doc)) ≡ [] =
    rw seen_again at (c.needs_nothing.ensures c.if-needs_nothing.true) in
    let both : drop first (take end doc)
    ≡ self_standing [] (Some 0) (behind_head (drop (at + 1) doc)) =
    rw seen at c.content_places-first.ensures.both in
    let is : c.rest.result ≡ body_items version doc (root_scope doc) at =
    c.rest.ensures
    ∙ ap (drop first) (c.first_of.ensures ∙ ap (take end) c.into_items.ensures.same)
    ∙ both
    ∙ ap (λ ds. self_standing ds (Some 0) (behind_head (drop (at + 1) doc))) (sym none) in
    subst IsContent (sym is) (body-content version doc at c.items.ensures.document c.requires)

pub returns-in_default-clause-same : goal.returns-in_default-clause-same
returns-in_default-clause-same c =
    let doc = c.args.doc in
    let version = c.args.version in
    let at = c.args.at in
    let seen : c.as_slice-3.result.now ≡ doc = c.as_slice-3.ensures ∙ c.items-3.ensures.same in
    needs-none (limits_of c.args.quotas.now) (behind_head (drop (at + 1) doc))
    (body_items version doc (root_scope doc) at) c.in_ok-needs.field-0 c.in_default.not-Some
    (rw seen at c.in_ok-needs.ensures)

pub returns-clause-content : goal.returns-clause-content
returns-clause-content c =
    let doc = c.args.doc in
    let version = c.args.version in
    let at = c.args.at in
    let needs = declared c.in-Some.needs in
    let content = behind_head (drop (at + 1) doc) in
    let first = c.content_places-first.result.0 in
    let seen : c.as_slice.result.now ≡ doc = c.as_slice.ensures ∙ c.items.ensures.same in
    let seen_again : c.as_slice-3.result.now ≡ doc =
    c.as_slice-3.ensures ∙ c.items-3.ensures.same in
    let taken : c.rest-2.result ≡ content =
    c.rest-2.ensures
    ∙ ap (drop first) c.into_items-2.ensures.same
    ∙ rw seen at c.content_places-first.ensures.first in
    let standing : self_standing needs (Some 0) content ≡ body_items version doc (root_scope doc)
    at =
    needs-some (limits_of c.args.quotas.now) content (body_items version doc (root_scope doc) at)
    c.in_ok-needs.field-0 c.in-Some.needs c.in-Some.is
    (rw seen_again at c.in_ok-needs.ensures) in
    let is : c.in_ok-body.body ≡ body_items version doc (root_scope doc) at =
    c.in_ok-body.ensures ∙ ap (self_standing needs (Some 0)) taken ∙ standing in
    subst IsContent (sym is) (body-content version doc at c.items.ensures.document c.requires)
