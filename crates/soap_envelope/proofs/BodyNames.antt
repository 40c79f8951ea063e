-- The content of a view's Body has in any reply the names that it has in its document.
use Rattle.std.proofs.Common.{◌≡◌, ℕ, ◌+◌, List, [], ◌∷◌, drop, sym, refl, ap, ◌∙◌}
use Rattle.nbfx_values.specs.declared.content.Item.{Item, TheVariants.Attr, TheVariants.Xmlns}
use Rattle.soap_envelope.specs.{Body.behind_head, Laws.BodiesAreNamed, Made.reply_scope}
use Rattle.soap_envelope.specs.{Parts.root_scope, Seen.BodyStands}
use Rattle.soap_envelope.specs.Resolved.{content_from, resolved_from}
use Rattle.soap_envelope.specs.Scopes.{Scope, within}
use Rattle.soap_envelope.proofs.{BodyScope.body-scope, Contents.view-stands}
use Rattle.soap_envelope.proofs.{ResolvedPlaces.drop-resolved, Standing.content-stands}

head-left : (scope : Scope) (xs : List Item)
    → content_from 0 (resolved_from scope (behind_head xs))
    ≡ content_from 0 (resolved_from scope xs)
head-left scope (Xmlns p u ∷ xs) = head-left scope xs
head-left scope (Attr p l v ∷ xs) = head-left scope xs
head-left scope xs = refl

pub bodies_are_named : BodiesAreNamed
bodies_are_named doc v document h =
    let stands : BodyStands doc v = rw h at (view-stands doc) in
    let base = within doc v.body_at (root_scope doc) in
    let behind = drop (v.body_at + 1) doc in
    let body = body-scope doc v document h in
    ap (λ body. content_from 0 (resolved_from (reply_scope v.version) body)) stands.content
    ∙ (content-stands v.version base (behind_head behind) body.reach body.good).1
    ∙ head-left base behind
    ∙ ap (λ scope. content_from 0 (resolved_from scope behind)) (sym body.here)
    ∙ ap (content_from 0) (sym (drop-resolved [] (v.body_at + 1) doc))
