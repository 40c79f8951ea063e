-- The declarations around the content of Body, and what is known of its names there.
use Rattle.std.proofs.Common.{Err, List, None, Ok, Option, Result, Some, [], add-one, ap, drop, not}
use Rattle.std.proofs.Common.{option_map, refl, slice_get, subst, true, ℕ, ◌+◌, ◌≡◌}
use Rattle.std.specs.List.{list_all}
use Rattle.nbfx_values.proofs.Walks.{document-position}
use Rattle.nbfx_values.specs.{Documents.IsDocument, declared.content.Item.Item}
use Rattle.nbfx_values.specs.{declared.position.Position.TheVariants.Before}
use Rattle.soap_envelope.proofs.GoodNames.{good_names, head-good, names-at, names-good}
use Rattle.soap_envelope.proofs.ResolvedPlaces.{children-stand, inside, root-starts}
use Rattle.soap_envelope.proofs.{Apart.are_apart, Apart.in_scope-apart, BoundNames.starts-apart}
use Rattle.soap_envelope.proofs.{Contents.among-each, Contents.view-stands, InScope.Reached}
use Rattle.soap_envelope.proofs.{InScope.needs-reach, ResolvedViews.each-filter}
use Rattle.soap_envelope.specs.Parts.{kept_children, parts_of, root_scope, wrong_root}
use Rattle.soap_envelope.specs.View.{View, header_fault, unless, view, viewed, viewed_by}
use Rattle.soap_envelope.specs.declared.refusals.SoapFault.TheVariants.{BadNames}
use Rattle.soap_envelope.specs.{BadNames.bad_name, Bindings.scope_to, Body.behind_head, Body.needed}
use Rattle.soap_envelope.specs.{Characters.is_passed, Children.children_of, Children.is_start}
use Rattle.soap_envelope.specs.{Scopes.is_bound, Scopes.within, Seen.BodyStands}
use Rattle.soap_envelope.specs.{declared.parts.Parts.Parts, declared.refusals.SoapFault.SoapFault}

-- what was viewed has good names, begins with its root, and has its parts
passes : {X : Type 0} (fault : Option SoapFault) (r : Result X SoapFault) (x : X)
    → unless fault r ≡ Ok x → (fault ≡ None) × (r ≡ Ok x)
passes None r x h = (refl, h)
passes (Some fault) r x h = absurd cc

no-bad_name : (bad : Option ℕ) → option_map BadNames bad ≡ None → bad ≡ None
no-bad_name None h = refl
no-bad_name (Some at) h = absurd cc

pub record IsViewed (doc : List Item) (v : View) : Type 0 where
  pub names : bad_name doc ≡ None
  pub root : is_start (slice_get doc 0) ≡ true
  pub parts : Parts
  pub are_parts : parts_of doc ≡ Ok parts
  pub place : parts.body ≡ v.body_at

pub is-viewed : (doc : List Item) (v : View) → view doc ≡ Ok v → IsViewed doc v
is-viewed doc v h =
    let later = unless (wrong_root doc) (viewed_by doc (parts_of doc)) in
    let named = passes (option_map BadNames (bad_name doc)) later v h in
    let rooted = passes (wrong_root doc) (viewed_by doc (parts_of doc)) v named.1 in
    by (parts_of doc) refl rooted.1 (no-bad_name (bad_name doc) named.0)
    (root-starts (within doc 0 []) (slice_get doc 0) rooted.0)
  where
    by : (parts : Result Parts SoapFault) → parts_of doc ≡ parts → viewed_by doc parts ≡ Ok v
        → bad_name doc ≡ None → is_start (slice_get doc 0) ≡ true → IsViewed doc v
    by (Err fault) is h names root = absurd cc
    by (Ok parts) is h names root =
        let seen = passes (header_fault doc parts.header) (Ok (viewed doc parts)) v h in
        let same : viewed doc parts ≡ v = cc seen.1 in
        record {
          names = names;
          root = root;
          parts = parts;
          are_parts = is;
          place = ap (λ (w : View). w.body_at) same;
        }

-- Body stands within the root
around-body : (doc : List Item) (parts : Parts) → is_start (slice_get doc 0) ≡ true
    → parts_of doc ≡ Ok parts → scope_to [] parts.body doc ≡ root_scope doc
around-body doc parts root h =
    let P : ℕ → Type 0 = (λ c. scope_to [] c doc ≡ root_scope doc) in
    (among-each doc P (root_scope doc) (kept_children doc 0) parts
    (each-filter P (λ child. not (is_passed (slice_get doc child))) (children_of doc 0)
    (children-stand doc 0 [] refl root)) h).0

-- the names of the content are good where it stands, and mean the same with what children need
pub record BodyScope (doc : List Item) (v : View) : Type 0 where
  pub here : scope_to [] (v.body_at + 1) doc ≡ within doc v.body_at (root_scope doc)
  pub good : good_names (within doc v.body_at (root_scope doc))
      (behind_head (drop (v.body_at + 1) doc)) ≡ true
  pub reach : let base = within doc v.body_at (root_scope doc) in
      (p : List ℕ) → is_bound base p ≡ true → Reached v.version (needed v.version base) base p

pub body-scope : (doc : List Item) (v : View) → IsDocument doc → view doc ≡ Ok v
    → BodyScope doc v
body-scope doc v document h =
    let seen = is-viewed doc v h in
    let stands : BodyStands doc v = rw h at (view-stands doc) in
    let root = root_scope doc in
    let base = within doc v.body_at root in
    let behind = drop (v.body_at + 1) doc in
    let at_body : scope_to [] v.body_at doc ≡ root =
    subst (λ c. scope_to [] c doc ≡ root) seen.place
    (around-body doc seen.parts seen.root seen.are_parts) in
    let here : scope_to [] (v.body_at + 1) doc ≡ base =
    inside doc v.body_at root at_body stands.starts in
    let good = names-good Before [] 0 doc (document-position doc document) (λ e. absurd cc)
    seen.names in
    let good_there : good_names base behind ≡ true =
    subst (λ scope. good_names scope behind ≡ true) here (names-at [] (v.body_at + 1) doc good) in
    let apart : list_all are_apart base ≡ true =
    rw add-one
    (rw (starts-apart [] v.body_at doc good stands.starts, starts-apart [] 0 doc good seen.root)
    refl) in
    record {
      here = here;
      good = head-good base behind good_there;
      reach = needs-reach v.version base apart (in_scope-apart base);
    }
