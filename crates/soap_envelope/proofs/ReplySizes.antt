-- A reply counts at least what the content of its Body does.
use Rattle.std.proofs.Common.{List, arith, inl, inr, le-leb, le_trans, leb-true, nat_le, sum_by, ℕ}
use Rattle.std.proofs.Common.{false, ◌&&◌, ◌++◌, ◌≡◌, ◌≤◌}
use Rattle.std.proofs.lemmas.Bool.{and_parts, cases_Bool}
use Rattle.nbfx_values.specs.Limits.{Limits}
use Rattle.std.proofs.{lemmas.List.Sums.sum_by-append}
use Rattle.least_payloads.specs.Least.{least_of_item, least_payload, may_fit}
use Rattle.nbfx_values.specs.Measures.{content_of, item_content}
use Rattle.nbfx_values.specs.declared.content.Item.{Item}
use Rattle.soap_envelope.specs.Making.{action_block, ending, middle, opening, relates_block}
use Rattle.soap_envelope.specs.Making.{reply_items, response_action}
use Rattle.soap_envelope.specs.{Sizes.UnfitBodiesAreUnfit, declared.versions.Addressing.Addressing}

-- what stands between others counts no more than all
pub within-least : (f : Item → ℕ) (before items behind : List Item)
    → sum_by f items ≤ sum_by f (before ++ (items ++ behind))
within-least f before items behind =
    rw (sum_by-append f before (items ++ behind))
    (rw (sum_by-append f items behind) (omega arith))

pub behind-least : (f : Item → ℕ) (before items : List Item)
    → sum_by f items ≤ sum_by f (before ++ items)
behind-least f before items = rw (sum_by-append f before items) (omega arith)

reply-least : (f : Item → ℕ) (version : Addressing) (action : List ℕ) (relates body : List Item)
    → sum_by f body ≤ sum_by f (reply_items version action relates body)
reply-least f version action relates body =
    let block = action_block (response_action action) in
    let behind = middle ++ (body ++ ending) in
    let inner = within-least f middle body ending in
    let related = behind-least f (relates_block relates) behind in
    let around = behind-least f block (relates_block relates ++ behind) in
    let all = behind-least f (opening version) (block ++ (relates_block relates ++ behind)) in
    le_trans inner (le_trans related (le_trans around all))

-- what counts more than what doesn't fit doesn't fit
pub fits-less : (limits : Limits) (content payload more least : ℕ) → content ≤ more
    → payload ≤ least → (nat_le content limits.content && nat_le payload limits.payload) ≡ false
    → (nat_le more limits.content && nat_le least limits.payload) ≡ false
fits-less limits content payload more least c p unfit =
    elim (cases_Bool (nat_le more limits.content && nat_le least limits.payload)) [
      | inl fit ↦
          let parts = and_parts (nat_le more limits.content) (nat_le least limits.payload) fit in
          let all = leb-true more limits.content parts.0 in
          let whole = leb-true least limits.payload parts.1 in
          let few = le-leb content limits.content (omega (arith, all, c)) in
          let small = le-leb payload limits.payload (omega (arith, whole, p)) in
          cc (rw (few, small) at unfit)
      | inr other ↦ other
    ]

pub unfit_bodies_are_unfit : UnfitBodiesAreUnfit
unfit_bodies_are_unfit limits version action relates body unfit =
    let reply = reply_items version action relates body in
    fits-less limits (content_of body) (least_payload body) (content_of reply) (least_payload reply)
    (reply-least item_content version action relates body)
    (reply-least least_of_item version action relates body) unfit
