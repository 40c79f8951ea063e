-- A reply up to the content of its Body, and what holds of the sizes of both by the definitions
-- alone.
use Rattle.std.specs.Prelude.{◌≡◌, ℕ, false, List, ◌++◌}
use Rattle.nbfx_values.specs.{declared.content.Item.Item, Limits.Limits}
use Rattle.soap_envelope.specs.declared.versions.Addressing.{Addressing}
use Rattle.least_payloads.specs.Least.{may_fit}
use Rattle.soap_envelope.specs.Making.{action_block, middle, opening, relates_block, reply_items}

-- in a version with this action, and these texts of RelatesTo
abbrev pub head_items : Addressing → (action : List ℕ) → (relates : List Item) → List Item
head_items version action relates =
    opening version ++ (action_block action ++ (relates_block relates ++ middle))

-- A reply with a content of Body that doesn't fit doesn't fit either.
abbrev pub UnfitBodiesAreUnfit : Type 0
UnfitBodiesAreUnfit = (limits : Limits) (version : Addressing) (action : List ℕ)
    (relates body : List Item) → may_fit limits body ≡ false
    → may_fit limits (reply_items version action relates body) ≡ false
