-- What services say to a request, by its action and the content of its Body.
use Rattle.std.specs.Prelude.{◌≡◌, ℕ, Bool, false, List, [], ◌∷◌, length, nat_lt, Some, None}
use Rattle.std.specs.Prelude.{codes, Option, ⊤}
use Rattle.nbfx_values.specs.declared.content.Item.{Item, TheVariants.Close, TheVariants.Start}
use Rattle.{nbfx_values.specs.Limits.Limits, least_payloads.specs.Least.may_fit}
use Rattle.soap_envelope.specs.Making.{IsContent, words}
use Rattle.action_dispatch.specs.declared.service.Served.{Served, TheVariants.Unknown}
use Rattle.action_dispatch.specs.declared.service.Served.TheVariants.{Nothing, Refuse, Reply}

-- a reply may stand as the content of a Body
abbrev pub MayStand : Served → Type 0
MayStand (Reply body) = IsContent body
MayStand Nothing = ⊤
MayStand Unknown = ⊤
MayStand (Refuse reason) = ⊤

-- what is said doesn't depend on the content
abbrev pub Ignores : ((action : List ℕ) → (body : List Item) → Served) → Type 0
Ignores serves = (action : List ℕ) (body : List Item) → serves action body ≡ serves action []

-- the content is what a reply has
abbrev pub Returns : ((action : List ℕ) → (body : List Item) → Served) → Type 0
Returns serves = (action : List ℕ) (body : List Item) → serves action body ≡ Reply body

-- a reply whose content doesn't fit, so that the reply doesn't either
abbrev pub IsTooLarge : Limits → Served → Type 0
IsTooLarge limits (Reply body) = may_fit limits body ≡ false
IsTooLarge limits Nothing = ⊥
IsTooLarge limits Unknown = ⊥
IsTooLarge limits (Refuse reason) = ⊥

-- what is said to the action is such a reply, whatever the content
abbrev pub RepliesTooMuch : Limits → ((action : List ℕ) → (body : List Item) → Served)
    → (action : List ℕ) → Type 0
RepliesTooMuch limits serves action = (body : List Item) → IsTooLarge limits (serves action body)

-- the content comes back, whatever the action
abbrev pub echoed : (action : List ℕ) → (body : List Item) → Served
echoed action body = Reply body

-- an element in no namespace that holds a text
abbrev pub text_reply : List ℕ → List Item
text_reply text = Start [] (codes "reply") ∷ words text ∷ Close ∷ []

-- what is said to an action with this text, if it has one
abbrev pub reply_with : Option (List ℕ) → Served
reply_with None = Unknown
reply_with (Some text) = Reply (text_reply text)

-- whether an action has a text, which alone counts more than the quota on content
abbrev pub is_text_above : ℕ → Option (List ℕ) → Bool
is_text_above quota None = false
is_text_above quota (Some text) = nat_lt quota (length text)
