-- Replies, item by item.
use Rattle.std.specs.Prelude.{◌≡◌, ℕ, Bool, false, List, [], ◌∷◌, ◌++◌, pos, IsTrue, Some, codes}
use Rattle.{std.specs.List.list_all, nbfx_values.specs.Positions.position_from}
use Rattle.nbfx_values.specs.declared.{content.Item.Item, position.Position.TheVariants.Within}
use Rattle.nbfx_values.specs.declared.content.Item.TheVariants.{Attr, Close, Start, Text, Xmlns}
use Rattle.nbfx_values.specs.declared.scalars.Scalar.TheVariants.{Number, Text as TextOf}
use Rattle.nbfx_values.specs.{declared.scalars.Value.TheVariants.One, Scalars.is_valid_value}
use Rattle.soap_envelope.specs.{Names.soap, Versions.namespace}
use Rattle.soap_envelope.specs.declared.versions.Addressing.{Addressing}

-- a valid text
abbrev pub is_valid_text : Item → Bool
is_valid_text (Text value) = is_valid_value value
is_valid_text _ = false

-- whether all are
abbrev pub AreTexts : List Item → Type 0
AreTexts items = IsTrue (list_all is_valid_text items)

-- the items may stand inside an element behind its attributes: as many elements are open behind
-- them as before them, and never fewer
abbrev pub IsContent : List Item → Type 0
IsContent items = position_from (Some (Within 0 false)) items ≡ Some (Within 0 false)

abbrev pub words : List ℕ → Item
words characters = Text (One (TextOf characters))

-- an element of SOAP's and one of addressing's, by the prefixes that every reply declares
abbrev pub soap_start : List ℕ → Item
soap_start local = Start (codes "s") local

abbrev pub addressing_start : List ℕ → Item
addressing_start local = Start (codes "a") local

-- the Action that must be understood
abbrev pub action_block : List ℕ → List Item
action_block action =
    addressing_start (codes "Action") ∷ Attr (codes "s") (codes "mustUnderstand")
    (One (Number (pos 1)))
    ∷ words action ∷ Close ∷ []

-- the RelatesTo with these texts, where there are some
abbrev pub relates_block : List Item → List Item
relates_block [] = []
relates_block texts = addressing_start (codes "RelatesTo") ∷ (texts ++ Close ∷ [])

-- up to the first block, from the end of Header to the content of Body, and behind that
abbrev pub opening : Addressing → List Item
opening version =
    soap_start (codes "Envelope") ∷ Xmlns (codes "s") soap
    ∷ Xmlns (codes "a") (namespace version) ∷ soap_start (codes "Header") ∷ []

abbrev pub middle : List Item
middle = Close ∷ soap_start (codes "Body") ∷ []

abbrev pub ending : List Item
ending = Close ∷ Close ∷ []

-- an envelope in a version with this action, these texts of RelatesTo, these further blocks, and
-- this content of Body
abbrev pub envelope_items : Addressing → List ℕ → (relates blocks body : List Item) → List Item
envelope_items version action relates blocks body =
    opening version ++
    (action_block action ++ (relates_block relates ++ (blocks ++ (middle ++ (body ++ ending)))))

-- the action of the reply to a request
abbrev pub response_action : List ℕ → List ℕ
response_action action = action ++ codes "Response"

abbrev pub reply_items : Addressing → List ℕ → (relates body : List Item) → List Item
reply_items version action relates body =
    envelope_items version (response_action action) relates [] body
